use Rattle.std.proofs.Common.{◌+◌, List, map, sym, ap, ◌∙◌, arith}
use Rattle.jobs.specs.Meetings.{earliest_from, meetings}
use Rattle.jobs.specs.Takes.{Take}
use Rattle.jobs.specs.Ways.{stay_take}
use Rattle.jobs.proofs.Meets.{take_first, takes_none_met}
use Rattle.jobs.proofs.Walks.{takes_all, takes_from, takes_more, takes_none, takes_past}
use Rattle.jobs.proofs.way.Way.nearest.Goals as goal

pub loop-place-init : goal.loop-place-init
loop-place-init g c =
    let net = g.F.Fabric.meaning c.args.fabric.now in
    let own = map stay_take c.args.own.now in
    (omega (arith, c.args.self.now.soon), ap (λ (ts : List Take). earliest_from c.args.best (meetings c.args.name own ts)) (takes_all net c.args.self.now))

pub returns-in_default : goal.returns-in_default
returns-in_default g c =
    let net = g.F.Fabric.meaning c.args.fabric.now in
    let own = map stay_take c.args.own.now in
    let i = c.loop-place.place in
    sym (takes_none_met c.loop-place.best c.args.name own)
    ∙ ap (λ (ts : List Take). earliest_from c.loop-place.best (meetings c.args.name own ts)) (sym (takes_none net c.args.self.now i c.loop-place.start c.in_default.ensures))
    ∙ c.loop-place.invariant.1

pub loop-place-preserved : goal.loop-place-preserved
loop-place-preserved g c =
    let net = g.F.Fabric.meaning c.args.fabric.now in
    let w = c.args.self.now in
    let own = map stay_take c.args.own.now in
    let i = c.loop-place.place in
    let start = c.loop-place.start in
    let next = takes_from net w (i + 1) (start + net.delay) in (
      omega (arith, c.loop-place.invariant.0, (g.F.Fabric.lawful c.args.fabric.now).low_delay, c.hop_delay.ensures),
      ap (λ n. earliest_from c.nearest_to-best.result (meetings c.args.name own (takes_from net w (i + 1) (start + n)))) c.hop_delay.ensures
          ∙ ap (λ b. earliest_from b (meetings c.args.name own next)) c.nearest_to-best.ensures
          ∙ take_first c.loop-place.best c.args.name own (stay_take c.in-Some.stay) next
          ∙ ap (λ (ts : List Take). earliest_from c.loop-place.best (meetings c.args.name own ts)) (sym (takes_more net w i start c.in-Some.stay c.in-Some.ensures))
          ∙ c.loop-place.invariant.1,
    )

pub returns : goal.returns
returns g c =
    let net = g.F.Fabric.meaning c.args.fabric.now in
    let own = map stay_take c.args.own.now in
    let i = c.loop-place.place in
    sym (takes_none_met c.loop-place.best c.args.name own)
    ∙ ap (λ (ts : List Take). earliest_from c.loop-place.best (meetings c.args.name own ts))
    (sym (takes_past net c.args.self.now (g.F.Fabric.lawful c.args.fabric.now) i c.loop-place.start (omega (arith, c.reach-longest.ensures, c.loop-place-test.false))))
    ∙ c.loop-place.invariant.1
