use Rattle.std.proofs.Common.{◌≡◌, ◌+◌, ◌++◌, List, map, [], ◌∷◌, sym, ap, ◌∙◌, append-nil, rules, arith}
use Rattle.std.proofs.lemmas.List.{map-append}
use Rattle.jobs.specs.Takes.{Take}
use Rattle.jobs.specs.Ways.{stay_take}
use Rattle.jobs.proofs.Walks.{stays_more, takes_from, takes_none, takes_past}
use Rattle.jobs.proofs.way.Way.stays.Goals as goal

pub returns-in_default : goal.returns-in_default
returns-in_default g c =
    let net = g.F.Fabric.meaning c.args.fabric.now in
    let front = map stay_take c.loop-place.stays.items in
    sym (append-nil front)
    ∙ ap (λ (ts : List Take). front ++ ts) (sym (takes_none net c.args.self.now c.loop-place.place c.loop-place.start c.in_default.ensures))
    ∙ c.loop-place.invariant.2

pub loop-place-preserved : goal.loop-place-preserved
loop-place-preserved g c =
    let net = g.F.Fabric.meaning c.args.fabric.now in
    let w = c.args.self.now in
    let i = c.loop-place.place in
    let start = c.loop-place.start in
    let front = map stay_take c.loop-place.stays.items in
    let grown : map stay_take c.push.new.self.items ≡ front ++ (stay_take c.in-Some.stay ∷ []) =
    ap (map stay_take) c.push.ensures.items ∙ map-append stay_take c.loop-place.stays.items (c.in-Some.stay ∷ []) in (
      omega (arith, c.loop-place.invariant.0, (g.F.Fabric.lawful c.args.fabric.now).low_delay, c.hop_delay.ensures),
      search rules,
      ap (λ n. map stay_take c.push.new.self.items ++ takes_from net w (i + 1) (start + n)) c.hop_delay.ensures
          ∙ ap (λ ts. ts ++ takes_from net w (i + 1) (start + net.delay)) grown
          ∙ stays_more net w i start front _ c.in-Some.stay c.in-Some.ensures c.loop-place.invariant.2,
    )

pub returns : goal.returns
returns g c =
    let net = g.F.Fabric.meaning c.args.fabric.now in
    let front = map stay_take c.loop-place.stays.items in
    sym (append-nil front)
    ∙ ap (λ (ts : List Take). front ++ ts)
    (sym (takes_past net c.args.self.now (g.F.Fabric.lawful c.args.fabric.now) c.loop-place.place c.loop-place.start (omega (arith, c.reach-place-end.ensures, c.loop-place-test.false))))
    ∙ c.loop-place.invariant.2
