use Rattle.std.proofs.Common.{◌+◌, List, Option, ap, drop, map, rules, sym, ◌∙◌}
use Rattle.std.proofs.lemmas.List.{at_drop_more}
use Rattle.jobs.specs.Meetings.{earliest_from, met, sooner}
use Rattle.jobs.specs.Takes.{Take}
use Rattle.jobs.specs.Ways.{stay_take}
use Rattle.jobs.specs.declared.meeting.Meeting.{Meeting}
use Rattle.jobs.specs.declared.stay.Stay.{Stay}
use Rattle.jobs.proofs.meeting.nearest_to.Goals as goal

pub loop-stay-preserved : goal.loop-stay-preserved
loop-stay-preserved c =
    let meets : Take → Option Meeting = λ x. met c.args.name x (stay_take c.args.held.now) in
    let own = c.args.own.now in
    let i = c.loop-stay.stay-index in
    let best = c.loop-stay.best in
    let left : List Stay → Option Meeting = λ ss. earliest_from best (map meets (map stay_take ss)) in
    ap (λ b. earliest_from b (map meets (map stay_take (drop (i + 1) own))))
    (c.nearer-best.ensures ∙ ap (λ s. sooner best (meets (stay_take s))) c.stay-item.is)
    ∙ sym (at_drop_more left own i c.stay-item.result (search rules))
    ∙ c.loop-stay.invariant
