use Rattle.std.proofs.Common.{map, None, ◌∙◌, rules}
use Rattle.std.proofs.lemmas.Iterator.{YieldsList-from_slice}
use Rattle.std.proofs.lemmas.Iterator.Consumers.{fold_from_yields_List}
use Rattle.jobs.specs.Routings.{job_of}
use Rattle.jobs.specs.Meetings.{earliest_from, meetings}
use Rattle.jobs.specs.Ways.{stay_take}
use Rattle.jobs.proofs.Meets.{each_job}
use Rattle.jobs.proofs.meeting.first_among.Goals as goal

pub returns : goal.returns
returns g c =
    let own = map stay_take c.args.own.now in
    let takes = g.J.Held.takes c.args.routing.now in
    fold_from_yields_List _ (λ b j. earliest_from b (meetings (g.J.Named.label j) own (takes j))) None c.fold.result c.fold.ensures.ran (YieldsList-from_slice c.args.held.now c.iter.ensures.rest) (λ b x d q k. search rules)
    ∙ each_job (job_of g.J.Named.label takes) None own c.args.held.now
