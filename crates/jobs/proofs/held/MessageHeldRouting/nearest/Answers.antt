use Rattle.std.proofs.Common.{List, map, sym, ap, ◌∙◌}
use Rattle.jobs.specs.Meetings.{earliest_from, meetings}
use Rattle.jobs.specs.Takes.{Take}
use Rattle.jobs.specs.Ways.{stay_take}
use Rattle.jobs.proofs.Meets.{takes_none_met}
use Rattle.jobs.proofs.held.MessageHeldRouting.nearest.Goals as goal

pub returns-in_default : goal.returns-in_default
returns-in_default g c =
    let own = map stay_take c.args.own.now in
    sym (takes_none_met c.args.best c.args.self.now.name own)
    ∙ ap (λ (ts : List Take). earliest_from c.args.best (meetings c.args.self.now.name own ts)) c.in_default.ensures
