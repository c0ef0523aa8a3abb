use Rattle.std.proofs.Common.{map, ap, ◌∙◌}
use Rattle.jobs.specs.Meetings.{earliest_from, met}
use Rattle.jobs.specs.Takes.{Take, task_take}
use Rattle.jobs.specs.Ways.{stay_take}
use Rattle.jobs.proofs.Meets.{one_take}
use Rattle.jobs.proofs.held.TaskHeldUnit.nearest.Goals as goal

pub returns : goal.returns
returns c =
    let own = map stay_take c.args.own.now in
    c.nearest_to.ensures
    ∙ ap (λ (y : Take). earliest_from c.args.best (map (λ x. met c.args.self.now.name x y) own)) c.stay_of.ensures
    ∙ one_take c.args.best c.args.self.now.name own (task_take c.args.self.now)
