use Rattle.std.proofs.Common.{sym, subst}
use Rattle.std.proofs.Math.Logic.{∥∥₁_map}
use Rattle.plan.specs.Held.{jobs, setting}
use Rattle.promise.specs.Canonical.{Canonical, ShortNames}
use Rattle.promise.specs.Clean.{Clean}
use Rattle.promise.proofs.Canonical.{task_canonical}
use Rattle.promise.proofs.Keeps.{task_taken}
use Rattle.plan.proofs.Short.{task_short}
use Rattle.promise.proofs.Tabled.{task_in}
use Rattle.plan.proofs.plan.Plan.hold_task.Goals as goal

-- a task that no check refuses leaves the plan clean
pub invariant_of-self-clause-clean : goal.invariant_of-self-clause-clean
invariant_of-self-clause-clean g c =
    let p = c.args.self.now in
    let s = setting p in
    subst (λ js. ∥ Clean s js ∥₁) (sym (task_in s p.tasks c.insert.new.self p.messages c.args.t c.insert.result c.requires c.insert.ensures.answer c.insert.ensures.after))
    (∥∥₁_map p.clean (λ clean. task_taken s (jobs p) c.args.t clean c.requires))

-- and its names ascend
pub invariant_of-self-clause-ordered : goal.invariant_of-self-clause-ordered
invariant_of-self-clause-ordered g c =
    let p = c.args.self.now in
    let s = setting p in
    subst Canonical (sym (task_in s p.tasks c.insert.new.self p.messages c.args.t c.insert.result c.requires c.insert.ensures.answer c.insert.ensures.after))
    (task_canonical s (jobs p) c.args.t p.ordered c.requires)

pub invariant_of-self-clause-short : goal.invariant_of-self-clause-short
invariant_of-self-clause-short g c =
    let p = c.args.self.now in
    subst ShortNames (sym (task_in (setting p) p.tasks c.insert.new.self p.messages c.args.t c.insert.result c.requires c.insert.ensures.answer c.insert.ensures.after))
    (task_short (jobs p) c.args.t c.name_fits.ensures p.short)
