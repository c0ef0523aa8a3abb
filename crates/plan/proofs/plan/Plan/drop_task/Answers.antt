use Rattle.std.proofs.Common.{◌≡◌, ℕ, Ok, Err, refl, ◌∙◌, sym, ap, subst, rules}
use Rattle.std.proofs.Math.Logic.{∥∥₁_map}
use Rattle.jobs.specs.Drops.{drop_task, in_use}
use Rattle.plan.specs.Held.{jobs, setting}
use Rattle.promise.specs.Canonical.{Canonical, ShortNames}
use Rattle.promise.specs.Clean.{Clean}
use Rattle.promise.proofs.Canonical.{task_less_canonical}
use Rattle.promise.proofs.Drops.{task_dropped}
use Rattle.jobs.specs.Jobs.{task_name}
use Rattle.promise.proofs.Lists.{without_in}
use Rattle.promise.proofs.Tabled.{task_out}
use Rattle.fabric.specs.declared.Fabric.{Ghosts}
use Rattle.jobs.specs.Numbers.{drop_told}
use Rattle.jobs.specs.declared.fault.DropFault.TheVariants.{InUse, Unknown}
use Rattle.promise.specs.Tabled.{tabled}
use Rattle.refusals.specs.Told.{refusal_of}
use Rattle.plan.specs.After.{Leaves, TaskLess}
use Rattle.plan.specs.declared.plan.Plan.{Plan}
use Rattle.plan.proofs.Afters.{task_drop_left}
use Rattle.plan.proofs.Stands.{clean_of, follows_of, left_of, stays_of, task_dropped_of}
use Rattle.plan.proofs.plan.Plan.drop_task.Goals as goal

-- what the rule of a dropping leaves of a clean plan
task_left : {F : Type 0} {B : Ghosts F} (p : Plan F B) (n : ℕ) → Leaves (jobs p) (λ u. TaskLess (jobs p) n) (drop_task (jobs p) n).0 (drop_task (jobs p) n).1
task_left p n = task_drop_left (jobs p) n (clean_of p).made.task_names

-- no held message names the task, so the plan stays clean
pub invariant_of-self-clause-clean : goal.invariant_of-self-clause-clean
invariant_of-self-clause-clean g c =
    let p = c.args.self.now in
    let s = setting p in
    let free = ap (in_use c.args.name) (sym c.held-2.ensures) ∙ sym c.names_task.ensures ∙ c.if-names_task.false in
    subst (λ js. ∥ Clean s js ∥₁) (sym (task_out p.tasks c.remove.new.self p.messages c.args.name c.remove.ensures.after))
    (∥∥₁_map p.clean (λ clean. task_dropped s (jobs p) c.args.name clean free))

pub invariant_of-self-clause-ordered : goal.invariant_of-self-clause-ordered
invariant_of-self-clause-ordered g c =
    let p = c.args.self.now in
    subst Canonical (sym (task_out p.tasks c.remove.new.self p.messages c.args.name c.remove.ensures.after))
    (task_less_canonical (jobs p) c.args.name p.ordered)

pub invariant_of-self-clause-short : goal.invariant_of-self-clause-short
invariant_of-self-clause-short g c =
    let p = c.args.self.now in
    subst ShortNames (sym (task_out p.tasks c.remove.new.self p.messages c.args.name c.remove.ensures.after))
    (record { tasks = λ t i. p.short.tasks t (without_in task_name c.args.name t (jobs p).tasks i); messages = p.short.messages })

pub returns-then-is_none : goal.returns-then-is_none
returns-then-is_none g c =
    let p = c.args.self.now in
    let n = c.args.name in
    let rule = drop_task (jobs p) n in
    let answer : Err Unknown ≡ rule.0 = search rules in
    let after : jobs p ≡ rule.1 = stays_of rule (Err Unknown) (jobs p) (λ u. TaskLess (jobs p) n) Unknown (task_left p n) answer in
    record {
      follows = follows_of rule (Err Unknown) p p drop_told answer after refl;
      refused = λ e. refl;
      promise = task_dropped_of p n (Err Unknown) answer;
      left = refl;
      clean = clean_of p;
    }

pub returns-then-names_task : goal.returns-then-names_task
returns-then-names_task g c =
    let p = c.args.self.now in
    let n = c.args.name in
    let rule = drop_task (jobs p) n in
    let answer : Err InUse ≡ rule.0 = search rules in
    let after : jobs p ≡ rule.1 = stays_of rule (Err InUse) (jobs p) (λ u. TaskLess (jobs p) n) InUse (task_left p n) answer in
    record {
      follows = follows_of rule (Err InUse) p p drop_told answer after refl;
      refused = λ e. refl;
      promise = task_dropped_of p n (Err InUse) answer;
      left = refl;
      clean = clean_of p;
    }

pub returns : goal.returns
returns g c =
    let p = c.args.self.now in
    let n = c.args.name in
    let rule = drop_task (jobs p) n in
    let gone = task_out p.tasks c.remove.new.self p.messages n c.remove.ensures.after in
    let free = ap (in_use n) (sym c.held-2.ensures) ∙ sym c.names_task.ensures ∙ c.if-names_task.false in
    let answer : Ok tt ≡ rule.0 = search rules in
    let after : tabled c.remove.new.self p.messages ≡ rule.1 = search rules in
    record {
      follows = record { answer = answer; numbers = ap (refusal_of drop_told) answer; after = after; alike = refl };
      refused = λ e. absurd cc;
      promise = task_dropped_of p n (Ok tt) answer;
      left = left_of rule (Ok tt) (jobs p) (tabled c.remove.new.self p.messages) (λ u. TaskLess (jobs p) n) (task_left p n) answer after;
      clean = subst (Clean (setting p)) (sym gone) (task_dropped (setting p) (jobs p) n (clean_of p) free);
    }
