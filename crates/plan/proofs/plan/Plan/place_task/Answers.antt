use Rattle.std.proofs.Common.{◌≡◌, None, Ok, refl, sym, ◌∙◌, subst, rules}
use Rattle.jobs.specs.Rules.{task_refusal}
use Rattle.plan.specs.Held.{jobs, setting}
use Rattle.promise.proofs.Kept.{task_placed_free}
use Rattle.jobs.specs.Numbers.{placing_told, task_told}
use Rattle.jobs.specs.Open.{task_at}
use Rattle.jobs.specs.Placings.{place_task}
use Rattle.plan.specs.After.{TaskMore}
use Rattle.plan.proofs.Afters.{task_place_left}
use Rattle.plan.proofs.Stands.{clean_of, follows_of, left_of, stays_of, task_placing_of}
use Rattle.plan.proofs.plan.Plan.place_task.Goals as goal

pub hold_task-requires : goal.hold_task-requires
hold_task-requires g c =
    let p = c.args.self.now in
    let s = setting p in
    subst (λ t. task_refusal s.network.nodes (jobs p) t ≡ None) (sym c.at.ensures)
    (task_placed_free s (jobs p) c.args.t c.in_ok-phase.phase (sym c.in_ok-phase.was ∙ c.phase_for.ensures))

pub returns-in_err-phase : goal.returns-in_err-phase
returns-in_err-phase g c =
    let p = c.args.self.now in
    let t = c.args.t in
    let rule = place_task (setting p) (jobs p) t in
    let r = c.from_residual.result in
    let left = task_place_left (setting p) (jobs p) t in
    let answer : r ≡ rule.0 = search rules in
    let after : jobs p ≡ rule.1 = stays_of rule r (jobs p) (λ v. TaskMore (jobs p) (task_at t v)) c.in_err-phase.field-0.0 left (sym c.in_err-phase.was ∙ c.phase_for.ensures) in
    record {
      follows = follows_of rule r p p (placing_told task_told) answer after refl;
      refused = λ e. refl;
      promise = task_placing_of p t r answer;
      left = left_of rule r (jobs p) (jobs p) (λ v. TaskMore (jobs p) (task_at t v)) (task_place_left (setting p) (jobs p) t) answer after;
      clean = clean_of p;
    }

pub returns : goal.returns
returns g c =
    let p = c.args.self.now in
    let q = c.hold_task.new.self in
    let t = c.args.t in
    let rule = place_task (setting p) (jobs p) t in
    let r = Ok c.in_ok-phase.phase in
    let answer : r ≡ rule.0 = search rules in
    let after : jobs q ≡ rule.1 = search rules in
    record {
      follows = follows_of rule r p q (placing_told task_told) answer after c.hold_task.ensures.alike;
      refused = λ e. absurd cc;
      promise = task_placing_of p t r answer;
      left = left_of rule r (jobs p) (jobs q) (λ v. TaskMore (jobs p) (task_at t v)) (task_place_left (setting p) (jobs p) t) answer after;
      clean = clean_of q;
    }
