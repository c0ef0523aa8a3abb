use Rattle.std.proofs.Common.{◌≡◌, Ok, Err, refl, sym, ◌∙◌, rules}
use Rattle.jobs.specs.Numbers.{task_told}
use Rattle.jobs.specs.Rules.{offer_task}
use Rattle.plan.specs.After.{TaskMore}
use Rattle.plan.specs.Held.{jobs, setting}
use Rattle.plan.proofs.Afters.{task_left}
use Rattle.plan.proofs.Stands.{clean_of, follows_of, left_of, stays_of, task_told_of}
use Rattle.plan.proofs.plan.Plan.offer_task.Goals as goal

pub returns-in_err-check_task : goal.returns-in_err-check_task
returns-in_err-check_task g c =
    let p = c.args.self.now in
    let t = c.args.t in
    let rule = offer_task (setting p) (jobs p) t in
    let r = c.from_residual.result in
    let e = c.in_err-check_task.field-0.0 in
    let answer : r ≡ rule.0 = search rules in
    let told : r ≡ Err e = search rules in
    let after : jobs p ≡ rule.1 = stays_of rule r (jobs p) (λ u. TaskMore (jobs p) t) e (task_left (setting p) (jobs p) t) (sym told ∙ answer) in
    record {
      follows = follows_of rule r p p task_told answer after refl;
      refused = λ e. refl;
      promise = task_told_of p t r answer;
      left = left_of rule r (jobs p) (jobs p) (λ u. TaskMore (jobs p) t) (task_left (setting p) (jobs p) t) answer after;
      clean = clean_of p;
    }

pub returns : goal.returns
returns g c =
    let p = c.args.self.now in
    let q = c.hold_task.new.self in
    let t = c.args.t in
    let rule = offer_task (setting p) (jobs p) t in
    let answer : Ok tt ≡ rule.0 = search rules in
    let after : jobs q ≡ rule.1 = search rules in
    record {
      follows = follows_of rule (Ok tt) p q task_told answer after c.hold_task.ensures.alike;
      refused = λ e. absurd cc;
      promise = task_told_of p t (Ok tt) answer;
      left = left_of rule (Ok tt) (jobs p) (jobs q) (λ u. TaskMore (jobs p) t) (task_left (setting p) (jobs p) t) answer after;
      clean = clean_of q;
    }
