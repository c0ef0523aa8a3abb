use Rattle.std.proofs.Common.{◌≡◌, is_ok, false, Ok, Err, Result, sym, ap, ◌∙◌, subst, rules}
use Rattle.std.specs.Result.{result_map_both}
use Rattle.jobs.specs.Numbers.{job_told}
use Rattle.jobs.specs.Offered.{offer}
use Rattle.jobs.specs.declared.job.JobFault.TheVariants as job_fault
use Rattle.plan.specs.Held.{jobs, setting}
use Rattle.plan.specs.Loads.{JobAnswer, JobMore}
use Rattle.plan.proofs.Stands.{follows_of, left_of}
use Rattle.plan.proofs.Tries.{job_left, offer_message_is, offer_task_is}
use Rattle.plan.proofs.plan.Plan.offer.Goals as goal

-- a refusal of either kind is a refusal
still_refused : {T E D : Type 0} (f : E → D) (r : Result T E) → is_ok (result_map_both (λ (u : T). u) f r) ≡ false → is_ok r ≡ false
still_refused f (Ok x) e = e
still_refused f (Err x) e = e

pub returns-in-Task : goal.returns-in-Task
returns-in-Task g c =
    let p = c.args.self.now in
    let s = setting p in
    let t = c.in-Task.t in
    let told : c.map_err.result ≡ result_map_both (λ u. u) job_fault.Task c.offer_task.result = search rules in
    let rule = offer_task_is s (jobs p) t in
    let same = ap (offer s (jobs p)) c.in-Task.is ∙ rule in
    let answer : c.map_err.result ≡ (offer s (jobs p) c.args.job).0 =
    told ∙ ap (result_map_both (λ u. u) job_fault.Task) c.offer_task.ensures.follows.answer ∙ sym (ap (λ r. r.0) same) in
    let after : jobs c.offer_task.new.self ≡ (offer s (jobs p) c.args.job).1 = c.offer_task.ensures.follows.after ∙ sym (ap (λ r. r.1) same) in
    record {
      follows = follows_of (offer s (jobs p) c.args.job) c.map_err.result p c.offer_task.new.self job_told answer after c.offer_task.ensures.follows.alike;
      refused = λ e. c.offer_task.ensures.refused (still_refused job_fault.Task c.offer_task.result (ap is_ok (sym told) ∙ e));
      promise = subst (λ x. JobAnswer s (jobs p) x c.map_err.result) (sym c.in-Task.is) (c.offer_task.result, told, c.offer_task.ensures.promise);
      left = left_of (offer s (jobs p) c.args.job) c.map_err.result (jobs p) (jobs c.offer_task.new.self) (λ u. JobMore (jobs p) c.args.job) (job_left s (jobs p) c.args.job) answer after;
      clean = c.offer_task.ensures.clean;
    }

pub returns-in-Message : goal.returns-in-Message
returns-in-Message g c =
    let p = c.args.self.now in
    let s = setting p in
    let m = c.in-Message.m in
    let r = c.map_err-in-Message.result in
    let told : r ≡ result_map_both (λ u. u) job_fault.Message c.offer_message.result = search rules in
    let rule = offer_message_is s (jobs p) m in
    let same = ap (offer s (jobs p)) c.in-Message.is ∙ rule in
    let answer : r ≡ (offer s (jobs p) c.args.job).0 =
    told ∙ ap (result_map_both (λ u. u) job_fault.Message) c.offer_message.ensures.follows.answer ∙ sym (ap (λ r. r.0) same) in
    let after : jobs c.offer_message.new.self ≡ (offer s (jobs p) c.args.job).1 = c.offer_message.ensures.follows.after ∙ sym (ap (λ r. r.1) same) in
    record {
      follows = follows_of (offer s (jobs p) c.args.job) r p c.offer_message.new.self job_told answer after c.offer_message.ensures.follows.alike;
      refused = λ e. c.offer_message.ensures.refused (still_refused job_fault.Message c.offer_message.result (ap is_ok (sym told) ∙ e));
      promise = subst (λ x. JobAnswer s (jobs p) x r) (sym c.in-Message.is) (c.offer_message.result, told, c.offer_message.ensures.promise);
      left = left_of (offer s (jobs p) c.args.job) r (jobs p) (jobs c.offer_message.new.self) (λ u. JobMore (jobs p) c.args.job) (job_left s (jobs p) c.args.job) answer after;
      clean = c.offer_message.ensures.clean;
    }
