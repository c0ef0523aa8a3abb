use Rattle.std.proofs.Common.{◌≡◌, None, Ok, refl, sym, ◌∙◌, subst, rules}
use Rattle.jobs.specs.Open.{message_at}
use Rattle.jobs.specs.Placings.{place_message}
use Rattle.jobs.specs.Rules.{message_refusal}
use Rattle.plan.specs.Held.{jobs, setting}
use Rattle.promise.proofs.Kept.{message_placed_free}
use Rattle.jobs.specs.Numbers.{message_told, placing_told}
use Rattle.plan.specs.After.{MessageMore}
use Rattle.plan.proofs.Afters.{message_place_left}
use Rattle.plan.proofs.Stands.{clean_of, follows_of, left_of, message_placing_of, stays_of}
use Rattle.plan.proofs.plan.Plan.place_message.Goals as goal

pub hold_message-requires : goal.hold_message-requires
hold_message-requires g c =
    let p = c.args.self.now in
    let s = setting p in
    subst (λ m. message_refusal s (jobs p) m ≡ None) (sym c.at.ensures)
    (message_placed_free s (jobs p) c.args.m c.in_ok-delay.delay (sym c.in_ok-delay.was ∙ c.delay_for.ensures))

pub returns-in_err-delay : goal.returns-in_err-delay
returns-in_err-delay g c =
    let p = c.args.self.now in
    let m = c.args.m in
    let rule = place_message (setting p) (jobs p) m in
    let r = c.from_residual.result in
    let left = message_place_left (setting p) (jobs p) m in
    let answer : r ≡ rule.0 = search rules in
    let after : jobs p ≡ rule.1 = stays_of rule r (jobs p) (λ v. MessageMore (jobs p) (message_at m v)) c.in_err-delay.field-0.0 left (sym c.in_err-delay.was ∙ c.delay_for.ensures) in
    record {
      follows = follows_of rule r p p (placing_told message_told) answer after refl;
      refused = λ e. refl;
      promise = message_placing_of p m r answer;
      left = left_of rule r (jobs p) (jobs p) (λ v. MessageMore (jobs p) (message_at m v)) (message_place_left (setting p) (jobs p) m) answer after;
      clean = clean_of p;
    }

pub returns : goal.returns
returns g c =
    let p = c.args.self.now in
    let q = c.hold_message.new.self in
    let m = c.args.m in
    let rule = place_message (setting p) (jobs p) m in
    let r = Ok c.in_ok-delay.delay in
    let answer : r ≡ rule.0 = search rules in
    let after : jobs q ≡ rule.1 = search rules in
    record {
      follows = follows_of rule r p q (placing_told message_told) answer after c.hold_message.ensures.alike;
      refused = λ e. absurd cc;
      promise = message_placing_of p m r answer;
      left = left_of rule r (jobs p) (jobs q) (λ v. MessageMore (jobs p) (message_at m v)) (message_place_left (setting p) (jobs p) m) answer after;
      clean = clean_of q;
    }
