use Rattle.std.proofs.Common.{◌≡◌, Ok, refl, rules}
use Rattle.jobs.specs.Numbers.{message_told}
use Rattle.jobs.specs.Rules.{offer_message}
use Rattle.plan.specs.After.{MessageMore}
use Rattle.plan.specs.Held.{jobs, setting}
use Rattle.plan.proofs.Afters.{message_left}
use Rattle.plan.proofs.Stands.{clean_of, follows_of, left_of, message_told_of}
use Rattle.plan.proofs.plan.Plan.offer_message.Goals as goal

pub returns-in_err-check_message : goal.returns-in_err-check_message
returns-in_err-check_message g c =
    let p = c.args.self.now in
    let m = c.args.m in
    let rule = offer_message (setting p) (jobs p) m in
    let r = c.from_residual.result in
    let answer : r ≡ rule.0 = search rules in
    let after : jobs p ≡ rule.1 = search rules in
    record {
      follows = follows_of rule r p p message_told answer after refl;
      refused = λ e. refl;
      promise = message_told_of p m r answer;
      left = left_of rule r (jobs p) (jobs p) (λ u. MessageMore (jobs p) m) (message_left (setting p) (jobs p) m) answer after;
      clean = clean_of p;
    }

pub returns : goal.returns
returns g c =
    let p = c.args.self.now in
    let q = c.hold_message.new.self in
    let m = c.args.m in
    let rule = offer_message (setting p) (jobs p) m in
    let answer : Ok tt ≡ rule.0 = search rules in
    let after : jobs q ≡ rule.1 = search rules in
    record {
      follows = follows_of rule (Ok tt) p q message_told answer after c.hold_message.ensures.alike;
      refused = λ e. absurd cc;
      promise = message_told_of p m (Ok tt) answer;
      left = left_of rule (Ok tt) (jobs p) (jobs q) (λ u. MessageMore (jobs p) m) (message_left (setting p) (jobs p) m) answer after;
      clean = clean_of q;
    }
