use Rattle.std.proofs.Common.{◌≡◌, Ok, ap, refl, sym, ◌∙◌, subst, rules}
use Rattle.std.proofs.Math.Logic.{∥∥₁_map}
use Rattle.plan.specs.Held.{jobs, setting}
use Rattle.promise.specs.Canonical.{Canonical, ShortNames}
use Rattle.promise.specs.Clean.{Clean}
use Rattle.promise.proofs.Canonical.{message_less_canonical}
use Rattle.promise.proofs.Drops.{message_dropped}
use Rattle.records.proofs.Places.{index_named}
use Rattle.jobs.specs.Jobs.{message_name}
use Rattle.promise.proofs.Lists.{without_in}
use Rattle.promise.proofs.Tabled.{message_out}
use Rattle.jobs.specs.Drops.{drop_message}
use Rattle.jobs.specs.Numbers.{drop_told}
use Rattle.promise.specs.Tabled.{tabled}
use Rattle.refusals.specs.Told.{refusal_of}
use Rattle.plan.specs.After.{MessageLess}
use Rattle.plan.proofs.Afters.{message_drop_left}
use Rattle.plan.proofs.Stands.{clean_of, left_of, message_dropped_of, none_of, same_plan}
use Rattle.plan.proofs.plan.Plan.drop_message.Goals as goal

pub invariant_of-self-clause-clean : goal.invariant_of-self-clause-clean
invariant_of-self-clause-clean g c =
    let p = c.args.self.now in
    let s = setting p in
    subst (λ js. ∥ Clean s js ∥₁) (sym (message_out p.tasks p.messages c.remove.new.self c.args.name c.remove.ensures.after))
    (∥∥₁_map p.clean (λ clean. message_dropped s (jobs p) c.args.name clean))

pub invariant_of-self-clause-ordered : goal.invariant_of-self-clause-ordered
invariant_of-self-clause-ordered g c =
    let p = c.args.self.now in
    subst Canonical (sym (message_out p.tasks p.messages c.remove.new.self c.args.name c.remove.ensures.after))
    (message_less_canonical (jobs p) c.args.name p.ordered)

pub invariant_of-self-clause-short : goal.invariant_of-self-clause-short
invariant_of-self-clause-short g c =
    let p = c.args.self.now in
    subst ShortNames (sym (message_out p.tasks p.messages c.remove.new.self c.args.name c.remove.ensures.after))
    (record { tasks = p.short.tasks; messages = λ m i. p.short.messages m (without_in message_name c.args.name m (jobs p).messages i) })

pub returns-in_err-ok_or : goal.returns-in_err-ok_or
returns-in_err-ok_or g c =
    let p = c.args.self.now in
    let n = c.args.name in
    let rule = drop_message (jobs p) n in
    let r = c.from_residual.result in
    let same = same_plan p c.remove.new.self _ _ _ (c.remove.ensures.unknown (none_of c.remove.result _ _ (sym c.ok_or.ensures.value ∙ c.in_err-ok_or.was))) in
    let answer : r ≡ rule.0 = search (rules, index_named) in
    let after : tabled p.tasks c.remove.new.self ≡ rule.1 = search (rules, index_named) in
    record {
      follows = record { answer = answer; numbers = ap (refusal_of drop_told) answer; after = after; alike = refl };
      refused = λ _. same;
      promise = message_dropped_of p n r answer;
      left = left_of rule r (jobs p) (tabled p.tasks c.remove.new.self) (λ u. MessageLess (jobs p) n) (message_drop_left (jobs p) n (clean_of p).made.message_names) answer after;
      clean = subst (Clean (setting p)) (sym (message_out p.tasks p.messages c.remove.new.self n c.remove.ensures.after)) (message_dropped (setting p) (jobs p) n (clean_of p));
    }

pub returns : goal.returns
returns g c =
    let p = c.args.self.now in
    let n = c.args.name in
    let rule = drop_message (jobs p) n in
    let answer : Ok tt ≡ rule.0 = search (rules, index_named) in
    let after : tabled p.tasks c.remove.new.self ≡ rule.1 = search (rules, index_named) in
    record {
      follows = record { answer = answer; numbers = ap (refusal_of drop_told) answer; after = after; alike = refl };
      refused = λ e. absurd cc;
      promise = message_dropped_of p n (Ok tt) answer;
      left = left_of rule (Ok tt) (jobs p) (tabled p.tasks c.remove.new.self) (λ u. MessageLess (jobs p) n) (message_drop_left (jobs p) n (clean_of p).made.message_names) answer after;
      clean = subst (Clean (setting p)) (sym (message_out p.tasks p.messages c.remove.new.self n c.remove.ensures.after)) (message_dropped (setting p) (jobs p) n (clean_of p));
    }
