use Rattle.std.proofs.Common.{◌≡◌, ◌∙◌, ◌+◌, ◌*◌, true, false, length, is_some, Option, ℕ, Some, sym, ap, rules, arith}
use Rattle.std.proofs.lemmas.Bool.{lt-ltb}
use Rattle.plan.specs.Held.{jobs}
use Rattle.plan.specs.Writing.{too_long}
use Rattle.plan.proofs.Writing.{few_messages, few_tasks, length_tested, messages_told, messages_written, part_written, whole_told}
use Rattle.plan.proofs.plan.Plan.write.Given.{Over}
use Rattle.plan.proofs.Stands.{back_of, says_of}
use Rattle.plan.proofs.plan.Plan.write.Goals as goal

-- the sum of the code is the length of the job part
short : (g : Over) (c : goal.Then-out-tasks g) → too_long (jobs c.args.self.now) (length c.args.out.now) ≡ true
short g c =
    let sum = 4 + length c.held-tasks.result.now * 16 + length c.held-messages.result.now * 16 in
    length_tested (jobs c.args.self.now) (length c.args.out.now)
    ∙ rw (sym c.held-tasks.ensures, sym c.held-messages.ensures) (lt-ltb (length c.args.out.now) sum c.if-out-tasks.true)

pub returns-then-out-tasks-clause-follows : goal.returns-then-out-tasks-clause-follows
returns-then-out-tasks-clause-follows g c = says_of _ _ _ (rw (short g c) (search rules))

pub returns-then-out-tasks-clause-buffer : goal.returns-then-out-tasks-clause-buffer
returns-then-out-tasks-clause-buffer g c = rw (short g c) (search rules)

pub returns-then-out-tasks-clause-promise : goal.returns-then-out-tasks-clause-promise
returns-then-out-tasks-clause-promise g c =
    part_written (jobs c.args.self.now) c.args.out.now _ _ (returns-then-out-tasks-clause-follows g c).answer (returns-then-out-tasks-clause-buffer g c)

-- what has a value is not none
told_none : {r : Option ℕ} {n : ℕ} → r ≡ Some n → false ≡ is_some r → ⊥
told_none told none = let e : false ≡ true = none ∙ ap is_some told in absurd cc

-- where the tasks were written, there is room for the messages
written : (g : Over) (c : goal.After-from_residual-in_err-rest g) → ⊥
written g c =
    let p = c.args.self.now in
    let told = messages_told (jobs p) (few_tasks p 128 (omega arith)) (few_messages p) c.held-tasks.result.now c.held-messages.result.now c.held-tasks.ensures c.held-messages.ensures
    c.args.out.now c.write_section.new.out c.in_ok-middle.middle c.write_section.result c.if-out-tasks.false c.write_section.ensures.answer c.in_ok-middle.ensures.ok_part c.write_section.ensures.bytes
    c.write_section-2.ensures.answer in
    told_none told c.in_err-rest.ensures.variant

pub returns-in_err-rest-clause-buffer : goal.returns-in_err-rest-clause-buffer
returns-in_err-rest-clause-buffer g c = absurd (written g c)

pub returns-in_err-rest-clause-promise : goal.returns-in_err-rest-clause-promise
returns-in_err-rest-clause-promise g c = absurd (written g c)

pub returns-clause-buffer : goal.returns-clause-buffer
returns-clause-buffer g c =
    let p = c.args.self.now in
    messages_written (jobs p) (few_tasks p 128 (omega arith)) (few_messages p) c.held-tasks.result.now c.held-messages.result.now c.held-tasks.ensures c.held-messages.ensures
    c.args.out.now c.write_section.new.out c.in_ok-middle.middle c.write_section.result c.if-out-tasks.false c.write_section.ensures.answer c.in_ok-middle.ensures.ok_part c.write_section.ensures.bytes
    c.write_section-2.ensures.bytes

pub returns-clause-follows : goal.returns-clause-follows
returns-clause-follows g c =
    let p = c.args.self.now in
    says_of _ _ _
    (whole_told (jobs p) (few_tasks p 128 (omega arith)) (few_messages p) c.held-tasks.result.now c.held-messages.result.now c.held-tasks.ensures c.held-messages.ensures
    c.args.out.now c.write_section.new.out c.in_ok-middle.middle c.write_section.result c.if-out-tasks.false c.write_section.ensures.answer c.in_ok-middle.ensures.ok_part c.write_section.ensures.bytes
    c.in_ok-rest.rest c.write_section-2.ensures.answer c.in_ok-rest.ensures.ok_part)

pub returns-clause-promise : goal.returns-clause-promise
returns-clause-promise g c = part_written (jobs c.args.self.now) c.args.out.now _ _ (returns-clause-follows g c).answer (returns-clause-buffer g c)

pub returns-then-out-tasks-clause-back : goal.returns-then-out-tasks-clause-back
returns-then-out-tasks-clause-back g c = back_of c.args.self.now

pub returns-in_err-middle-clause-back : goal.returns-in_err-middle-clause-back
returns-in_err-middle-clause-back g c = back_of c.args.self.now

pub returns-in_err-rest-clause-back : goal.returns-in_err-rest-clause-back
returns-in_err-rest-clause-back g c = back_of c.args.self.now

pub returns-clause-back : goal.returns-clause-back
returns-clause-back g c = back_of c.args.self.now
