use Rattle.std.proofs.Common.{ℕ, ◌+◌, ◌-◌, ◌*◌, ◌≤◌, Some, None, sym, subst, arith}
use Rattle.holds.specs.First.{IsFirst}
use Rattle.holds.specs.Held.{span}
use Rattle.holds.specs.Limits.{latest, longest}
use Rattle.holds.specs.Walk.{EndsAfter, Lands, Least}
use Rattle.holds.specs.declared.hold.Hold.{Hold}
use Rattle.holds.proofs.First.{first_is, first_only}
use Rattle.holds.proofs.Limits.{proper, period_some}
use Rattle.holds.proofs.Runs.{begin_fits, run_fits, never_meet, meet_first}
use Rattle.holds.proofs.Walk.{least_below}
use Rattle.holds.proofs.meeting.first_meeting.Goals as goal

-- the walk begins at most a period after the later start
begins : (one other : Hold) (b : ℕ) → EndsAfter (span one) other.start b → b ≤ latest + longest
begins one other b e = begin_fits (span one) other.start b (proper one) other.near one.near one.short e

-- it lands within a period of the other
runs : (one other : Hold) (r a w j : ℕ) → Least (Lands r a other.period w) (Some j) → j * one.period ≤ longest * longest
runs one other r a w j h =
    run_fits j one.period other.period (least_below r a other.period w j (period_some other) h) one.short other.short

pub overflow_add-ahead : goal.overflow_add-ahead
overflow_add-ahead c = omega (arith, begins c.args.one c.args.other c.ending_after-begin.result c.ending_after-begin.ensures)

pub overflow_add-run : goal.overflow_add-run
overflow_add-run c =
    omega (
      arith,
      begins c.args.one c.args.other c.ending_after-begin.result c.ending_after-begin.ensures,
      runs c.args.one c.args.other _ _ _ c.in_ok-j.j c.in_ok-j.ensures,
    )

pub ending_after-requires : goal.ending_after-requires
ending_after-requires c =
    omega (
      arith,
      begins c.args.one c.args.other c.ending_after-begin.result c.ending_after-begin.ensures,
      runs c.args.one c.args.other _ _ _ c.in_ok-j.j c.in_ok-j.ensures,
    )

pub returns : goal.returns
returns c =
    let is : IsFirst (span c.args.one) (span c.args.other) (Some c.max.result)
    = subst (λ (n : ℕ). IsFirst (span c.args.one) (span c.args.other) (Some n)) (sym c.max.ensures)
    (meet_first (span c.args.one) (span c.args.other) (proper c.args.one) (proper c.args.other) c.ending_after-begin.result
    (c.ending_after-begin.result + c.args.one.width - 1 - c.args.other.start) _ c.ending_after-begin.ensures
    (omega (arith, c.ending_after-begin.ensures.ends)) (omega arith) c.in_ok-j.j c.ending_after.result c.in_ok-j.ensures c.ending_after.ensures) in
    record {
      formula = first_only (span c.args.one) (span c.args.other) _ _ is (first_is (span c.args.one) (span c.args.other) (proper c.args.one) (proper c.args.other));
      instants = is;
    }

pub returns-in_err-j : goal.returns-in_err-j
returns-in_err-j c =
    let is : IsFirst (span c.args.one) (span c.args.other) None
    = never_meet (span c.args.one) (span c.args.other) (proper c.args.one) (proper c.args.other) c.ending_after-begin.result
    (c.ending_after-begin.result + c.args.one.width - 1 - c.args.other.start) _ c.ending_after-begin.ensures
    (omega (arith, c.ending_after-begin.ensures.ends)) (omega arith) c.in_err-j.ensures in
    rw c.from_residual.ensures
    (record {
      formula = first_only (span c.args.one) (span c.args.other) None _ is (first_is (span c.args.one) (span c.args.other) (proper c.args.one) (proper c.args.other));
      instants = is;
    })
