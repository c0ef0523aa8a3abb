use Rattle.std.proofs.Common.{◌≡◌, ℕ, ◌<◌, arith}
use Rattle.holds.specs.Gcd.{gcd}
use Rattle.holds.specs.Held.{span}
use Rattle.holds.specs.Span.{gap}
use Rattle.holds.specs.declared.hold.Hold.{Hold}
use Rattle.holds.proofs.Later.{wait_never, wait_none, wait_end, wait_next}
use Rattle.holds.proofs.Limits.{proper, period_some}
use Rattle.holds.proofs.Residue.{gap_below, gcd_positive}
use Rattle.holds.proofs.wait.least_wait.Goals as goal

some : (held own : Hold) (g : ℕ) → g ≡ gcd held.period own.period → 0 < g
some held own g e = omega (arith, gcd_positive held.period own.period (period_some held))

-- the distance is below the divisor
short : (held own : Hold) (g d : ℕ) → g ≡ gcd held.period own.period → d ≡ gap held.start own.start g → d < g
short held own g d e is = omega (arith, gap_below held.start own.start g (some held own g e))

pub returns-then-g-held : goal.returns-then-g-held
returns-then-g-held c =
    wait_never (span c.args.own) (span c.args.held) (proper c.args.own) (proper c.args.held) c.gcd-g.result c.gap-d.result
    c.gcd-g.ensures c.gap-d.ensures (omega arith)

pub returns-then-d-held : goal.returns-then-d-held
returns-then-d-held c =
    wait_end (span c.args.own) (span c.args.held) (proper c.args.own) (proper c.args.held) c.gcd-g.result c.gap-d.result
    c.gcd-g.ensures c.gap-d.ensures (omega arith) (omega arith)

pub returns-then-left-own : goal.returns-then-left-own
returns-then-left-own c =
    wait_next (span c.args.own) (span c.args.held) (proper c.args.own) (proper c.args.held) c.gcd-g.result c.gap-d.result
    c.gcd-g.ensures c.gap-d.ensures (omega arith) (omega arith) (omega arith)

pub returns-else-left-own : goal.returns-else-left-own
returns-else-left-own c =
    wait_none (span c.args.own) (span c.args.held) (proper c.args.own) (proper c.args.held) c.gcd-g.result c.gap-d.result
    c.gcd-g.ensures c.gap-d.ensures (omega arith) (omega arith)
