use Rattle.std.proofs.Common.{◌*◌}
use Rattle.holds.specs.Landing.{CountsFor}
use Rattle.holds.proofs.Turns.{digits}
use Rattle.holds.proofs.landing.first_landing.Given as goal

abbrev pub invariant-loop-walk : goal.invariant-loop-walk
invariant-loop-walk l = CountsFor l.r l.a l.m l.w l.walk

-- so the turns are no more than the binary digits of m * a
abbrev pub decreases-loop-walk : goal.decreases-loop-walk
decreases-loop-walk l = digits (l.walk.size * l.walk.step)
