use Rattle.std.proofs.Common.{◌-◌}
use Rattle.listed.proofs.Halving.{Inside}
use Rattle.listed.proofs.Listed.find_route.Given as goal

-- the pair's record stands nowhere but in the places that are left
abbrev pub invariant-loop-low : goal.invariant-loop-low
invariant-loop-low l = Inside l.self.routes.bytes.now l.from l.to l.low l.high

abbrev pub decreases-loop-low : goal.decreases-loop-low
decreases-loop-low l = l.high - l.low
