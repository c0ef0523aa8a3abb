use Rattle.std.proofs.Common.{length}
use Rattle.listed.proofs.checks.+distinct.Given as goal

abbrev pub decreases-distinct : goal.decreases-distinct
decreases-distinct l = length l.numbers.now
