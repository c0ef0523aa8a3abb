use Rattle.std.proofs.Common.{length}
use Rattle.listed.proofs.checks.Links.+follows.Given as goal

abbrev pub decreases-follows : goal.decreases-follows
decreases-follows l = length l.numbers.now
