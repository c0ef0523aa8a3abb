use Rattle.std.proofs.Common.{arith}
use Rattle.holds.specs.Held.{span}
use Rattle.holds.proofs.Limits.{proper}
use Rattle.holds.proofs.Pair.{decided_then, decided_else, decided_apart}
use Rattle.holds.proofs.meeting.clear.Goals as goal

pub returns-then-one-d-clause-apart : goal.returns-then-one-d-clause-apart
returns-then-one-d-clause-apart c =
    decided_apart (span c.args.one) (span c.args.other) _ (proper c.args.one) (proper c.args.other)
    (decided_then (span c.args.one) (span c.args.other) c.gcd-g.result c.gap-d.result _ c.gcd-g.ensures c.gap-d.ensures
    (omega arith) (omega arith))

pub returns-else-one-d-clause-apart : goal.returns-else-one-d-clause-apart
returns-else-one-d-clause-apart c =
    decided_apart (span c.args.one) (span c.args.other) _ (proper c.args.one) (proper c.args.other)
    (decided_else (span c.args.one) (span c.args.other) c.gcd-g.result c.gap-d.result _ c.gcd-g.ensures c.gap-d.ensures
    (omega arith) (omega arith))
