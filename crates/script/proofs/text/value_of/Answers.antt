use Rattle.std.proofs.Common.{◌≡◌, get_or, arith, rules}
use Rattle.std.specs.Char.{digit_value}
use Rattle.script.proofs.Texts.{none_at_large}
use Rattle.script.proofs.text.value_of.Goals as goal

pub returns-then-next-most-clause-value : goal.returns-then-next-most-clause-value
returns-then-next-most-clause-value c =
    let digit : c.in_ok-digit.digit ≡ digit_value (get_or c.args.text.now c.loop-b.b-index 0) = search rules in
    none_at_large c.args.most c.loop-b.value c.loop-b.b-index c.in_ok-digit.digit c.args.text.now c.loop-b-test.true digit (omega arith) c.loop-b.invariant.1
