use Rattle.std.proofs.Common.{◌≡◌, drop, vec_items}
use Rattle.script.specs.Fields.{unhexed}
use Rattle.script.proofs.Texts.{in_front, pairs_read}
use Rattle.script.proofs.bytes.unhexed.Given as goal

-- the bytes so far and those of the pairs that are left make the whole
abbrev pub invariant-loop-high : goal.invariant-loop-high
invariant-loop-high l = in_front (vec_items l.bytes) (pairs_read (drop l.high-index l.pairs)) ≡ unhexed l.text
