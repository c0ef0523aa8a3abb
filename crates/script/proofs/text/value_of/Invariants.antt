use Rattle.std.proofs.Common.{◌≡◌, ◌≤◌, drop}
use Rattle.script.proofs.Texts.{read_on}
use Rattle.script.proofs.text.value_of.Given as goal

-- the number so far and the digits that are left make the whole
abbrev pub invariant-loop-b : goal.invariant-loop-b
invariant-loop-b l = (l.value ≤ l.most) × (read_on l.most l.value (drop l.b-index l.text) ≡ read_on l.most 0 l.text)
