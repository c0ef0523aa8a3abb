use Rattle.std.proofs.Common.{◌≡◌, map, drop, vec_items}
use Rattle.script.specs.Readings.{asks, reading}
use Rattle.script.proofs.Calls.{with_rest}
use Rattle.script.proofs.running.calls_of.Given as goal

-- the calls so far and those of the lines that are left make the whole
abbrev pub invariant-loop-line : goal.invariant-loop-line
invariant-loop-line l = with_rest (vec_items l.calls) (drop l.line-index l.lines) ≡ asks (map reading l.lines)
