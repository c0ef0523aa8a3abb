use Rattle.std.proofs.Common.{◌≡◌, map, take, vec_items}
use Rattle.script.specs.Readings.{read_line, reading}
use Rattle.script.proofs.reading.read_lines.Given as goal

-- the lines so far are those of the texts so far
abbrev pub invariant-loop-text : goal.invariant-loop-text
invariant-loop-text l = map reading (vec_items l.lines) ≡ map (λ text. read_line text.now) (take l.text-index l.texts)
