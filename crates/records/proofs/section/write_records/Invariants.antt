use Rattle.std.proofs.Common.{◌≡◌, ◌*◌, ◌++◌, drop, take}
use Rattle.std.specs.List.{flat_map}
use Rattle.records.proofs.section.write_records.Given as goal

-- the records before the place are written, and what follows them is as it was
abbrev pub invariant-loop-i : goal.invariant-loop-i
invariant-loop-i g l = l.out ≡ flat_map g.R.Record.form (take l.i l.records) ++ drop (l.i * g.R.Record.SIZE) l.initial.out
