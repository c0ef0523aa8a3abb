-- Meaning. What a table holds.
use Rattle.std.specs.Prelude.{ℕ, List, take}
use Rattle.records.specs.declared.tables.Table.{Table}

-- the front of its places
abbrev pub held : {R : Type 0} {N : ℕ} → Table R N → List R
held t = take t.count t.places
