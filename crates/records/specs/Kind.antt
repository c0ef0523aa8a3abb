-- Meaning. The kinds of messages.
use Rattle.std.specs.Prelude.{ℕ, cond, Ok, Err, Result, ◌==◌}
use Rattle.records.specs.declared.kind.Kind.{Kind}
use Rattle.records.specs.declared.kind.Kind.TheVariants.{Precedence, NextPeriod}
use Rattle.records.specs.declared.kind.UnknownKind.{UnknownKind}

-- the kind that a byte stands for
abbrev pub kind_of : ℕ → Result Kind UnknownKind
kind_of code = cond (code == 0) (Ok Precedence) (cond (code == 1) (Ok NextPeriod) (Err (record { 0 = code })))
