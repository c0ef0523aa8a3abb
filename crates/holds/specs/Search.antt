-- Rule. The first number that passes a test, over a stretch of numbers.
use Rattle.std.specs.Prelude.{ℕ, zero, suc, ◌+◌, Bool, true, false, Some, None, Option}

-- of the numbers from n on, at most `fuel` of them
unfoldable pub first_from : (ℕ → Bool) → ℕ → ℕ → Option ℕ
first_from test zero n = None
first_from test (suc fuel) n = elim (test n) [ true ↦ Some n | false ↦ first_from test fuel (n + 1) ]
