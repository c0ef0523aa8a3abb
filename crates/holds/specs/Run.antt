-- Meaning: which run holds an instant. Rule: that run, by division.
use Rattle.std.specs.Prelude.{◌≡◌, ℕ, ◌-◌, ◌/◌, ◌%◌, cond, ◌&&◌, Some, None, Option, nat_le, nat_lt}
use Rattle.holds.specs.Span.{Span, RunHolds, Busy}

-- run k holds the instant n, and no other does; or none does
abbrev pub RunAt : Span → ℕ → Option ℕ → Type 0
RunAt h n None = Busy h n → ⊥
RunAt h n (Some k) = RunHolds h k n × ((j : ℕ) → RunHolds h j n → j ≡ k)

-- that run, by division
abbrev pub run : Span → ℕ → Option ℕ
run h n = cond (nat_le h.start n && nat_lt ((n - h.start) % h.period) h.width) (Some ((n - h.start) / h.period)) None
