-- Meaning: periodic holds of one place, by the instants that they hold; time has no end. Rule: the tests of an instant and of a pair.
-- Span: the numbers of a hold. RunHolds, Busy: a run holds an instant, some run does. Meet: some instant lies in both.
-- busy: the test of an instant. Clear: the pair test.
use Rattle.std.specs.Prelude.{◌≡◌, ℕ, ◌+◌, ◌-◌, ◌*◌, ◌%◌, ◌<◌, ◌≤◌, Bool, ◌&&◌, ◌↔◌, pos, ◌-ℤ◌, nat_le, nat_lt}
use Rattle.std.specs.Int.{int_rem_euclid}
use Rattle.holds.specs.Gcd.{gcd}

-- where run 0 starts, how far apart runs start, how many instants a run holds
pub record Span : Type 0 where
  pub start : ℕ
  pub period : ℕ
  pub width : ℕ

-- a width from 1 to the period
pub record Proper (h : Span) : Type 0 where
  pub some : 0 < h.width
  pub fits : h.width ≤ h.period

-- run k of h, from 0, holds the instant n
abbrev pub RunHolds : Span → ℕ → ℕ → Type 0
RunHolds h k n = (h.start + k * h.period ≤ n) × (n < h.start + k * h.period + h.width)

-- some run of h holds the instant n
abbrev pub Busy : Span → ℕ → Type 0
Busy h n = (k : ℕ) × RunHolds h k n

-- some instant lies in both
abbrev pub Meet : Span → Span → Type 0
Meet h1 h2 = (n : ℕ) × Busy h1 n × Busy h2 n

-- the hold put off by x instants
abbrev pub later : ℕ → Span → Span
later x h = record { start = h.start + x; period = h.period; width = h.width }

-- the same as Busy, as a test
unfoldable pub busy : Span → ℕ → Bool
busy h n = nat_le h.start n && nat_lt ((n - h.start) % h.period) h.width

-- (b - a) mod g
unfoldable pub gap : ℕ → ℕ → ℕ → ℕ
gap a b g = (b + (g - a % g)) % g

-- which is the residue of a signed difference
abbrev pub GapIsDifference : Type 0
GapIsDifference = (a b g : ℕ) → 0 < g → int_rem_euclid (pos b -ℤ pos a) (pos g) ≡ pos (gap a b g)

-- the greatest common divisor of the periods
abbrev pub common : Span → Span → ℕ
common h1 h2 = gcd h1.period h2.period

-- how far a start of the second lies after one of the first, at the least
abbrev pub distance : Span → Span → ℕ
distance h1 h2 = gap h1.start h2.start (common h1 h2)

-- the pair test
abbrev pub Clear : Span → Span → Type 0
Clear h1 h2 = (h1.width ≤ distance h1 h2) × (distance h1 h2 + h2.width ≤ common h1 h2)

-- the test is exact: it passes where no instant of all time lies in both, and nowhere else
abbrev pub PairTest : Type 0
PairTest = (h1 h2 : Span) → Proper h1 → Proper h2 → Clear h1 h2 ↔ (Meet h1 h2 → ⊥)
