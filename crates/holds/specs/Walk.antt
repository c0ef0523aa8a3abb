-- Working. A walk by equal steps around a circle, and the first run of a hold that ends after an instant.
use Rattle.std.specs.Prelude.{◌≡◌, ℕ, ◌+◌, ◌*◌, ◌%◌, ◌<◌, ◌≤◌, Some, None, Option}
use Rattle.holds.specs.Span.{Span}

-- step j from r, by a, around m places, is at one of the first w
abbrev pub Lands : ℕ → ℕ → ℕ → ℕ → ℕ → Type 0
Lands r a m w j = (r + j * a) % m < w

-- the least number with P, or none where no number has it
abbrev pub Least : (ℕ → Type 0) → Option ℕ → Type 0
Least P None = (j : ℕ) → P j → ⊥
Least P (Some j) = P j × ((i : ℕ) → P i → j ≤ i)

-- t is the start of the first run of h that ends after the instant n
pub record EndsAfter (h : Span) (n t : ℕ) : Type 0 where
  pub run : (k : ℕ) × (t ≡ h.start + k * h.period)
  pub ends : n < t + h.width
  pub least : (k : ℕ) → n < h.start + k * h.period + h.width → t ≤ h.start + k * h.period

-- step t of the walk lands, after k rounds
abbrev pub Round : ℕ → ℕ → ℕ → ℕ → ℕ → ℕ → Type 0
Round r a m w t k = (k * m ≤ r + t * a) × (r + t * a < k * m + w)

-- what lands at step t of the walk in hand, after k rounds, lands at step A t + B k + C of the first
pub record Carried (r₀ a₀ m₀ w₀ r a m w A B C : ℕ) : Type 0 where
  pub sound : (t k : ℕ) → Round r a m w t k → Lands r₀ a₀ m₀ w₀ (A * t + B * k + C)
  pub complete : (j : ℕ) → Lands r₀ a₀ m₀ w₀ j → (t : ℕ) × (k : ℕ) × Round r a m w t k × (A * t + B * k + C ≤ j)

-- the sizes and counts of a walk are small against n
pub record Room (n r a m A B C : ℕ) : Type 0 where
  pub at : r < m
  pub step : a < m
  pub size : m ≤ n
  pub some : 0 < A
  pub order : B ≤ A
  pub whole : A * m + B * a ≤ n
  pub count : C ≤ 2 * A + B
