-- Meaning: which run of a reader reads a packet, and the least time that is left for it. Rule: the formula.
-- The runs of the reader start at start + j * period, j from 0; its width does not matter here.
use Rattle.std.specs.Prelude.{◌≡◌, ℕ, ◌+◌, ◌*◌, ◌%◌, ◌<◌, ◌≤◌, ℤ, pos, ◌-ℤ◌, ◌≤ℤ◌}
use Rattle.std.specs.Int.{◌∣◌}
use Rattle.holds.specs.Gcd.{gcd}
use Rattle.holds.specs.Span.{Span, gap}

-- packet k, from 0, arrives at arrival + k * period and is read at due + k * period at the earliest
pub record Flow : Type 0 where
  pub arrival : ℕ
  pub due : ℕ
  pub period : ℕ

-- packet k is read at t: the earliest start of a run of the reader that is not before its due instant
pub record ReadAt (f : Flow) (r : Span) (k t : ℕ) : Type 0 where
  pub run : (j : ℕ) × (t ≡ r.start + j * r.period)
  pub after : f.due + k * f.period ≤ t
  pub earliest : (j : ℕ) → f.due + k * f.period ≤ r.start + j * r.period → t ≤ r.start + j * r.period

-- every packet is read
abbrev pub AlwaysRead : Type 0
AlwaysRead = (f : Flow) (r : Span) (k : ℕ) → 0 < r.period → (t : ℕ) × ReadAt f r k t

-- v is the least, over all packets k, of the instant that reads it less k * period
pub record LeastRead (f : Flow) (r : Span) (v : ℕ) : Type 0 where
  pub reached : (k : ℕ) × (t : ℕ) × ReadAt f r k t × (t ≡ k * f.period + v)
  pub bound : (k t : ℕ) → ReadAt f r k t → k * f.period + v ≤ t

-- packet k has the slack v: the instant that reads it less its arrival
abbrev pub SlackIs : Flow → Span → ℕ → ℤ → Type 0
SlackIs f r k v = (t : ℕ) × ReadAt f r k t × (v ≡ pos t -ℤ pos (f.arrival + k * f.period))

-- v is the slack of some packet, and no packet has a smaller one
pub record LeastSlack (f : Flow) (r : Span) (v : ℤ) : Type 0 where
  pub reached : (k : ℕ) × SlackIs f r k v
  pub bound : (k : ℕ) (w : ℤ) → SlackIs f r k w → v ≤ℤ w

-- the formula
abbrev pub least_slack : Flow → Span → ℤ
least_slack f r = pos (f.due + gap f.due r.start (gcd f.period r.period)) -ℤ pos f.arrival

-- the formula gives the least slack of all packets
abbrev pub SlackIsLeast : Type 0
SlackIsLeast = (f : Flow) (r : Span) → 0 < f.period → 0 < r.period → LeastSlack f r (least_slack f r)

-- where the greatest common divisor divides the due instant, as it does 0 and the period of the packets
abbrev pub LeastWhole : Type 0
LeastWhole =
    (f : Flow) (r : Span) → 0 < f.period → 0 < r.period → gcd f.period r.period ∣ f.due
    → least_slack f r ≡ pos (f.due + r.start % gcd f.period r.period) -ℤ pos f.arrival
