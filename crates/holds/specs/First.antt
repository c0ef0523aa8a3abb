-- Meaning: the first instant that lies in two holds. Rule: the search that finds it.
use Rattle.std.specs.Prelude.{ℕ, ◌+◌, ◌*◌, ◌<◌, ◌≤◌, max, Bool, ◌&&◌, Some, None, Option}
use Rattle.holds.specs.Span.{Span, Proper, Busy, Meet, busy}
use Rattle.holds.specs.Search.{first_from}

-- whether an instant lies in both
abbrev pub both : Span → Span → ℕ → Bool
both h1 h2 n = busy h1 n && busy h2 n

-- searched over one product of the periods, once both have begun
unfoldable pub first : Span → Span → Option ℕ
first h1 h2 = first_from (both h1 h2) (h1.period * h2.period) (max h1.start h2.start)

-- the first instant of all time that lies in both, or none where no instant does
abbrev pub IsFirst : Span → Span → Option ℕ → Type 0
IsFirst h1 h2 None = Meet h1 h2 → ⊥
IsFirst h1 h2 (Some n) = Busy h1 n × Busy h2 n × ((m : ℕ) → Busy h1 m → Busy h2 m → n ≤ m)

-- the search finds the first of all time
abbrev pub MeetingIsFirst : Type 0
MeetingIsFirst = (h1 h2 : Span) → Proper h1 → Proper h2 → IsFirst h1 h2 (first h1 h2)

-- holds that meet at all meet within one product of the periods
abbrev pub MeetingBound : Type 0
MeetingBound =
    (h1 h2 : Span) → Proper h1 → Proper h2 → Meet h1 h2
    → (n : ℕ) × (n < max h1.start h2.start + h1.period * h2.period) × Busy h1 n × Busy h2 n
