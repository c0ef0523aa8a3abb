-- Rule. The numbers of the holds and deliveries that the code makes, and which numbers it takes.
use Rattle.std.specs.Prelude.{ℕ, cond, ◌&&◌, Some, None, Option, nat_le, nat_lt}
use Rattle.holds.specs.declared.deliveries.Deliveries.{Deliveries}
use Rattle.holds.specs.declared.hold.Hold.{Hold}
use Rattle.holds.specs.Limits.{latest, longest}
use Rattle.holds.specs.Slack.{Flow}
use Rattle.holds.specs.Span.{Span}

-- the numbers of a hold
abbrev pub span : Hold → Span
span h = record { start = h.start; period = h.period; width = h.width }

-- the numbers of deliveries
abbrev pub flow : Deliveries → Flow
flow d = record { arrival = d.arrival; due = d.due; period = d.period }

-- the hold of these numbers, where they are within the limits
abbrev pub spanned : ℕ → ℕ → ℕ → Option Span
spanned s p w =
    cond (nat_le s latest && (nat_lt 0 w && (nat_le w p && nat_le p longest))) (Some (record { start = s; period = p; width = w })) None

-- the deliveries of these numbers, where they are within the limits
abbrev pub flowing : ℕ → ℕ → ℕ → Option Flow
flowing a d p =
    cond (nat_le a latest && (nat_le d latest && (nat_lt 0 p && nat_le p longest)))
    (Some (record { arrival = a; due = d; period = p }))
    None
