-- What the limits of holds and of deliveries give.
use Rattle.std.proofs.Common.{◌≡◌, ℕ, ◌<◌, ◌≤◌, Some, arith}
use Rattle.std.proofs.lemmas.Bool.Decides.{nat_tests}
use Rattle.holds.specs.declared.deliveries.Deliveries.{Deliveries}
use Rattle.holds.specs.declared.hold.Hold.{Hold}
use Rattle.holds.specs.Held.{span, flow, spanned, flowing}
use Rattle.holds.specs.Limits.{latest, longest}
use Rattle.holds.specs.Slack.{Flow}
use Rattle.holds.specs.Span.{Span, Proper}

-- the span of a hold is proper
pub proper : (h : Hold) → Proper (span h)
proper h = record { some = h.some; fits = h.fits }

pub period_some : (h : Hold) → 0 < (span h).period
period_some h = omega (arith, h.some, h.fits)

pub flow_some : (d : Deliveries) → 0 < (flow d).period
flow_some d = d.some

-- numbers within the limits are taken
pub spanned_within : (h : Span) → h.start ≤ latest → Proper h → h.period ≤ longest → spanned h.start h.period h.width ≡ Some h
spanned_within h a p b = grind (arith, nat_tests)

pub flowing_within : (f : Flow) → f.arrival ≤ latest → f.due ≤ latest → 0 < f.period → f.period ≤ longest
    → flowing f.arrival f.due f.period ≡ Some f
flowing_within f a b c d = grind (arith, nat_tests)

-- and what is taken is proper
pub spanned_proper : (s p w : ℕ) (h : Span) → spanned s p w ≡ Some h → Proper h
spanned_proper s p w h e = record { some = grind (arith, nat_tests); fits = grind (arith, nat_tests) }
