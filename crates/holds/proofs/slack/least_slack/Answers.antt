use Rattle.std.proofs.Common.{◌≡◌, ℕ, ◌<◌, ℤ, ap, ◌∙◌, subst, arith}
use Rattle.std.proofs.lemmas.Int.{ints}
use Rattle.holds.specs.Gcd.{gcd}
use Rattle.holds.specs.declared.deliveries.Deliveries.{Deliveries}
use Rattle.holds.specs.declared.hold.Hold.{Hold}
use Rattle.holds.specs.Held.{flow, span}
use Rattle.holds.specs.Slack.{LeastSlack, least_slack}
use Rattle.holds.specs.Span.{gap}
use Rattle.holds.proofs.Limits.{flow_some, period_some}
use Rattle.holds.proofs.Reading.{slack_is_least}
use Rattle.holds.proofs.Residue.{gap_below, gcd_positive}
use Rattle.holds.proofs.slack.least_slack.Goals as goal

-- the wait is below the divisor, which is not 0
some : (d : Deliveries) (r : Hold) (g : ℕ) → g ≡ gcd d.period r.period → 0 < g
some d r g e = omega (arith, gcd_positive d.period r.period (flow_some d))

short : (d : Deliveries) (r : Hold) (g : ℕ) → g ≡ gcd d.period r.period → gap d.due r.start g < g
short d r g e = gap_below d.due r.start g (some d r g e)

pub returns-clause-least : goal.returns-clause-least
returns-clause-least c =
    let wait : c.gap.result ≡ gap c.args.packets.due c.args.reader.start (gcd c.args.packets.period c.args.reader.period)
    = c.gap.ensures ∙ ap (λ (n : ℕ). gap c.args.packets.due c.args.reader.start n) c.gcd-g.ensures in
    let less : c.gap.result < c.gcd-g.result = omega (arith, short c.args.packets c.args.reader c.gcd-g.result c.gcd-g.ensures) in
    let same : least_slack (flow c.args.packets) (span c.args.reader) ≡ _ = omega (arith, ints) in
    subst (λ (v : ℤ). LeastSlack (flow c.args.packets) (span c.args.reader) v) same
    (slack_is_least (flow c.args.packets) (span c.args.reader) (flow_some c.args.packets) (period_some c.args.reader))
