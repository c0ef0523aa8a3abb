-- The slack that the rule gives a held message is the least over all of its packets.
use Rattle.std.proofs.Common.{◌≡◌, ℕ, ◌<◌, ◌&&◌, ltb, leb, ℤ, Some, None, Option, sym, refl, subst, arith}
use Rattle.std.proofs.lemmas.Bool.{and_parts, ltb-true}
use Rattle.std.proofs.lemmas.Option.{cond_some, option_and_then_some}
use Rattle.holds.specs.Span.{Span}
use Rattle.holds.specs.Slack.{Flow, LeastSlack, least_slack}
use Rattle.holds.specs.Held.{flowing, spanned}
use Rattle.holds.specs.Limits.{latest, longest}
use Rattle.holds.proofs.Limits.{spanned_proper}
use Rattle.holds.proofs.Reading.{slack_is_least}
use Rattle.records.specs.Named.{named}
use Rattle.records.specs.declared.record.Task.{Task}
use Rattle.jobs.specs.Jobs.{Setting, Jobs, message_name}
use Rattle.jobs.specs.Slacks.{HeldSlack, flow_slack, message_slack, slack_among, slack_held, slack_of}
use Rattle.jobs.specs.Takes.{task_hold}
use Rattle.jobs.specs.Timing.{task_span}
use Rattle.jobs.specs.Trips.{message_flow, trip_of}

flow_is : (a d p : ℕ) (f : Flow) → flowing a d p ≡ Some f → (record { arrival = a; due = d; period = p } ≡ f) × (0 < p)
flow_is a d p f e =
    let t = cond_some (leb a latest && (leb d latest && (ltb 0 p && leb p longest))) (record { arrival = a; due = d; period = p }) f e in
    let p1 = and_parts (leb a latest) _ t.0 in
    let p2 = and_parts (leb d latest) _ p1.1 in
    (t.1, ltb-true 0 p (and_parts (ltb 0 p) (leb p longest) p2.1).0)

span_is : (s p w : ℕ) (h : Span) → spanned s p w ≡ Some h → record { start = s; period = p; width = w } ≡ h
span_is s p w h e = (cond_some (leb s latest && (ltb 0 w && (leb w p && leb p longest))) (record { start = s; period = p; width = w }) h e).1

-- a slack that is told is the least of its flow and reader
pub least_told : (f : Flow) (t : Task) (v : ℤ) → flow_slack f (task_hold t) ≡ Some v → LeastSlack f (task_span t) v
least_told f t v e = go (flowing f.arrival f.due f.period) (task_hold t) refl refl e
  where
    go : (o : Option Flow) (h : Option Span) → flowing f.arrival f.due f.period ≡ o → task_hold t ≡ h → slack_of o h ≡ Some v → LeastSlack f (task_span t) v
    go None h eo eh is = cc
    go (Some k) None eo eh is = cc
    go (Some k) (Some r) eo eh is =
        let flow = flow_is f.arrival f.due f.period k eo in
        let span = span_is t.phase t.period t.width r eh in
        let proper = spanned_proper t.phase t.period t.width r eh in
        let some : 0 < k.period = subst (λ (x : Flow). 0 < x.period) flow.0 flow.1 in
        let value : least_slack k r ≡ v = cc in
        subst (λ (x : Flow). LeastSlack x (task_span t) v) (sym flow.0)
        (subst (λ (x : Span). LeastSlack k x v) (sym span)
        (subst (λ (x : ℤ). LeastSlack k r x) value (slack_is_least k r some (omega (arith, proper.some, proper.fits)))))

-- the slack of a held message is that of some packet, and no packet's is less
pub held_slack : (g : Setting) (js : Jobs) (n : ℕ) (v : ℤ) → slack_held g js n ≡ Some v → HeldSlack g js n v
held_slack g js n v is =
    option_and_then_some (slack_among g js.tasks) (named message_name n js.messages) v is
    (λ m held among. option_and_then_some (λ t. message_slack g.network t m) (trip_of g js.tasks m) v among
    (λ t going told. record { message = m; trip = t; held = held; going = going; least = least_told (message_flow g.network t m) t.destination v told }))
