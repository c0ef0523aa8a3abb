-- Within the limits of tasks and messages every claim is a hold, and the least slack is the formula's.
use Rattle.std.proofs.Common.{◌≡◌, ℕ, zero, suc, ◌+◌, ◌*◌, ◌%◌, ◌<◌, ◌≤◌, true, eqb, cond, ◌==◌, List, [], ◌∷◌, length, pos, ◌-ℤ◌, Some, refl, ap, ◌∙◌, subst, suc-mul, mul-le-mul, arith}
use Rattle.std.specs.List.{slice_get}
use Rattle.std.specs.Option.{option_map}
use Rattle.std.proofs.lemmas.Bool.Decides.{nat_tests}
use Rattle.std.proofs.lemmas.Bool.{cond_both}
use Rattle.std.proofs.lemmas.Option.{slice_get-map}
use Rattle.fabric.specs.Network.{IsFabric, Network}
use Rattle.std.specs.Int.{◌∣◌}
use Rattle.std.proofs.lemmas.Nat.Gcd.{dvd-zero}
use Rattle.holds.specs.Gcd.{gcd}
use Rattle.holds.proofs.Euclid.{gcd_is_greatest}
use Rattle.holds.proofs.Limits.{flowing_within, spanned_within}
use Rattle.holds.proofs.Reading.{least_whole}
use Rattle.holds.specs.Slack.{Flow}
use Rattle.records.specs.declared.record.Task.{Task}
use Rattle.records.specs.declared.record.Message.{Message}
use Rattle.jobs.specs.Checks.{message_timely, task_timely}
use Rattle.jobs.specs.Claims.{Claim, link_claims, trip_claims}
use Rattle.jobs.specs.Places.{link}
use Rattle.jobs.specs.Slacks.{message_slack, slack_of}
use Rattle.jobs.specs.Stand.{FlowEven, Goes}
use Rattle.jobs.specs.Takes.{packet_takes, take_of, task_hold}
use Rattle.jobs.specs.Timing.{arrival, departure, due, link_delay, offset, task_span, travel}
use Rattle.jobs.specs.Trips.{Trip, message_flow}

record Timed (t : Task) : Type 0 where
  some : 1 ≤ t.width
  fits : t.width ≤ t.period
  short : t.period ≤ 65536
  ends : t.phase + t.width ≤ t.period

timed : (t : Task) → task_timely t ≡ true → Timed t
timed t e = record { some = grind (arith, nat_tests); fits = grind (arith, nat_tests); short = grind (arith, nat_tests); ends = grind (arith, nat_tests) }

record Sent (s : Task) (m : Message) : Type 0 where
  some : 1 ≤ m.width
  fits : m.width ≤ s.period
  soon : m.delay < s.period

sent : (s : Task) (m : Message) → message_timely s m ≡ true → Sent s m
sent s m e = record { some = grind (arith, nat_tests); fits = grind (arith, nat_tests); soon = grind (arith, nat_tests) }

pub task_holds : (t : Task) → task_timely t ≡ true → task_hold t ≡ Some (task_span t)
task_holds t e =
    let h = timed t e in
    spanned_within (task_span t) (omega (arith, h.short, h.ends)) (record { some = h.some; fits = h.fits }) (omega (arith, h.short))

-- ---- routes

-- where every link takes as long, a route takes that for each of its links
pub travel_even : (net : Network) (r : List ℕ) → travel net r ≡ length r * net.delay
travel_even net [] = omega arith
travel_even net (l ∷ ls) = omega (arith, suc-mul (length ls) net.delay, travel_even net ls)

pub offset_even : (net : Network) (r : List ℕ) (i : ℕ) → i ≤ length r → offset net r i ≡ i * net.delay
offset_even net r zero h = omega arith
offset_even net [] (suc i) h = omega (arith, h)
offset_even net (l ∷ ls) (suc i) h = omega (arith, suc-mul i net.delay, offset_even net ls i (omega (arith, h)))

-- so no route takes long
pub travel_near : (net : Network) → IsFabric net → (a b : ℕ) (r : List ℕ) → net.route a b ≡ Some r → travel net r ≤ 4096
travel_near net fab a b r e =
    omega (arith, travel_even net r, mul-le-mul {n₁ = length r} {m₁ = net.delay} {n₂ = 64} {m₂ = 64} (omega (arith, fab.bounded, fab.lawful.short a b r e)) fab.lawful.low_delay)

-- the claim at a place of a route starts the offset of the place later
pub claims_at : (net : Network) (r : List ℕ) (start p w i l : ℕ) → slice_get r i ≡ Some l
    → slice_get (link_claims net r start p w) i ≡ Some (record { place = link l; span = record { start = start + offset net r i; period = p; width = w } })
claims_at net [] start p w i l e = cc
claims_at net (x ∷ xs) start p w zero l e =
    let same : x ≡ l = cc in
    let now : start ≡ start + 0 = omega arith in
    ap (λ (y : ℕ). Some (record { place = link y; span = record { start = start; period = p; width = w } })) same
    ∙ ap (λ (n : ℕ). Some (record { place = link l; span = record { start = n; period = p; width = w } })) now
claims_at net (x ∷ xs) start p w (suc i) l e =
    let later : start + link_delay net x + offset net xs i ≡ start + (link_delay net x + offset net xs i) = omega arith in
    claims_at net xs (start + link_delay net x) p w i l e
    ∙ ap (λ (n : ℕ). Some (record { place = link l; span = record { start = n; period = p; width = w } })) later

-- a claim for each link, and no other
pub claims_length : (net : Network) (r : List ℕ) (start p w : ℕ) → length (link_claims net r start p w) ≡ length r
claims_length net [] start p w = refl
claims_length net (x ∷ xs) start p w = ap suc (claims_length net xs (start + link_delay net x) p w)

-- and at most the travel of the route later
pub record Within (net : Network) (r : List ℕ) (start p w : ℕ) (c : Claim) : Type 0 where
  pub near : c.span.start ≤ start + travel net r
  pub period : c.span.period ≡ p
  pub width : c.span.width ≡ w

pub claims_within : (net : Network) (r : List ℕ) (start p w i : ℕ) (c : Claim) → slice_get (link_claims net r start p w) i ≡ Some c → Within net r start p w c
claims_within net [] start p w i c e = cc
claims_within net (x ∷ xs) start p w zero c e =
    let first : Claim = record { place = link x; span = record { start = start; period = p; width = w } } in
    let same : first ≡ c = cc in
    subst (Within net (x ∷ xs) start p w) same (record { near = omega arith; period = refl; width = refl })
claims_within net (x ∷ xs) start p w (suc i) c e =
    let h = claims_within net xs (start + link_delay net x) p w i c e in
    record { near = omega (arith, h.near); period = h.period; width = h.width }

module _ (net : Network) (fab : IsFabric net) (t : Trip) (m : Message) (goes : Goes net t m) where
  near : travel net t.route ≤ 4096
  near = travel_near net fab t.source.core t.destination.core t.route goes.along

  -- packets take each of their claims as it is
  pub claim_holds : (i : ℕ) (c : Claim) → slice_get (trip_claims net t m) i ≡ Some c → take_of c ≡ record { place = c.place; hold = Some c.span }
  claim_holds i c at =
      let h = timed t.source goes.source in
      let k = sent t.source m goes.timely in
      let w = claims_within net t.route (departure t.source m) t.source.period m.width i c at in
      ap (λ o. record { place = c.place; hold = o })
      (spanned_within c.span (omega (arith, near, w.near, h.short, h.ends, k.soon)) (record { some = omega (arith, k.some, w.width); fits = omega (arith, k.fits, w.width, w.period) })
      (omega (arith, h.short, w.period)))

  pub packet_holds : (i : ℕ) (c : Claim) → slice_get (trip_claims net t m) i ≡ Some c
      → slice_get (packet_takes net t m) i ≡ Some (record { place = c.place; hold = Some c.span })
  packet_holds i c at = slice_get-map take_of (trip_claims net t m) i ∙ ap (option_map take_of) at ∙ ap Some (claim_holds i c at)

-- ---- slacks

-- when packets go, in the numbers of the tasks and the message
pub flow_even : FlowEven
flow_even net t m = ap (λ (far : ℕ). spelled far) (travel_even net t.route)
  where
    spelled : ℕ → Flow
    spelled far =
        record {
          arrival = departure t.source m + cond (length t.route == 0) 0 (far + m.width);
          due = due m.kind t.source.period;
          period = t.source.period;
        }

-- the divisor of both periods divides the due instant, 0 or a period of the source
due_whole : (k p q : ℕ) → gcd p q ∣ due k p
due_whole k p q = cond_both (eqb k 0) 0 p (λ n. gcd p q ∣ n) (λ _. dvd-zero (gcd p q)) (λ _. (gcd_is_greatest p q).0)

due_near : (k p : ℕ) → due k p ≤ p
due_near k p = cond_both (eqb k 0) 0 p (λ n. n ≤ p) (λ _. omega arith) (λ _. omega arith)

pub arrives_near : (start n far w : ℕ) → arrival start n far w ≤ start + (far + w)
arrives_near start n far w = cond_both (eqb n 0) 0 (far + w) (λ x. start + x ≤ start + (far + w)) (λ _. omega arith) (λ _. omega arith)

pub slack_formula : (net : Network) → IsFabric net → (t : Trip) (m : Message) → Goes net t m → task_timely t.destination ≡ true
    → message_slack net t m
    ≡ Some (pos (due m.kind t.source.period + t.destination.phase % gcd t.source.period t.destination.period) -ℤ pos (message_flow net t m).arrival)
slack_formula net fab t m goes reads =
    let h = timed t.source goes.source in
    let j = timed t.destination reads in
    let k = sent t.source m goes.timely in
    let f = message_flow net t m in
    ap (λ o. slack_of o (task_hold t.destination))
    (flowing_within f
    (omega (arith, near net fab t m goes, arrives_near (departure t.source m) (length t.route) (travel net t.route) m.width, h.short, h.ends, k.soon, k.fits))
    (omega (arith, due_near m.kind t.source.period, h.short)) (omega (arith, h.some, h.fits)) (omega (arith, h.short)))
    ∙ ap (slack_of (Some f)) (task_holds t.destination reads)
    ∙ ap Some (least_whole f (task_span t.destination) (omega (arith, h.some, h.fits)) (omega (arith, j.some, j.fits)) (due_whole m.kind t.source.period t.destination.period))
