-- A message is on time exactly where its least slack is not below 0.
use Rattle.std.proofs.Common.{◌≡◌, ℕ, ◌+◌, ◌*◌, ◌%◌, ◌<◌, ◌≤◌, Bool, true, false, cond, ℤ, pos, ◌-ℤ◌, ◌≤ℤ◌, Some, None, Option, sym, refl, ap, ◌∙◌, subst, arith}
use lib.Signed.{lt_z}
use Rattle.std.proofs.lemmas.Int.{ints}
use Rattle.std.proofs.lemmas.Bool.Decides.{nat_tests}
use Rattle.fabric.specs.Network.{IsFabric, Network}
use Rattle.holds.specs.Gcd.{gcd}
use Rattle.holds.specs.Slack.{Flow, LeastSlack, ReadAt}
use Rattle.holds.specs.Span.{Span}
use Rattle.holds.proofs.Reading.{always_read}
use Rattle.records.specs.declared.record.Message.{Message}
use Rattle.jobs.specs.Checks.{task_timely}
use Rattle.jobs.specs.Slacks.{lateness, message_slack}
use Rattle.jobs.specs.Stand.{Goes}
use Rattle.jobs.specs.Timing.{due, task_span}
use Rattle.jobs.specs.Trips.{Trip, message_flow}
use Rattle.jobs.proofs.Limits.{slack_formula}
use Rattle.jobs.proofs.Slacks.{least_told}
use Rattle.promise.specs.Clean.{InTime}

-- the run that must read a packet is one
pub read_once : (f : Flow) (r : Span) (k t u : ℕ) → ReadAt f r k t → ReadAt f r k u → t ≡ u
read_once f r k t u a b =
    let i = a.run.0 in
    let j = b.run.0 in
    let ti = a.run.1 in
    let uj = b.run.1 in
    let x : t ≤ r.start + j * r.period = a.earliest j (subst (λ n. f.due + k * f.period ≤ n) uj b.after) in
    let y : u ≤ r.start + i * r.period = b.earliest i (subst (λ n. f.due + k * f.period ≤ n) ti a.after) in
    omega arith

-- told of a slack: not late, and late
not_late : (v : ℤ) (t a : ℕ) → lateness (Some v) ≡ None → v ≤ℤ (pos t -ℤ pos a) → a ≤ t
not_late v t a e h = go (lt_z v (pos 0)) refl e
  where
    go : (b : Bool) → lt_z v (pos 0) ≡ b → cond b (Some v) None ≡ None → a ≤ t
    go true is x = cc
    go false is x = grind (arith, ints)

pub below : (o : Option ℤ) (v : ℤ) → lateness o ≡ Some v → (o ≡ Some v) × (lt_z v (pos 0) ≡ true)
below None v e = cc
below (Some w) v e = go (lt_z w (pos 0)) refl e
  where
    go : (b : Bool) → lt_z w (pos 0) ≡ b → cond b (Some w) None ≡ Some v → (Some w ≡ Some v) × (lt_z v (pos 0) ≡ true)
    go true is x = let same : w ≡ v = cc in (x, subst (λ z. lt_z z (pos 0) ≡ true) same is)
    go false is x = cc

too_late : (v : ℤ) (t a : ℕ) → lt_z v (pos 0) ≡ true → v ≡ (pos t -ℤ pos a) → a ≤ t → ⊥
too_late v t a neg e le = grind (arith, ints)

module _ (net : Network) (fab : IsFabric net) (t : Trip) (m : Message) (goes : Goes net t m) (reads : task_timely t.destination ≡ true) where
  value : ℤ
  value =
      pos (due m.kind t.source.period + t.destination.phase % gcd t.source.period t.destination.period) -ℤ pos (message_flow net t m).arrival

  slack_is : message_slack net t m ≡ Some value
  unfolding value
  slack_is = slack_formula net fab t m goes reads

  -- where the least slack is not below 0, every packet has arrived when the run that must read it starts
  pub on_time : lateness (message_slack net t m) ≡ None → InTime net t m
  on_time none k =
      let f = message_flow net t m in
      let least = least_told f t.destination value slack_is in
      let timely = reads in
      let runs : 0 < t.destination.period = grind (arith, nat_tests) in
      let read = always_read f (task_span t.destination) k runs in
      let late : lateness (Some value) ≡ None = ap lateness (sym slack_is) ∙ none in
      (read.0, read.1, not_late value read.0 (f.arrival + k * f.period) late (least.bound k (pos read.0 -ℤ pos (f.arrival + k * f.period)) (read.0, read.1, refl)))

  -- a slack that is told is the least, and below 0
  pub late_least : (v : ℤ) → lateness (message_slack net t m) ≡ Some v → LeastSlack (message_flow net t m) (task_span t.destination) v
  late_least v late = least_told (message_flow net t m) t.destination v (below (message_slack net t m) v late).0

  -- and then some packet has not arrived in time
  pub late_breaks : (v : ℤ) → lateness (message_slack net t m) ≡ Some v → InTime net t m → ⊥
  late_breaks v late clean =
      let f = message_flow net t m in
      let b = below (message_slack net t m) v late in
      let reached = (late_least v late).reached in
      let k = reached.0 in
      let n = reached.1.0 in
      let on = clean k in
      let same = read_once f (task_span t.destination) k n on.0 reached.1.1 on.1 in
      too_late v n (f.arrival + k * f.period) b.1 reached.1.2 (subst (λ x. f.arrival + k * f.period ≤ x) (sym same) on.2)
