-- A message whose delay grows: what refuses it, and for how long.
use Rattle.std.proofs.Common.{◌≡◌, ℕ, ◌+◌, ◌<◌, ◌≤◌, Bool, true, false, List, map, length, min, ℤ, pos, negsuc, nat_abs, Some, None, Option, sym, refl, ap, ◌∙◌, subst, le_refl, arith}
use Rattle.std.specs.Option.{option_map}
use Rattle.std.specs.Prelude.{int_lt, is_none}
use Rattle.std.proofs.lemmas.Int.{ints}
use Rattle.std.proofs.lemmas.Bool.{both_ways}
use Rattle.std.proofs.lemmas.Option.{same_Some}
use Rattle.fabric.specs.Network.{Network}
use Rattle.holds.specs.Held.{flowing}
use Rattle.records.specs.declared.record.Message.{Message}
use Rattle.records.specs.declared.record.Task.{Task}
use Rattle.jobs.specs.declared.fault.MessageFault.TheVariants as message_fault
use Rattle.jobs.specs.declared.meeting.Meeting.{Meeting}
use Rattle.jobs.specs.declared.open.OpenMessage.{OpenMessage}
use Rattle.jobs.specs.declared.routing.Ends.{Ends}
use Rattle.jobs.specs.declared.way.Admitted.{Admitted}
use Rattle.jobs.specs.declared.way.Way.{Way}
use Rattle.jobs.specs.Jobs.{Jobs, Setting}
use Rattle.jobs.specs.Meetings.{HeldJob, first_met, held_message}
use Rattle.jobs.specs.Open.{message_at}
use Rattle.jobs.specs.Routings.{IsAdmitted, trip_along}
use Rattle.jobs.specs.Rules.{late, packet_refusal}
use Rattle.jobs.specs.Slacks.{message_slack, slack_of}
use Rattle.jobs.specs.Takes.{packet_takes, route_takes, task_hold}
use Rattle.jobs.specs.Timing.{arrival, departure, due, travel}
use Rattle.jobs.specs.Trips.{Trip}
use Rattle.jobs.specs.Waits.{DelaysInTime, StillMet, put_off}
use Rattle.jobs.specs.Ways.{IsWay, way_slack, way_takes}
use Rattle.jobs.proofs.Limits.{arrives_near}
use Rattle.jobs.proofs.Searches.{FailsFrom}
use Rattle.jobs.proofs.Timely.{LateBy, after_delay}
use Rattle.jobs.proofs.Waits.{route_later}
use Rattle.jobs.proofs.Walks.{way_is, way_slack_is}

-- ---- the trip

-- tasks and a route that the trip has too are the trip
same_trip : (net : Network) (t : Trip) (e : Ends) (r : List ℕ) → e.source ≡ t.source → e.destination ≡ t.destination
    → net.route e.source.core e.destination.core ≡ Some r → net.route t.source.core t.destination.core ≡ Some t.route → trip_along e r ≡ t
same_trip net t e r es ed er et =
    let along : net.route t.source.core t.destination.core ≡ Some r =
    subst (λ (d : Task). net.route t.source.core d.core ≡ Some r) ed (subst (λ (s : Task). net.route s.core e.destination.core ≡ Some r) es er) in
    let same : r ≡ t.route = same_Some _ _ (sym along ∙ et) in
    ap (λ (s : Task). record { source = s; destination = e.destination; route = r }) es
    ∙ ap (λ (d : Task). record { source = t.source; destination = d; route = r }) ed
    ∙ ap (λ (ls : List ℕ). record { source = t.source; destination = t.destination; route = ls }) same

-- so a way between its tasks is its way
pub way_at : (net : Network) (t : Trip) (m : OpenMessage) (a : Admitted) → IsAdmitted net t (message_at m 0) a → (v : ℕ) (x : Message) (w : Way) → x ≡ message_at m v
    → (r : List ℕ) × IsWay net (trip_along a.ends r) x w → IsWay net t (message_at m v) w
way_at net t m a is v x w e (r, h) =
    let same : trip_along a.ends r ≡ t = same_trip net t a.ends r is.source is.destination h.along is.way.along in
    subst (λ (y : Message). IsWay net t y w) e (subst (λ (u : Trip). IsWay net u x w) same h)

-- and there is one
pub has_way : (net : Network) (t : Trip) (m : Message) (a : Admitted) → IsAdmitted net t m a → net.route a.ends.source.core a.ends.destination.core ≡ None → ⊥
has_way net t m a is none =
    let along : net.route t.source.core t.destination.core ≡ None =
    subst (λ (d : Task). net.route t.source.core d.core ≡ None) is.destination (subst (λ (s : Task). net.route s.core a.ends.destination.core ≡ None) is.source none) in
    let some = is.way.along in
    let clash : None ≡ Some t.route = sym along ∙ some in
    cc

-- ---- one message

late_refuses : (o : Option ℤ) (fm : Option Meeting) → is_none o ≡ false → is_none (late o (option_map message_fault.Meets fm)) ≡ false
late_refuses None fm h = absurd (both_ways true h refl)
late_refuses (Some v) fm h = refl

-- a meeting refuses, whether late or not
met_refuses : (o : Option ℤ) (fm : Option Meeting) → is_none fm ≡ false → is_none (late o (option_map message_fault.Meets fm)) ≡ false
met_refuses None None h = h
met_refuses None (Some x) h = refl
met_refuses (Some v) fm h = refl

module _ (g : Setting) (js : Jobs) (t : Trip) (m : OpenMessage) where
  -- whether nothing refuses a delay
  abbrev pub free : ℕ → Bool
  free v = is_none (packet_refusal g js (message_at m v) t)

  abbrev pub held : List HeldJob
  held = map (held_message g js.tasks) js.messages

  -- past the delays that are in time all are refused
  pub past_late : (n : ℕ) → DelaysInTime g.network t m n → (y : ℕ) → n ≤ y → y < t.source.period → free y ≡ false
  past_late n covers y h l = late_refuses _ _ (covers.late y h l)

  -- against the way of the message at one delay
  module _ (v : ℕ) (w : Way) (is : IsWay g.network t (message_at m v) w) where
    takes_is : way_takes g.network w ≡ packet_takes g.network t (message_at m v)
    takes_is = way_is g.network t (message_at m v) w is

    -- neither late nor met
    pub way_free : (n : ℕ) → DelaysInTime g.network t m n → v < n → None ≡ first_met (way_takes g.network w) held → free v ≡ true
    way_free n covers h clear-way =
        ap (λ o. is_none (late o (option_map message_fault.Meets (first_met (packet_takes g.network t (message_at m v)) held)))) (covers.in_time v h)
        ∙ ap (λ o. is_none (option_map message_fault.Meets o)) (ap (λ ts. first_met ts held) (sym takes_is) ∙ sym clear-way)

    -- met
    pub way_met : (o : Meeting) → Some o ≡ first_met (way_takes g.network w) held → free v ≡ false
    way_met o e = met_refuses _ _ (subst (λ ts. is_none (first_met ts held) ≡ false) takes_is (sym (ap is_none e)))

    near : travel g.network t.route ≤ 4096
    near = omega (arith, is.travel, w.near)

    soon : t.source.phase + t.source.width + v ≤ 17179869184
    soon = omega (arith, is.start, w.soon)

    -- at a later delay packets take the same links later
    takes_later : (n : ℕ) → v + n < 4294967296 → packet_takes g.network t (message_at m (v + n)) ≡ map (put_off n) (packet_takes g.network t (message_at m v))
    takes_later n fits =
        let start : t.source.phase + t.source.width + (v + n) ≡ t.source.phase + t.source.width + v + n = omega arith in
        ap (λ k. route_takes g.network t.route k t.source.period m.width) start
        ∙ route_later g.network t.route (departure t.source (message_at m v)) t.source.period m.width n (omega (arith, near, soon))

    meets_later : (n : ℕ) → v + n < 4294967296 → is_none (first_met (map (put_off n) (way_takes g.network w)) held) ≡ false → free (v + n) ≡ false
    meets_later n fits h =
        met_refuses _ _ (subst (λ ts. is_none (first_met ts held) ≡ false) (ap (map (put_off n)) takes_is ∙ sym (takes_later n fits)) h)

    -- met for all of the wait
    pub way_meets : (wait : Option ℕ) → StillMet (way_takes g.network w) held wait → FailsFrom free v wait
    way_meets None still = λ n fits. meets_later n fits (still n)
    way_meets (Some k) still = λ n l fits. meets_later n fits (still n l)

-- ---- how many delays are in time, by the slack with none

module _ (net : Network) (t : Trip) (m : OpenMessage) (w : Way) (is : IsWay net t (message_at m 0) w) (narrow : m.width < 4294967296) (few : t.source.period < 4294967296) where
  slack_is : way_slack w m.kind t.destination ≡ message_slack net t (message_at m 0)
  slack_is = way_slack_is net t (message_at m 0) w is

  -- late by the delay
  by_delay : (n : ℕ) → n < 4294967296 → LateBy n (way_slack w m.kind t.destination) (message_slack net t (message_at m n))
  by_delay n fits =
      let by = due m.kind t.source.period in
      let far = travel net t.route in
      let now = arrival (departure t.source (message_at m 0)) (length t.route) far m.width in
      let later : now + n ≡ arrival (departure t.source (message_at m n)) (length t.route) far m.width = omega arith in
      let start = is.start in
      let soon = w.soon in
      let long = is.travel in
      let near = w.near in
      subst (λ o. LateBy n o (message_slack net t (message_at m n))) (sym slack_is)
      (subst (λ x. LateBy n (message_slack net t (message_at m 0)) (slack_of (flowing x by t.source.period) (task_hold t.destination))) later
      (after_delay by t.source.period (task_hold t.destination) now n
      (omega (arith, near, long, start, soon, later, arrives_near (departure t.source (message_at m n)) (length t.route) far m.width))))

  pub never_late : way_slack w m.kind t.destination ≡ None → DelaysInTime net t m t.source.period
  never_late none =
      record {
        within = le_refl t.source.period;
        in_time = λ v h. subst (λ o. LateBy v o (message_slack net t (message_at m v))) none (by_delay v (omega (arith, h, few)));
        late = λ v h k. absurd (omega (arith, h, k));
      }

  always_late : (z : ℤ) → way_slack w m.kind t.destination ≡ Some z → int_lt z (pos 0) ≡ true → DelaysInTime net t m 0
  always_late z some below =
      record {
        within = omega arith;
        in_time = λ v h. absurd (omega (arith, h));
        late = λ v h k. (subst (λ o. LateBy v o (message_slack net t (message_at m v))) some (by_delay v (omega (arith, k, few)))).0 (grind (arith, ints, below));
      }

  spare_as : (k n : ℕ) → way_slack w m.kind t.destination ≡ Some (pos k) → n ≡ min (k + 1) t.source.period → DelaysInTime net t m n
  spare_as k n some is =
      record {
        within = omega (arith, is);
        in_time = λ v h. (subst (λ o. LateBy v o (message_slack net t (message_at m v))) some (by_delay v (omega (arith, h, is, few)))).1 (grind (arith, ints, h, is));
        late = λ v h l. (subst (λ o. LateBy v o (message_slack net t (message_at m v))) some (by_delay v (omega (arith, l, few)))).0 (grind (arith, ints, h, l, is));
      }

  pub covered : (z : ℤ) (n : ℕ) → way_slack w m.kind t.destination ≡ Some z → (int_lt z (pos 0) ≡ true → n ≡ 0) → (int_lt z (pos 0) ≡ false → n ≡ min (nat_abs z + 1) t.source.period)
      → DelaysInTime net t m n
  covered (pos k) n some none enough = spare_as k n some (enough (grind (arith, ints)))
  covered (negsuc k) n some none enough = subst (DelaysInTime net t m) (sym (none refl)) (always_late (negsuc k) some refl)
