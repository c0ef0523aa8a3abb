-- Jobs that are put off: what they take, and that they still meet one that is held.
use Rattle.std.proofs.Common.{◌≡◌, ℕ, zero, suc, ◌+◌, ◌≤◌, Bool, true, false, cond, ◌&&◌, eqb, ltb, leb, List, [], ◌∷◌, map, Some, None, Option, sym, refl, ap, ◌∙◌, subst, ⊎_elim, arith}
use Rattle.std.specs.List.{slice_get}
use Rattle.std.specs.Option.{option_map}
use Rattle.std.specs.Prelude.{is_none}
use Rattle.std.proofs.lemmas.Bool.{both_ways, cond_both, le-leb}
use Rattle.std.proofs.lemmas.Option.{slice_get-map}
use Rattle.holds.specs.First.{IsFirst, first}
use Rattle.holds.specs.Held.{span, spanned}
use Rattle.holds.specs.Limits.{latest, longest}
use Rattle.holds.specs.Span.{Meet, Proper, Span, later}
use Rattle.holds.specs.Walk.{Least}
use Rattle.holds.specs.declared.hold.Hold.{Hold}
use Rattle.holds.proofs.First.{first_is}
use Rattle.holds.proofs.Limits.{proper}
use Rattle.holds.proofs.Pair.{clear_apart, clear_or_meet}
use Rattle.records.specs.Named.{named}
use Rattle.jobs.specs.declared.meeting.Meeting.{Meeting}
use Rattle.jobs.specs.declared.open.OpenTask.{OpenTask}
use Rattle.jobs.specs.declared.stay.Stay.{Stay}
use Rattle.jobs.specs.Meetings.{HeldJob, all_meetings, at_instant, before, earliest_from, first_met, meetings, met, sooner}
use Rattle.jobs.specs.Open.{task_at}
use Rattle.jobs.specs.declared.place.Place.{Place}
use Rattle.fabric.specs.Network.{Network}
use Rattle.jobs.specs.Places.{core, link, same_place}
use Rattle.jobs.specs.Takes.{Take, route_takes, task_takes}
use Rattle.jobs.specs.Timing.{link_delay, travel}
use Rattle.jobs.specs.Waits.{Among, StillMeets, StillMet, put_off}
use Rattle.jobs.specs.Routings.{job_of}
use Rattle.jobs.specs.Ways.{stay_take}
use Rattle.jobs.proofs.Meets.{earliest_append}
use Rattle.jobs.proofs.Searches.{FailsFrom}

-- ---- a meeting among others

-- the sooner of two is one where either is
sooner_first : (a b : Option Meeting) → is_none a ≡ false → is_none (sooner a b) ≡ false
sooner_first None b e = absurd (both_ways true e refl)
sooner_first (Some a) None e = refl
sooner_first (Some a) (Some b) e = cond_both (before b a) (Some b) (Some a) (λ o. is_none o ≡ false) (λ _. refl) (λ _. refl)

sooner_second : (a b : Option Meeting) → is_none b ≡ false → is_none (sooner a b) ≡ false
sooner_second None b e = e
sooner_second (Some a) b e = sooner_first (Some a) b refl

earliest_kept : (best : Option Meeting) (xs : List (Option Meeting)) → is_none best ≡ false → is_none (earliest_from best xs) ≡ false
earliest_kept best [] e = e
earliest_kept best (x ∷ xs) e = earliest_kept (sooner best x) xs (sooner_first best x e)

module _ (x y : Take) where
  -- one take against each of a held job's
  met_each : (best : Option Meeting) (name : ℕ) (ys : List Take) (j : ℕ) → slice_get ys j ≡ Some y → is_none (met name x y) ≡ false
      → is_none (earliest_from best (map (met name x) ys)) ≡ false
  met_each best name [] j e h = cc
  met_each best name (u ∷ ys) zero e h =
      let same : u ≡ y = cc in
      earliest_kept (sooner best (met name x u)) (map (met name x) ys)
      (sooner_second best (met name x u) (subst (λ (t : Take). is_none (met name x t) ≡ false) (sym same) h))
  met_each best name (u ∷ ys) (suc j) e h = met_each (sooner best (met name x u)) name ys j e h

  -- each take of the offered job against those
  met_both : (best : Option Meeting) (name : ℕ) (xs ys : List Take) (i j : ℕ) → slice_get xs i ≡ Some x → slice_get ys j ≡ Some y → is_none (met name x y) ≡ false
      → is_none (earliest_from best (meetings name xs ys)) ≡ false
  met_both best name [] ys i j ex ey h = cc
  met_both best name (u ∷ xs) ys zero j ex ey h =
      let same : u ≡ x = cc in
      rw earliest_append
      (earliest_kept (earliest_from best (map (met name u) ys)) (meetings name xs ys)
      (subst (λ (t : Take). is_none (earliest_from best (map (met name t) ys)) ≡ false) (sym same) (met_each best name ys j ey h)))
  met_both best name (u ∷ xs) ys (suc i) j ex ey h =
      rw earliest_append (met_both (earliest_from best (map (met name u) ys)) name xs ys i j ex ey h)

  -- and against each held job's: one pair that meets is enough
  pub met_all : (best : Option Meeting) (xs : List Take) (hs : List HeldJob) (k i j : ℕ) (h : HeldJob)
      → slice_get hs k ≡ Some h → slice_get xs i ≡ Some x → slice_get h.takes j ≡ Some y → is_none (met h.name x y) ≡ false
      → is_none (earliest_from best (all_meetings xs hs)) ≡ false
  met_all best xs [] k i j h eh ex ey m = cc
  met_all best xs (u ∷ hs) zero i j h eh ex ey m =
      let same : u ≡ h = cc in
      rw earliest_append
      (earliest_kept (earliest_from best (meetings u.name xs u.takes)) (all_meetings xs hs)
      (subst (λ (v : HeldJob). is_none (earliest_from best (meetings v.name xs v.takes)) ≡ false) (sym same) (met_both best h.name xs h.takes i j ex ey m)))
  met_all best xs (u ∷ hs) (suc k) i j h eh ex ey m =
      rw earliest_append (met_all (earliest_from best (meetings u.name xs u.takes)) xs hs k i j h eh ex ey m)

-- ---- two holds of one place

-- put off by less than the least wait, they meet
meets_before : (own held : Span) → Proper own → Proper held → (n : ℕ) → ((Meet held (later n own) → ⊥) → ⊥)
    → (f : ℕ → Meeting) → is_none (option_map f (first (later n own) held)) ≡ false
meets_before own held po ph n never f = go (first (later n own) held) (first_is (later n own) held pl ph)
  where
    pl : Proper (later n own)
    pl = record { some = po.some; fits = po.fits }

    meet : Meet held (later n own)
    meet = ⊎_elim (λ c. absurd (never (clear_apart held (later n own) ph pl c))) (λ m. m) (clear_or_meet held (later n own) ph pl)

    go : (o : Option ℕ) → IsFirst (later n own) held o → is_none (option_map f o) ≡ false
    go None no-meet = absurd (no-meet (meet.0, meet.2, meet.1))
    go (Some i) is = refl

-- so they meet for all of the wait
pub still_meets : (p q : Place) (own held : Span) (wait : Option ℕ) → same_place p q ≡ true → Proper own → Proper held
    → Least (λ n. Meet held (later n own) → ⊥) wait
    → StillMeets (record { place = p; hold = Some own }) (record { place = q; hold = Some held }) wait
still_meets p q own held None same po ph least =
    λ name n. rw same (meets_before own held po ph n (least n) (at_instant name p))
still_meets p q own held (Some w) same po ph least =
    λ name n l. rw same (meets_before own held po ph n (λ free. omega (arith, least.1 n free)) (at_instant name p))

-- ---- what is put off

-- a take that still meets one of a held job keeps its job from being clear
pub still_met : (xs : List Take) (hs : List HeldJob) (k i j : ℕ) (h : HeldJob) (x y : Take) (wait : Option ℕ)
    → slice_get hs k ≡ Some h → slice_get xs i ≡ Some x → slice_get h.takes j ≡ Some y → StillMeets x y wait → StillMet xs hs wait
still_met xs hs k i j h x y None eh ex ey still =
    λ n. met_all (put_off n x) y None (map (put_off n) xs) hs k i j h eh (slice_get-map (put_off n) xs i ∙ ap (option_map (put_off n)) ex) ey (still h.name n)
still_met xs hs k i j h x y (Some w) eh ex ey still =
    λ n l. met_all (put_off n x) y None (map (put_off n) xs) hs k i j h eh (slice_get-map (put_off n) xs i ∙ ap (option_map (put_off n)) ex) ey (still h.name n l)

-- the same of takes that are told otherwise
pub still_as : {xs ys : List Take} (hs : List HeldJob) (wait : Option ℕ) → xs ≡ ys → StillMet xs hs wait → StillMet ys hs wait
still_as hs wait e still = subst (λ ts. StillMet ts hs wait) e still

-- within the limits a later start is the hold put off
pub spanned_later : (s p w n : ℕ) → s + n ≤ latest → spanned (s + n) p w ≡ option_map (later n) (spanned s p w)
spanned_later s p w n l =
    ap (λ b. cond (b && rest) (Some (record { start = s + n; period = p; width = w })) None) (le-leb (s + n) latest l)
    ∙ moved rest
    ∙ sym (ap (λ b. option_map (later n) (cond (b && rest) (Some (record { start = s; period = p; width = w })) None)) (le-leb s latest (omega arith)))
  where
    rest : Bool
    rest = ltb 0 w && (leb w p && leb p longest)

    moved : (b : Bool) → cond (true && b) (Some (record { start = s + n; period = p; width = w })) None
        ≡ option_map (later n) (cond (true && b) (Some (record { start = s; period = p; width = w })) None)
    moved true = refl
    moved false = refl

-- what stands where a name is found
named_at : {X : Type 0} (f : X → ℕ) (name : ℕ) (xs : List X) (x : X) → Some x ≡ named f name xs → (k : ℕ) × (slice_get xs k ≡ Some x)
named_at f name [] x e = cc
named_at f name (y ∷ xs) x e = go (eqb (f y) name) (named_at f name xs x) e
  where
    further : (k : ℕ) × (slice_get xs k ≡ Some x) → (k : ℕ) × (slice_get (y ∷ xs) k ≡ Some x)
    further (k, at) = (suc k, at)

    go : (b : Bool) → (Some x ≡ named f name xs → (k : ℕ) × (slice_get xs k ≡ Some x)) → Some x ≡ cond b (Some y) (named f name xs) → (k : ℕ) × (slice_get (y ∷ xs) k ≡ Some x)
    go true rest is = (0, sym is)
    go false rest is = further (rest is)

-- ---- stays, tasks and packets

-- stays on one place, by the least wait of their holds
pub stays_meet : (p q : Place) (one other : Option Hold) (own held : Hold) (wait : Option ℕ) → one ≡ Some own → other ≡ Some held → same_place p q ≡ true
    → Least (λ n. Meet (span held) (later n (span own)) → ⊥) wait
    → StillMeets (record { place = p; hold = option_map span one }) (record { place = q; hold = option_map span other }) wait
stays_meet p q one other own held wait eo eh same least =
    subst (λ (o : Option Hold). StillMeets (record { place = p; hold = option_map span o }) (record { place = q; hold = option_map span other }) wait) (sym eo)
    (subst (λ (o : Option Hold). StillMeets (record { place = p; hold = Some (span own) }) (record { place = q; hold = option_map span o }) wait) (sym eh)
    (still_meets p q (span own) (span held) wait same (proper own) (proper held) least))

-- a job still meets the held one of a name, by a stay of each
pub job_meets : {X : Type 0} (label : X → ℕ) (takes : X → List Take) (held : List X) (own : List Take) (job : X) (name : ℕ) (one other : Stay) (wait : Option ℕ)
    → Some job ≡ named label name held → Among own (Some one) → Among (takes job) (Some other)
    → StillMeets (stay_take one) (stay_take other) wait → StillMet own (map (job_of label takes) held) wait
job_meets label takes held own job name one other wait e (i, eo) (j, eh) still =
    let at = named_at label name held job e in
    still_met own (map (job_of label takes) held) at.0 i j (job_of label takes job) (stay_take one) (stay_take other) wait
    (slice_get-map (job_of label takes) held at.0 ∙ ap (option_map (job_of label takes)) at.1) eo eh still

-- a later phase is the task put off
task_later : (t : OpenTask) (v n : ℕ) → v + n ≤ latest → task_takes (task_at t (v + n)) ≡ map (put_off n) (task_takes (task_at t v))
task_later t v n l = ap (λ h. record { place = core t.core; hold = h } ∷ []) (spanned_later v t.period t.width n l)

-- so the phases within the wait meet
pub phase_fails : (t : OpenTask) (hs : List HeldJob) (v : ℕ) (wait : Option ℕ) → StillMet (task_takes (task_at t v)) hs wait
    → FailsFrom (λ p. is_none (first_met (task_takes (task_at t p)) hs)) v wait
phase_fails t hs v None still = λ n l. subst (λ ts. is_none (first_met ts hs) ≡ false) (sym (task_later t v n (omega arith))) (still n)
phase_fails t hs v (Some w) still = λ n k l. subst (λ ts. is_none (first_met ts hs) ≡ false) (sym (task_later t v n (omega arith))) (still n k)

-- later packets take the same links later
pub route_later : (net : Network) (ls : List ℕ) (s p w n : ℕ) → s + n + travel net ls ≤ latest → route_takes net ls (s + n) p w ≡ map (put_off n) (route_takes net ls s p w)
route_later net [] s p w n l = refl
route_later net (x ∷ ls) s p w n l =
    let d = link_delay net x in
    let swap : s + n + d ≡ s + d + n = omega arith in
    ap (λ h. record { place = link x; hold = h } ∷ route_takes net ls (s + n + d) p w) (spanned_later s p w n (omega arith))
    ∙ ap (λ ts. record { place = link x; hold = option_map (later n) (spanned s p w) } ∷ ts)
    (ap (λ (k : ℕ). route_takes net ls k p w) swap ∙ route_later net ls (s + d) p w n (omega arith))
