-- The first meeting of a job with all that are held is the earliest of all time, then of the least held name, then of the least place.
use Rattle.std.proofs.Common.{◌≡◌, ℕ, ◌≤◌, true, false, ◌⊎◌, List, [], ◌∷◌, map, Some, None, Option, sym, refl, ap, ◌∙◌, subst, inl, inr, ⊎_elim, arith}
use Rattle.std.proofs.lemmas.Bool.{cond_both}
use Rattle.std.proofs.lemmas.Bool.Decides.{nat_tests}
use Rattle.jobs.specs.declared.meeting.Meeting.{Meeting}
use Rattle.jobs.specs.declared.place.Place.{Place}
use Rattle.jobs.specs.Meetings.{HeldJob, all_meetings, before, earliest_from, first_met, meetings, met, sooner}
use Rattle.jobs.specs.Places.{place_before}
use Rattle.jobs.specs.Takes.{Take}
use Rattle.jobs.specs.Jobs.{In}
use Rattle.promise.proofs.Lists.{append_in, in_cases, in_here, in_left, in_map, in_nil, in_right, in_there, map_in}
use Rattle.promise.proofs.Meets.{AllSound, HeldSound, MeetAt, MetFirst, met_none, met_some}

-- ---- every meeting of a take with one of a held job is compared

-- by the offered job's takes in turn
in_meetings : (name : ℕ) (own theirs : List Take) (x y : Take) → In x own → In y theirs → In (met name x y) (meetings name own theirs)
in_meetings name [] theirs x y a b = absurd (in_nil x a)
in_meetings name (z ∷ zs) theirs x y a b =
    ⊎_elim
    (λ e. in_left (met name x y) (map (met name z) theirs) (meetings name zs theirs)
    (subst (λ (w : Take). In (met name x y) (map (met name w) theirs)) e (in_map (met name x) y theirs b)))
    (λ j. in_right (met name x y) (map (met name z) theirs) (meetings name zs theirs) (in_meetings name zs theirs x y j b))
    (in_cases z x zs a)

-- and by the held jobs in turn
pub in_all_meetings : (own : List Take) (hs : List HeldJob) (h : HeldJob) (x y : Take) → In h hs → In x own → In y h.takes → In (met h.name x y) (all_meetings own hs)
in_all_meetings own [] h x y k a b = absurd (in_nil h k)
in_all_meetings own (j ∷ js) h x y k a b =
    ⊎_elim
    (λ e. in_left (met h.name x y) (meetings j.name own j.takes) (all_meetings own js)
    (subst (λ (w : HeldJob). In (met h.name x y) (meetings w.name own w.takes)) e (in_meetings h.name own h.takes x y a b)))
    (λ i. in_right (met h.name x y) (meetings j.name own j.takes) (all_meetings own js) (in_all_meetings own js h x y i a b))
    (in_cases j h js k)

-- where a compared meeting comes from
pub record MetBy (own : List Take) (hs : List HeldJob) (z : Option Meeting) : Type 0 where
  pub job : HeldJob
  pub mine : Take
  pub theirs : Take
  pub job_in : In job hs
  pub mine_in : In mine own
  pub theirs_in : In theirs job.takes
  pub is : z ≡ met job.name mine theirs

-- the same for one held job
abbrev FromTakes : ℕ → List Take → List Take → Option Meeting → Type 0
FromTakes name own theirs z = (x y : Take) × In x own × In y theirs × (z ≡ met name x y)

-- a meeting of the comparison with one held job is one of its takes with one of the offered job's
meetings_in : (name : ℕ) (own theirs : List Take) (z : Option Meeting) → In z (meetings name own theirs) → FromTakes name own theirs z
meetings_in name [] theirs z k = absurd (in_nil z k)
meetings_in name (x ∷ xs) theirs z k =
    ⊎_elim (λ a. here (map_in (met name x) z theirs a)) (λ b. later (meetings_in name xs theirs z b)) (append_in z (map (met name x) theirs) (meetings name xs theirs) k)
  where
    here : (y : Take) × In y theirs × (met name x y ≡ z) → FromTakes name (x ∷ xs) theirs z
    here (y, a, e) = (x, y, (0, refl), a, sym e)

    later : FromTakes name xs theirs z → FromTakes name (x ∷ xs) theirs z
    later (w, y, a, b, e) = (w, y, in_there x w xs a, b, e)

-- and each that is compared is one with some held job
pub all_meetings_in : (own : List Take) (hs : List HeldJob) (z : Option Meeting) → In z (all_meetings own hs) → MetBy own hs z
all_meetings_in own [] z k = absurd (in_nil z k)
all_meetings_in own (h ∷ hs) z k =
    ⊎_elim (λ a. here (meetings_in h.name own h.takes z a)) (λ b. later (all_meetings_in own hs z b))
    (append_in z (meetings h.name own h.takes) (all_meetings own hs) k)
  where
    here : FromTakes h.name own h.takes z → MetBy own (h ∷ hs) z
    here (x, y, a, b, e) = record { job = h; mine = x; theirs = y; job_in = (0, refl); mine_in = a; theirs_in = b; is = e }

    later : MetBy own hs z → MetBy own (h ∷ hs) z
    later m = record { job = m.job; mine = m.mine; theirs = m.theirs; job_in = in_there h m.job hs m.job_in; mine_in = m.mine_in; theirs_in = m.theirs_in; is = m.is }

-- ---- the order of meetings

before_self : (a : Meeting) → before a a ≡ false
before_self a = grind (arith, nat_tests)

-- what is not before a second, that is not before a third, is not before the third
before_not : (a b c : Meeting) → before a b ≡ false → before b c ≡ false → before a c ≡ false
before_not a b c p q = grind (arith, nat_tests)

-- what is after one that is not before a third, is not before the third
before_after : (a b c : Meeting) → before a b ≡ true → before a c ≡ false → before b c ≡ false
before_after a b c p q = grind (arith, nat_tests)

-- what is not before m is no earlier, at its instant has no smaller name, and then no place before it
record NotBefore (o m : Meeting) : Type 0 where
  instants : m.instant ≤ o.instant
  names : o.instant ≡ m.instant → m.held ≤ o.held
  places : o.instant ≡ m.instant → o.held ≡ m.held → place_before o.place m.place ≡ false

not_before : (o m : Meeting) → before o m ≡ false → NotBefore o m
not_before o m e = record { instants = grind (arith, nat_tests); names = λ a. grind (arith, nat_tests); places = λ a b. grind (arith, nat_tests) }

-- ---- the earliest of a list

-- the sooner of two is none where both are, and else one of them
sooner_none : (a b : Option Meeting) → sooner a b ≡ None → (a ≡ None) × (b ≡ None)
sooner_none None b e = (refl, e)
sooner_none (Some a) None e = cc
sooner_none (Some a) (Some b) e =
    cond_both (before b a) (Some b) (Some a) (λ o. o ≡ None → (Some a ≡ None) × (Some b ≡ None))
    (λ _ is. cc) (λ _ is. cc) e

sooner_one : (a b : Option Meeting) (m : Meeting) → sooner a b ≡ Some m → (a ≡ Some m) ⊎ (b ≡ Some m)
sooner_one None b m e = inr e
sooner_one (Some a) None m e = inl e
sooner_one (Some a) (Some b) m e =
    cond_both (before b a) (Some b) (Some a) (λ o. o ≡ Some m → (Some a ≡ Some m) ⊎ (Some b ≡ Some m)) (λ _ is. inr is) (λ _ is. inl is) e

-- nothing in an option is before m
abbrev NoneBefore : Option Meeting → Meeting → Type 0
NoneBefore a m = (o : Meeting) → a ≡ Some o → before o m ≡ false

same_not : (a o m : Meeting) → Some a ≡ Some o → before a m ≡ false → before o m ≡ false
same_not a o m e h = let s : a ≡ o = cc in subst (λ (x : Meeting). before x m ≡ false) s h

-- where the sooner of two is not before m, neither is
sooner_least : (a b : Option Meeting) (m : Meeting) → NoneBefore (sooner a b) m → NoneBefore a m × NoneBefore b m
sooner_least None b m h = (λ o e. cc, h)
sooner_least (Some a) None m h = (h, λ o e. cc)
sooner_least (Some a) (Some b) m h =
    cond_both (before b a) (Some b) (Some a) (λ o. NoneBefore o m → NoneBefore (Some a) m × NoneBefore (Some b) m)
    (λ t k. (λ o e. same_not a o m e (before_after b a m t (k b refl)), k))
    (λ t k. (k, λ o e. same_not b o m e (before_not b a m t (k a refl))))
    h

-- with a meeting in hand or none: where there is no earliest, none is in hand and none in the list
none_from : (best : Option Meeting) (xs : List (Option Meeting)) → earliest_from best xs ≡ None → (best ≡ None) × ((m : Meeting) → In (Some m) xs → ⊥)
none_from best [] e = (e, λ m k. in_nil (Some m) k)
none_from best (x ∷ xs) e =
    let r = none_from (sooner best x) xs e in
    let s = sooner_none best x r.0 in
    (s.0, λ m k. ⊎_elim (λ is. let none = s.1 in cc) (λ j. r.1 m j) (in_cases x (Some m) xs k))

-- the earliest is in hand or in the list
one_from : (best : Option Meeting) (xs : List (Option Meeting)) (m : Meeting) → earliest_from best xs ≡ Some m → (best ≡ Some m) ⊎ In (Some m) xs
one_from best [] m e = inl e
one_from best (x ∷ xs) m e =
    ⊎_elim (λ s. ⊎_elim (λ a. inl a) (λ b. inr (in_here x (Some m) xs (sym b))) (sooner_one best x m s)) (λ k. inr (in_there x (Some m) xs k)) (one_from (sooner best x) xs m e)

-- neither what is in hand nor any of the list is before it
least_from : (best : Option Meeting) (xs : List (Option Meeting)) (m : Meeting) → earliest_from best xs ≡ Some m
    → NoneBefore best m × ((o : Meeting) → In (Some o) xs → before o m ≡ false)
least_from best [] m e = (λ o is. let s : m ≡ o = cc in same_not m o m (ap Some s) (before_self m), λ o k. absurd (in_nil (Some o) k))
least_from best (x ∷ xs) m e =
    let r = least_from (sooner best x) xs m e in
    let s = sooner_least best x m r.0 in
    (s.0, λ o k. ⊎_elim (λ is. s.1 o (sym is)) (λ j. r.1 o j) (in_cases x (Some o) xs k))

-- where there is no earliest, the list has no meeting
pub earliest_none : (xs : List (Option Meeting)) → earliest_from None xs ≡ None → (m : Meeting) → In (Some m) xs → ⊥
earliest_none xs e = (none_from None xs e).1

-- the earliest is one of the list
pub earliest_in : (xs : List (Option Meeting)) (m : Meeting) → earliest_from None xs ≡ Some m → In (Some m) xs
earliest_in xs m e = ⊎_elim (λ is. cc) (λ k. k) (one_from None xs m e)

-- and none of the list is before it
pub earliest_least : (xs : List (Option Meeting)) (m : Meeting) → earliest_from None xs ≡ Some m → (o : Meeting) → In (Some o) xs → before o m ≡ false
earliest_least xs m e = (least_from None xs m e).1

-- ---- the first meeting with all that are held

-- a meeting that happens: none is earlier, at its instant no held job that is met has a smaller name, and with that name no place that
-- is met comes before it
pub record FirstMet (own : List Take) (held : List HeldJob) (m : Meeting) : Type 0 where
  pub job : HeldJob
  pub mine : Take
  pub theirs : Take
  pub job_in : In job held
  pub mine_in : In mine own
  pub theirs_in : In theirs job.takes
  pub named : job.name ≡ m.held
  pub placed : mine.place ≡ m.place
  pub meets : MeetAt mine theirs m.instant
  pub earliest : (h : HeldJob) → In h held → (x y : Take) → In x own → In y h.takes → (n : ℕ) → MeetAt x y n → m.instant ≤ n
  pub least_name : (h : HeldJob) → In h held → (x y : Take) → In x own → In y h.takes → MeetAt x y m.instant → m.held ≤ h.name
  pub least_place : (h : HeldJob) → In h held → (x y : Take) → In x own → In y h.takes → MeetAt x y m.instant → h.name ≡ m.held
      → place_before x.place m.place ≡ false

module _ (own : List Take) (held : List HeldJob) (own_sound : AllSound own) (held_sound : HeldSound held) where
  -- takes that meet have a first meeting, which is compared
  record Compared (h : HeldJob) (x y : Take) : Type 0 where
    meeting : Meeting
    compared : In (Some meeting) (all_meetings own held)
    first : MetFirst h.name x y meeting

  compare : (h : HeldJob) → In h held → (x y : Take) → In x own → In y h.takes → (n : ℕ) → MeetAt x y n → Compared h x y
  compare h k x y a b n at = go (met h.name x y) refl
    where
      go : (o : Option Meeting) → met h.name x y ≡ o → Compared h x y
      go None e = absurd (met_none h.name x y (own_sound x a) (held_sound h k y b) e n at)
      go (Some m) e =
          record {
            meeting = m;
            compared = subst (λ (z : Option Meeting). In z (all_meetings own held)) e (in_all_meetings own held h x y k a b);
            first = met_some h.name x y m (own_sound x a) (held_sound h k y b) e;
          }

  -- where no first meeting is told, nothing of the job meets anything held, at any instant of all time
  pub first_met_none : first_met own held ≡ None → (h : HeldJob) → In h held → (x y : Take) → In x own → In y h.takes → (n : ℕ) → MeetAt x y n → ⊥
  first_met_none e h k x y a b n at = let c = compare h k x y a b n at in earliest_none (all_meetings own held) e c.meeting c.compared

  -- a first meeting that is told is the first
  pub first_met_some : (m : Meeting) → first_met own held ≡ Some m → FirstMet own held m
  first_met_some m e = go (all_meetings_in own held (Some m) (earliest_in (all_meetings own held) m e))
    where
      after : {h : HeldJob} {x y : Take} (c : Compared h x y) → NotBefore c.meeting m
      after c = not_before c.meeting m (earliest_least (all_meetings own held) m e c.meeting c.compared)

      soonest : (h : HeldJob) → In h held → (x y : Take) → In x own → In y h.takes → (n : ℕ) → MeetAt x y n → m.instant ≤ n
      soonest h k x y a b n at = let c = compare h k x y a b n at in omega (arith, (after c).instants, c.first.3 n at)

      level : {h : HeldJob} {x y : Take} (c : Compared h x y) → MeetAt x y m.instant → c.meeting.instant ≡ m.instant
      level c at = omega (arith, (after c).instants, c.first.3 m.instant at)

      by_name : (h : HeldJob) → In h held → (x y : Take) → In x own → In y h.takes → MeetAt x y m.instant → m.held ≤ h.name
      by_name h k x y a b at = let c = compare h k x y a b m.instant at in omega (arith, (after c).names (level c at), c.first.1)

      by_place : (h : HeldJob) → In h held → (x y : Take) → In x own → In y h.takes → MeetAt x y m.instant → h.name ≡ m.held
          → place_before x.place m.place ≡ false
      by_place h k x y a b at is =
          let c = compare h k x y a b m.instant at in subst (λ (p : Place). place_before p m.place ≡ false) c.first.2 ((after c).places (level c at) (c.first.1 ∙ is))

      go : MetBy own held (Some m) → FirstMet own held m
      go b =
          let f = met_some b.job.name b.mine b.theirs m (own_sound b.mine b.mine_in) (held_sound b.job b.job_in b.theirs b.theirs_in) (sym b.is) in
          record {
            job = b.job;
            mine = b.mine;
            theirs = b.theirs;
            job_in = b.job_in;
            mine_in = b.mine_in;
            theirs_in = b.theirs_in;
            named = sym f.1;
            placed = sym f.2;
            meets = f.0;
            earliest = soonest;
            least_name = by_name;
            least_place = by_place;
          }
