-- An offered job against those held, of one kind or another: by the rule's meetings and by runs.
use Rattle.std.proofs.Common.{◌≡◌, ℕ, false, List, map, Some, None, sym, ap, ◌∙◌, subst}
use Rattle.jobs.specs.declared.job.Job.{Job}
use Rattle.jobs.specs.declared.meeting.Meeting.{Meeting}
use Rattle.jobs.specs.declared.place.Place.{Place}
use Rattle.jobs.specs.Claims.{claims}
use Rattle.jobs.specs.Jobs.{In, Jobs, Setting}
use Rattle.jobs.specs.Meetings.{HeldJob, first_met}
use Rattle.jobs.specs.Places.{place_before}
use Rattle.jobs.specs.Takes.{Take, take_of}
use Rattle.jobs.proofs.Holders.{claims_fit, mapped_fit}
use Rattle.jobs.specs.Timing.{run_number}
use Rattle.promise.specs.Clean.{Uses}
use Rattle.promise.specs.Offers.{FirstMeeting, Meets}
use Rattle.promise.proofs.Firsts.{FirstMet, first_met_none, first_met_some}
use Rattle.promise.proofs.Lists.{in_map, map_in}
use Rattle.promise.proofs.Meets.{AllSound, HeldSound, MeetAt}
use Rattle.promise.proofs.Takes.{Whole, take_uses, takes, uses_take}

-- runs of two jobs that meet are takes that meet
module _ (g : Setting) (js : Jobs) (x y : Job) (wx : Whole g js x) (wy : Whole g js y) where
  record Taking (n : ℕ) (p : Place) : Type 0 where
    mine : Take
    theirs : Take
    mine_in : In mine (takes g js x wx)
    theirs_in : In theirs (takes g js y wy)
    at : MeetAt mine theirs n
    placed : mine.place ≡ p

  meets_takes : (n : ℕ) (p : Place) → Meets g js x y n p → Taking n p
  meets_takes n p (k, j, u, v) =
      let a = uses_take g js x wx k n p u in
      let b = uses_take g js y wy j n p v in
      record {
        mine = a.0;
        theirs = b.0;
        mine_in = a.1;
        theirs_in = b.1;
        at = record {
          same = a.2 ∙ sym b.2;
          mine = a.3;
          theirs = b.3;
          mine_is = a.5;
          theirs_is = b.5;
          mine_busy = (a.4, a.7);
          theirs_busy = (b.4, b.7);
        };
        placed = a.2;
      }

  -- and takes that meet are runs
  takes_meet : (a b : Take) → In a (takes g js x wx) → In b (takes g js y wy) → (n : ℕ) → MeetAt a b n → Meets g js x y n a.place
  takes_meet a b i j n at =
      let u = take_uses g js x wx a i at.mine at.mine_is at.mine_busy.0 n at.mine_busy.1 in
      let v = take_uses g js y wy b j at.theirs at.theirs_is at.theirs_busy.0 n at.theirs_busy.1 in (
        run_number x at.mine_busy.0,
        run_number y at.theirs_busy.0,
        u,
        subst (λ (p : Place). Uses g js y (run_number y at.theirs_busy.0) p n) (sym at.same) v,
      )

module _ (g : Setting) (js : Jobs) (x : Job) (own_whole : Whole g js x) {X : Type 0} (name : X → ℕ) (of : X → Job) (held : List X)
    (held_whole : (y : X) → In y held → Whole g js (of y)) where
  -- a held job by what it claims
  abbrev pub job_at : X → HeldJob
  job_at y = record { name = name y; takes = map take_of (claims g js.tasks (of y)) }

  abbrev own : List Take
  own = map take_of (claims g js.tasks x)

  own_sound : AllSound own
  own_sound a (i, e) = claims_fit (claims g js.tasks x) i a e

  held_sound : HeldSound (map job_at held)
  held_sound h (k, at) a (i, e) = mapped_fit job_at held (λ y. claims_fit (claims g js.tasks (of y))) k h at i a e

  -- where no meeting is found, no run of a held job ever has a place with one of the offered job
  pub none_meets : first_met own (map job_at held) ≡ None → (y : X) → In y held → (n : ℕ) (p : Place) → Meets g js x (of y) n p → ⊥
  none_meets none y i n p m =
      let t = meets_takes g js x (of y) own_whole (held_whole y i) n p m in
      first_met_none own (map job_at held) own_sound held_sound none (job_at y) (in_map job_at y held i) t.mine t.theirs t.mine_in t.theirs_in n t.at

  -- a meeting that is found is the first
  pub first_meets : (m : Meeting) → first_met own (map job_at held) ≡ Some m → FirstMeeting name held (λ y. Meets g js x (of y)) m
  first_meets m e = go (map_in job_at f.job held f.job_in)
    where
      f : FirstMet own (map job_at held) m
      f = first_met_some own (map job_at held) own_sound held_sound m e

      go : (y : X) × In y held × (job_at y ≡ f.job) → FirstMeeting name held (λ y. Meets g js x (of y)) m
      go (y, k, is) =
          let theirs_in : In f.theirs (map take_of (claims g js.tasks (of y))) = subst (λ (h : HeldJob). In f.theirs h.takes) (sym is) f.theirs_in in
          record {
            job = y;
            is_held = k;
            is_named = ap (λ (h : HeldJob). h.name) is ∙ f.named;
            meets = subst (Meets g js x (of y) m.instant) f.placed
                (takes_meet g js x (of y) own_whole (held_whole y k) f.mine f.theirs f.mine_in theirs_in m.instant f.meets);
            earliest = λ z i n p h.
                let t = meets_takes g js x (of z) own_whole (held_whole z i) n p h in
                f.earliest (job_at z) (in_map job_at z held i) t.mine t.theirs t.mine_in t.theirs_in n t.at;
            smallest = λ z i p h.
                let t = meets_takes g js x (of z) own_whole (held_whole z i) m.instant p h in
                f.least_name (job_at z) (in_map job_at z held i) t.mine t.theirs t.mine_in t.theirs_in t.at;
            lowest = λ z i named p h.
                let t = meets_takes g js x (of z) own_whole (held_whole z i) m.instant p h in
                subst (λ (q : Place). place_before q m.place ≡ false) t.placed
                (f.least_place (job_at z) (in_map job_at z held i) t.mine t.theirs t.mine_in t.theirs_in t.at named);
          }
