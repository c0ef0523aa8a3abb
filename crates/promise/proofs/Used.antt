-- A run that has a place has it by a claim, and the claims are those of the core or of the links of the route.
use Rattle.std.proofs.Common.{◌≡◌, ℕ, ◌+◌, Some, None, Option, refl, sym, ap, ◌∙◌, subst, arith}
use Rattle.std.specs.List.{slice_get}
use Rattle.std.proofs.lemmas.Option.{same_Some}
use Rattle.holds.specs.Span.{RunHolds}
use Rattle.records.specs.declared.record.Message.{Message}
use Rattle.jobs.specs.declared.job.Job.TheVariants as job
use Rattle.jobs.specs.declared.place.Place.{Place}
use Rattle.jobs.specs.Claims.{Claim, claims_on, task_claim, trip_claims}
use Rattle.jobs.specs.Jobs.{In, Jobs, Setting, task_name, task_named}
use Rattle.jobs.specs.Places.{link}
use Rattle.jobs.specs.Timing.{departure, offset, packet_period, task_span}
use Rattle.jobs.specs.Trips.{Trip, trip_of}
use Rattle.jobs.proofs.Limits.{claims_at, offset_even}
use Rattle.promise.specs.Clean.{Uses}
use Rattle.promise.specs.Used.{MessageUses, OnLink, TaskUses, TripTasks}
use Rattle.promise.proofs.Lists.{in_nil, named_in}
use Rattle.promise.proofs.Takes.{claim_link, lone_in, nth_below, trip_parts}

pub task_uses : TaskUses
task_uses g js t k p n = (
  λ u.
      let same : u.claim ≡ task_claim t = lone_in (task_claim t) u.claim u.claimed in
      let h = subst (λ (c : Claim). RunHolds c.span u.turn n) same u.holds in
      let own : RunHolds (task_span t) k n = subst (λ (j : ℕ). RunHolds (task_span t) j n) (sym u.run) h in
      (sym u.there ∙ ap (λ (c : Claim). c.place) same, own.0, own.1),
  λ x. record { claim = task_claim t; claimed = (0, refl); there = sym x.0; turn = k; run = refl; holds = (x.1, x.2) },
)

-- the claim of the link at a place of the route
abbrev link_claim : Setting → Trip → Message → ℕ → ℕ → Claim
link_claim g t m i l =
    record {
      place = link l;
      span = record { start = departure t.source m + offset g.network t.route i; period = packet_period t.source m; width = m.width };
    }

at_link : (g : Setting) (t : Trip) (m : Message) (i l : ℕ) → slice_get t.route i ≡ Some l → slice_get (trip_claims g.network t m) i ≡ Some (link_claim g t m i l)
at_link g t m i l = claims_at g.network t.route (departure t.source m) (packet_period t.source m) m.width i l

module _ (g : Setting) (js : Jobs) (m : Message) (k : ℕ) (p : Place) (n : ℕ) where
  on_link : Uses g js (job.Message m) k p n → OnLink g js m k p n
  on_link u = go (trip_of g js.tasks m) refl u.claimed
    where
      go : (o : Option Trip) → trip_of g js.tasks m ≡ o → In u.claim (claims_on g.network m o) → OnLink g js m k p n
      go None e i = absurd (in_nil u.claim i)
      go (Some t) e (i, at) =
          let l = claim_link g.network t.route (departure t.source m) (packet_period t.source m) m.width i u.claim at in
          let same : u.claim ≡ link_claim g t m i l.0 = same_Some _ _ (sym at ∙ at_link g t m i l.0 l.1) in
          let h = subst (λ (c : Claim). RunHolds c.span u.turn n) same u.holds in
          let own : RunHolds (link_claim g t m i l.0).span k n = subst (λ (j : ℕ). RunHolds (link_claim g t m i l.0).span j n) (sym u.run) h in
          let far = offset_even g.network t.route i (omega (arith, (nth_below t.route i l.0 l.1).0)) in
          record {
            trip = t;
            going = e;
            i = i;
            number = l.0;
            along = l.1;
            place = sym u.there ∙ l.2;
            since = omega (arith, own.0, far);
            until = omega (arith, own.1, far);
          }

  has_link : OnLink g js m k p n → Uses g js (job.Message m) k p n
  has_link x =
      let t = x.trip in
      let far = offset_even g.network t.route x.i (omega (arith, (nth_below t.route x.i x.number x.along).0)) in
      record {
        claim = link_claim g t m x.i x.number;
        claimed = subst (λ (o : Option Trip). In (link_claim g t m x.i x.number) (claims_on g.network m o)) (sym x.going) (x.i, at_link g t m x.i x.number x.along);
        there = sym x.place;
        turn = k;
        run = refl;
        holds = (omega (arith, x.since, far), omega (arith, x.until, far));
      }

pub message_uses : MessageUses
message_uses g js m k p n = (on_link g js m k p n, has_link g js m k p n)

pub trip_tasks : TripTasks
trip_tasks g ts m t e =
    let p = trip_parts g.network (task_named ts m.source) (task_named ts m.destination) t e in
    (named_in task_name m.source t.source ts p.source, named_in task_name m.destination t.destination ts p.destination, p.along)
