-- What the jobs of a clean plan take is what they claim.
--   Whole        each claim of a job is taken as it is
--   uses_take    a run that has a place has it by a take, and take_uses back
use Rattle.std.proofs.Common.{◌≡◌, ℕ, zero, suc, ◌+◌, ◌<◌, ◌≤◌, true, ◌⊎◌, List, [], ◌∷◌, length, get_or, map, Some, None, Option, sym, refl, ap, ◌∙◌, subst, inl, inr, ⊎_elim, arith}
use Rattle.std.specs.List.{slice_get}
use Rattle.std.specs.Option.{option_map}
use Rattle.std.proofs.lemmas.Bool.{cases_order}
use Rattle.std.proofs.lemmas.Bool.Decides.{nat_tests}
use Rattle.std.proofs.lemmas.Option.{same_Some}
use Rattle.fabric.specs.Network.{IsFabric, Network, Once}
use Rattle.holds.specs.Span.{Proper, RunHolds, Span}
use Rattle.holds.proofs.Busy.{run_only}
use Rattle.records.specs.declared.record.Task.{Task}
use Rattle.records.specs.declared.record.Message.{Message}
use Rattle.jobs.specs.declared.job.Job.{Job}
use Rattle.jobs.specs.declared.job.Job.TheVariants as job
use Rattle.jobs.specs.declared.place.Place.{Place}
use Rattle.jobs.specs.declared.place.PlaceKind.TheVariants as kind
use Rattle.jobs.specs.Checks.{message_timely, task_timely}
use Rattle.jobs.specs.Claims.{Claim, claims, claims_on, link_claims, task_claim, trip_claims}
use Rattle.jobs.specs.Jobs.{In, IsHeld, Jobs, Setting, task_named}
use Rattle.jobs.specs.Places.{core, link}
use Rattle.jobs.specs.Stand.{Goes}
use Rattle.jobs.specs.Takes.{Take, take_of}
use Rattle.jobs.specs.Timing.{departure, link_delay, packet_period, run_number}
use Rattle.jobs.specs.Trips.{Trip, trip_between, trip_of}
use Rattle.jobs.proofs.Holders.{claims_fit}
use Rattle.jobs.proofs.Limits.{claim_holds, task_holds}
use Rattle.promise.specs.Clean.{Clean, MessageMade, TaskMade, Uses}
use Rattle.promise.proofs.Lists.{in_cases, in_map, in_nil, map_in, named_in}

-- ---- limits

-- the tests of the rules, and the limits in words
pub timely_made : (g : Setting) (t : Task) → TaskMade g t → task_timely t ≡ true
timely_made g t h = let a = h.short in let b = h.some in let c = h.fits in grind (arith, nat_tests)

pub timely_sent : (s : Task) (m : Message) → m.kind < 2 → m.delay < s.period → 1 ≤ m.width → m.width ≤ s.period → message_timely s m ≡ true
timely_sent s m a b c d = grind (arith, nat_tests)

-- ---- trips

-- the parts of a trip
pub record Parted (net : Network) (s d : Option Task) (t : Trip) : Type 0 where
  pub source : s ≡ Some t.source
  pub destination : d ≡ Some t.destination
  pub along : net.route t.source.core t.destination.core ≡ Some t.route

pub trip_parts : (net : Network) (s d : Option Task) (t : Trip) → trip_between net s d ≡ Some t → Parted net s d t
trip_parts net None d t e = cc
trip_parts net (Some s) None t e = cc
trip_parts net (Some s) (Some d) t e = go (net.route s.core d.core) refl e
  where
    go : (o : Option (List ℕ)) → net.route s.core d.core ≡ o → option_map (λ r. record { source = s; destination = d; route = r }) o ≡ Some t → Parted net (Some s) (Some d) t
    go None eo is = cc
    go (Some r) eo is =
        let same : ◌≡◌ {A = Trip} (record { source = s; destination = d; route = r }) t = same_Some _ _ is in
        subst (Parted net (Some s) (Some d)) same (record { source = refl; destination = refl; along = eo })

-- and a trip of its parts
pub trip_is : (net : Network) (s d : Option Task) (t : Trip) → Parted net s d t → trip_between net s d ≡ Some t
trip_is net s d t p =
    ap (λ x. trip_between net x d) p.source
    ∙ ap (trip_between net (Some t.source)) p.destination
    ∙ ap (option_map (λ r. record { source = t.source; destination = t.destination; route = r })) p.along

-- a task that a name finds in a clean plan is well made
pub found_made : (g : Setting) (js : Jobs) → Clean g js → (n : ℕ) (t : Task) → task_named js.tasks n ≡ Some t → TaskMade g t
found_made g js clean n t e = clean.made.tasks t (named_in (λ u. u.name) n t js.tasks e).0

-- a message within its limits goes along its trip between tasks of a clean plan
pub goes_between : (g : Setting) (js : Jobs) → Clean g js → (m : Message) (t : Trip) → trip_of g js.tasks m ≡ Some t → message_timely t.source m ≡ true → Goes g.network t m
goes_between g js clean m t e timely =
    let p = trip_parts g.network (task_named js.tasks m.source) (task_named js.tasks m.destination) t e in
    record {
      source = timely_made g t.source (found_made g js clean m.source t.source p.source);
      timely = timely;
      along = p.along;
    }

-- and is read by one of them
pub reads_between : (g : Setting) (js : Jobs) → Clean g js → (m : Message) (t : Trip) → trip_of g js.tasks m ≡ Some t → task_timely t.destination ≡ true
reads_between g js clean m t e =
    let p = trip_parts g.network (task_named js.tasks m.source) (task_named js.tasks m.destination) t e in
    timely_made g t.destination (found_made g js clean m.destination t.destination p.destination)

pub made_goes : (g : Setting) (js : Jobs) → Clean g js → (m : Message) (h : MessageMade g js.tasks m) → Goes g.network h.trip m
made_goes g js clean m h = goes_between g js clean m h.trip h.going (timely_sent h.trip.source m h.kind h.delay h.some h.fits)

-- ---- claims that are taken as they are, no place twice

-- what the claims of a job are
pub record Whole (g : Setting) (js : Jobs) (x : Job) : Type 0 where
  pub taken : (c : Claim) → In c (claims g js.tasks x) → take_of c ≡ record { place = c.place; hold = Some c.span }
  pub once : (c d : Claim) → In c (claims g js.tasks x) → In d (claims g js.tasks x) → c.place ≡ d.place → c ≡ d

pub lone_in : {X : Type 0} (x y : X) → In y (x ∷ []) → y ≡ x
lone_in x y k = ⊎_elim (λ e. e) (λ j. absurd (in_nil y j)) (in_cases x y [] k)

pub task_whole : (g : Setting) (js : Jobs) (t : Task) → TaskMade g t → Whole g js (job.Task t)
task_whole g js t h =
    record {
      taken = λ c i.
          let same : c ≡ task_claim t = lone_in (task_claim t) c i in
          subst (λ (d : Claim). take_of d ≡ record { place = d.place; hold = Some d.span }) (sym same)
          (ap (λ o. record { place = core t.core; hold = o }) (task_holds t (timely_made g t h)));
      once = λ c d i j _. lone_in (task_claim t) c i ∙ sym (lone_in (task_claim t) d j);
    }

-- each claim of a route is of the link at its place
pub claim_link : (net : Network) (r : List ℕ) (start p w i : ℕ) (c : Claim) → slice_get (link_claims net r start p w) i ≡ Some c → (l : ℕ) × (slice_get r i ≡ Some l) × (c.place ≡ link l)
claim_link net [] start p w i c e = cc
claim_link net (x ∷ xs) start p w zero c e =
    let same : ◌≡◌ {A = Claim} (record { place = link x; span = record { start = start; period = p; width = w } }) c = same_Some _ _ e in
    (x, refl, ap (λ (d : Claim). d.place) (sym same))
claim_link net (x ∷ xs) start p w (suc i) c e = claim_link net xs (start + link_delay net x) p w i c e

pub nth_below : (xs : List ℕ) (i l : ℕ) → slice_get xs i ≡ Some l → (i < length xs) × (get_or xs i 0 ≡ l)
nth_below [] i l at = cc
nth_below (x ∷ xs) zero l at = (omega arith, cc)
nth_below (x ∷ xs) (suc i) l at = let k = nth_below xs i l at in (omega (arith, k.0), k.1)

-- a link that stands once stands at one place
one_place : (r : List ℕ) → Once r → (i j l : ℕ) → slice_get r i ≡ Some l → slice_get r j ≡ Some l → i ≡ j
one_place r once i j l at at' = go (cases_order i j)
  where
    go : (i ≡ j) ⊎ ((i < j) ⊎ (j < i)) → i ≡ j
    go (inl x) = x
    go (inr (inl x)) = absurd (once i j x (nth_below r j l at').0 ((nth_below r i l at).1 ∙ sym (nth_below r j l at').1))
    go (inr (inr x)) = absurd (once j i x (nth_below r i l at).0 ((nth_below r j l at').1 ∙ sym (nth_below r i l at).1))

pub message_whole : (g : Setting) → IsFabric g.network → (js : Jobs) (m : Message) (t : Trip) → trip_of g js.tasks m ≡ Some t → Goes g.network t m → Whole g js (job.Message m)
message_whole g fab js m t e goes =
    record {
      taken = λ c i. let k = own c i in claim_holds g.network fab t m goes k.0 c k.1;
      once = λ c d i j same.
          let a = own c i in
          let b = own d j in
          let la = claim_link g.network t.route start t.source.period m.width a.0 c a.1 in
          let lb = claim_link g.network t.route start t.source.period m.width b.0 d b.1 in
          let number : lb.0 ≡ la.0 = ap (λ (p : Place). p.number) (sym lb.2 ∙ sym same ∙ la.2) in
          let there : slice_get t.route b.0 ≡ Some la.0 = lb.1 ∙ ap Some number in
          let index : a.0 ≡ b.0 = one_place t.route (fab.lawful.once t.source.core t.destination.core t.route goes.along) a.0 b.0 la.0 la.1 there in
          same_Some _ _ (sym a.1 ∙ ap (slice_get (trip_claims g.network t m)) index ∙ b.1);
    }
  where
    start : ℕ
    start = departure t.source m

    own : (c : Claim) → In c (claims g js.tasks (job.Message m)) → In c (trip_claims g.network t m)
    own c i = subst (λ (o : Option Trip). In c (claims_on g.network m o)) e i

-- each held job of a clean plan
pub held_whole : (g : Setting) → IsFabric g.network → (js : Jobs) → Clean g js → (x : Job) → IsHeld js x → Whole g js x
held_whole g fab js clean (job.Task t) i = task_whole g js t (clean.made.tasks t i)
held_whole g fab js clean (job.Message m) i =
    let h = clean.made.messages m i in
    message_whole g fab js m h.trip h.going (made_goes g js clean m h)

-- ---- runs and takes

module _ (g : Setting) (js : Jobs) (x : Job) (whole : Whole g js x) where
  abbrev pub takes : List Take
  takes = map take_of (claims g js.tasks x)

  -- a run that has a place has it by a take
  pub uses_take : (k n : ℕ) (p : Place) → Uses g js x k p n → (y : Take) × In y takes × (y.place ≡ p) × (h : Span) × (j : ℕ) × (y.hold ≡ Some h) × (k ≡ run_number x j) × RunHolds h j n
  uses_take k n p u = (
    take_of u.claim,
    in_map take_of u.claim (claims g js.tasks x) u.claimed,
    u.there,
    u.claim.span,
    u.turn,
    ap (λ (y : Take). y.hold) (whole.taken u.claim u.claimed),
    u.run,
    u.holds,
  )

  -- and what has it by a take is a run
  pub take_uses : (y : Take) → In y takes → (h : Span) → y.hold ≡ Some h → (j n : ℕ) → RunHolds h j n → Uses g js x (run_number x j) y.place n
  take_uses y i h hold j n has = go (map_in take_of y (claims g js.tasks x) i)
    where
      go : (c : Claim) × In c (claims g js.tasks x) × (take_of c ≡ y) → Uses g js x (run_number x j) y.place n
      go (c, k, is) =
          let same : c.span ≡ h = same_Some _ _ (sym (ap (λ (z : Take). z.hold) (whole.taken c k)) ∙ ap (λ (z : Take). z.hold) is ∙ hold) in
          record {
            claim = c;
            claimed = k;
            there = ap (λ (z : Take). z.place) is;
            turn = j;
            run = refl;
            holds = subst (λ (s : Span). RunHolds s j n) (sym same) has;
          }

  -- the holds of its claims are proper
  pub claim_proper : (c : Claim) → In c (claims g js.tasks x) → Proper c.span
  claim_proper c i =
      let k = in_map take_of c (claims g js.tasks x) i in
      claims_fit (claims g js.tasks x) k.0 (take_of c) k.1 c.span (ap (λ (y : Take). y.hold) (whole.taken c i))

  -- two runs of one job that have one place at one instant are one run
  pub same_run : (k j n : ℕ) (p : Place) → Uses g js x k p n → Uses g js x j p n → k ≡ j
  same_run k j n p u v =
      let same : v.claim ≡ u.claim = whole.once v.claim u.claim v.claimed u.claimed (v.there ∙ sym u.there) in
      let has : RunHolds u.claim.span v.turn n = subst (λ (c : Claim). RunHolds c.span v.turn n) same v.holds in
      u.run ∙ ap (run_number x) (run_only u.claim.span n v.turn u.turn (claim_proper u.claim u.claimed) has u.holds) ∙ sym v.run

-- ---- kinds of places

-- tasks have cores, and packets links
pub task_core : (g : Setting) (js : Jobs) (t : Task) (k n : ℕ) (p : Place) → Uses g js (job.Task t) k p n → p.kind ≡ kind.Core
task_core g js t k n p u =
    ap (λ (q : Place). q.kind) (sym u.there) ∙ ap (λ (c : Claim). c.place.kind) (lone_in (task_claim t) u.claim u.claimed)

pub packet_link : (g : Setting) (js : Jobs) (m : Message) (k n : ℕ) (p : Place) → Uses g js (job.Message m) k p n → p.kind ≡ kind.Link
packet_link g js m k n p u = ap (λ (q : Place). q.kind) (sym u.there) ∙ go (trip_of g js.tasks m) u.claimed
  where
    go : (o : Option Trip) → In u.claim (claims_on g.network m o) → u.claim.place.kind ≡ kind.Link
    go None i = absurd (in_nil u.claim i)
    go (Some t) (i, at) =
        let l = claim_link g.network t.route (departure t.source m) (packet_period t.source m) m.width i u.claim at in
        ap (λ (q : Place). q.kind) l.2

-- so a run and a packet never have one place
pub kinds_apart : (g h : Setting) (js ks : Jobs) (t : Task) (m : Message) (k j n a : ℕ) (p : Place) → Uses g js (job.Task t) k p n → Uses h ks (job.Message m) j p a → ⊥
kinds_apart g h js ks t m k j n a p u v =
    let clash : kind.Core ≡ kind.Link = sym (task_core g js t k n p u) ∙ packet_link h ks m j a p v in
    cc

-- where a job claims the same in two plans, its runs have the same places
pub uses_as : (g : Setting) (js ks : Jobs) (x : Job) → claims g js.tasks x ≡ claims g ks.tasks x → (k n : ℕ) (p : Place) → Uses g js x k p n → Uses g ks x k p n
uses_as g js ks x same k n p u =
    record { claim = u.claim; claimed = subst (In u.claim) same u.claimed; there = u.there; turn = u.turn; run = u.run; holds = u.holds }
