-- Questions on a clean plan: who has a place at an instant, and the slack of a message.
use Rattle.std.proofs.Common.{◌≡◌, ℕ, ◌+◌, ◌*◌, ◌%◌, ◌≤◌, Bool, true, false, cond, leb, ◌↔◌, List, map, ℤ, pos, ◌-ℤ◌, ◌≤ℤ◌, Some, None, Ok, Err, Option, Result, sym, refl, ap, ◌∙◌, subst, ⊎_elim, arith}
use Rattle.std.specs.Option.{ok_or, option_and_then}
use Rattle.std.proofs.lemmas.Int.{ints}
use Rattle.std.proofs.lemmas.Option.{same_Some}
use Rattle.std.proofs.lemmas.Bool.{cases_lt, le-leb, leb-true}
use Rattle.fabric.specs.Network.{IsFabric}
use Rattle.holds.specs.Gcd.{gcd}
use Rattle.holds.specs.Span.{RunHolds}
use Rattle.records.specs.Named.{named}
use Rattle.records.specs.declared.record.Task.{Task}
use Rattle.records.specs.declared.record.Message.{Message}
use Rattle.jobs.specs.declared.fault.DropFault.{DropFault}
use Rattle.jobs.specs.declared.fault.DropFault.TheVariants.{Unknown}
use Rattle.jobs.specs.declared.job.Job.{Job}
use Rattle.jobs.specs.declared.job.Job.TheVariants as job
use Rattle.jobs.specs.declared.place.Place.{Place}
use Rattle.jobs.specs.declared.place.PlaceKind.{PlaceKind}
use Rattle.jobs.specs.declared.place.PlaceKind.TheVariants as kind
use Rattle.jobs.specs.Claims.{claims}
use Rattle.jobs.specs.Holding.{HolderIs, Holding, holder, holder_among, jobs_on, no_place, place_count}
use Rattle.jobs.specs.Jobs.{In, IsHeld, Jobs, Setting, job_name, message_name, task_name}
use Rattle.jobs.specs.Meetings.{HeldJob, held_message, held_task}
use Rattle.jobs.specs.Places.{same_place}
use Rattle.jobs.specs.Slacks.{HeldSlack, message_slack, slack, slack_among, slack_held}
use Rattle.jobs.specs.Takes.{take_of}
use Rattle.jobs.specs.Timing.{due, task_span}
use Rattle.jobs.specs.Trips.{Trip, message_flow}
use Rattle.jobs.proofs.Holders.{holder_is, messages_fit, tasks_fit}
use Rattle.jobs.proofs.Limits.{slack_formula}
use Rattle.jobs.proofs.PlaceLemmas.{same_place_refl, same_place_true}
use Rattle.jobs.proofs.Slacks.{held_slack}
use Rattle.promise.specs.Clean.{Clean, InTime, Uses}
use Rattle.promise.specs.Questions.{HolderAnswer, HolderFound, SlackAnswer}
use Rattle.promise.proofs.Lateness.{read_once}
use Rattle.promise.proofs.Lists.{apart_none, in_map, in_named, map_in, named_in}
use Rattle.promise.proofs.Takes.{Whole, held_whole, made_goes, packet_link, reads_between, take_uses, task_core, uses_take}

not_below : (v : ℤ) (t a : ℕ) → v ≡ (pos t -ℤ pos a) → a ≤ t → pos 0 ≤ℤ v
not_below v t a e le = grind (arith, ints)

-- ---- a told holder is the only one

-- Has x k: run k of the job x has the place; no two runs have
module _ (g : Setting) (js : Jobs) (p : Place) (n : ℕ) (hs : List HeldJob)
    (only : (x y : Job) → IsHeld js x → IsHeld js y → (k j : ℕ) → Uses g js x k p n → Uses g js y j p n → (x ≡ y) × (k ≡ j))
    (from : (a k : ℕ) → Holding hs p n a k → (x : Job) × IsHeld js x × (job_name x ≡ a) × Uses g js x k p n)
    (to : (x : Job) (k : ℕ) → IsHeld js x → Uses g js x k p n → Holding hs p n (job_name x) k) where
  -- the told run has the place, and a run that has it is the one that is told
  told_some : (o : Option (ℕ × ℕ)) → HolderIs hs p n o → (a k : ℕ) → (o ≡ Some (a, k)) ↔ ((x : Job) × IsHeld js x × (job_name x ≡ a) × Uses g js x k p n)
  told_some None h a k =
      (λ e. cc, λ x. absurd (h (job_name x.0) k (to x.0 k x.1 x.3)))
  told_some (Some t) h a k =
      (λ e. let same : t ≡ (a, k) = cc in from a k (subst (λ (u : ℕ × ℕ). Holding hs p n u.0 u.1) same h), λ x. back x (from t.0 t.1 h))
    where
      back : (x : Job) × IsHeld js x × (job_name x ≡ a) × Uses g js x k p n → (x : Job) × IsHeld js x × (job_name x ≡ t.0) × Uses g js x t.1 p n → Some t ≡ Some (a, k)
      back (x, i, e, u) (y, j, f, v) =
          let same = only x y i j k t.1 u v in
          let first : t.0 ≡ a = sym f ∙ ap job_name (sym same.0) ∙ e in
          ap (λ (b : ℕ). Some (b, t.1)) first ∙ ap (λ (b : ℕ). Some (a, b)) (sym same.1)

  -- none is told where no run has the place, and only there
  told_none : (o : Option (ℕ × ℕ)) → HolderIs hs p n o → (o ≡ None) ↔ ((x : Job) (k : ℕ) → IsHeld js x → Uses g js x k p n → ⊥)
  told_none None h = (λ _ x k i u. h (job_name x) k (to x k i u), λ _. refl)
  told_none (Some t) h =
      (λ e. cc, λ never. absurd (nobody never (from t.0 t.1 h)))
    where
      nobody : ((x : Job) (k : ℕ) → IsHeld js x → Uses g js x k p n → ⊥) → (x : Job) × IsHeld js x × (job_name x ≡ t.0) × Uses g js x t.1 p n → ⊥
      nobody never (x, i, e, u) = never x t.1 i u

  told_holder : (o : Option (ℕ × ℕ)) → HolderIs hs p n o → HolderFound g js p n o
  told_holder o h = record { some = told_some o h; none = told_none o h }

-- ---- the held jobs of one kind, by what they take and by their runs

module _ (g : Setting) (js : Jobs) (p : Place) (n : ℕ) {X : Type 0} (name : X → ℕ) (of : X → Job) (held : List X) (whole : (x : X) → In x held → Whole g js (of x)) where
  abbrev job_at : X → HeldJob
  job_at x = record { name = name x; takes = map take_of (claims g js.tasks (of x)) }

  -- a job that has the place by the rule's takes is a held one, whose run has it
  holding_uses : (a k : ℕ) → Holding (map job_at held) p n a k → (x : X) × In x held × (name x ≡ a) × Uses g js (of x) k p n
  holding_uses a k h = go (map_in job_at h.job held h.job_at)
    where
      go : (x : X) × In x held × (job_at x ≡ h.job) → (x : X) × In x held × (name x ≡ a) × Uses g js (of x) k p n
      go (x, i, is) =
          let inside : In h.take (map take_of (claims g js.tasks (of x))) = subst (λ (j : HeldJob). In h.take j.takes) (sym is) h.take_at in
          let u = take_uses g js (of x) (whole x i) h.take inside h.has.1.0 h.has.1.1 k n h.has.1.2 in (
            x,
            i,
            ap (λ (j : HeldJob). j.name) is ∙ h.named,
            subst (λ (q : Place). Uses g js (of x) k q n) (sym (same_place_true p h.take.place h.has.0)) u,
          )

  -- and a run of a held job that has it has it by one of the rule's takes
  uses_holding : (x : X) (k : ℕ) → In x held → Uses g js (of x) k p n → Holding (map job_at held) p n (name x) k
  uses_holding x k i u =
      let t = uses_take g js (of x) (whole x i) k n p u in
      record {
        job = job_at x;
        take = t.0;
        job_at = in_map job_at x held i;
        take_at = t.1;
        named = refl;
        has = (
          subst (λ (q : Place). same_place p q ≡ true) (sym t.2) (same_place_refl p),
          (t.3, t.5, subst (λ (j : ℕ). RunHolds t.3 j n) (sym t.6) t.7),
        );
      }

-- ---- places

module _ (g : Setting) (fab : IsFabric g.network) (js : Jobs) (clean : Clean g js) where
  -- who has the place among the jobs that take places of its kind has it among all
  held_on : (p : Place) (n : ℕ) (k : PlaceKind) → p.kind ≡ k → (o : Option (ℕ × ℕ)) → holder_among p n (jobs_on g js k) ≡ o → HolderFound g js p n o
  held_on p n kind.Core is o e =
      told_holder g js p n (map held_task js.tasks) (λ x y i j k l u v. clean.safe.apart x y i j k l p n u v) from to o
      (subst (HolderIs (map held_task js.tasks) p n) e (holder_is p n (map held_task js.tasks) (tasks_fit js.tasks)))
    where
      whole : (t : Task) → In t js.tasks → Whole g js (job.Task t)
      whole t i = held_whole g fab js clean (job.Task t) i

      from : (a k : ℕ) → Holding (map held_task js.tasks) p n a k → (x : Job) × IsHeld js x × (job_name x ≡ a) × Uses g js x k p n
      from a k h = let t = holding_uses g js p n task_name (λ t. job.Task t) js.tasks whole a k h in (job.Task t.0, t.1, t.2, t.3)

      to : (x : Job) (k : ℕ) → IsHeld js x → Uses g js x k p n → Holding (map held_task js.tasks) p n (job_name x) k
      to (job.Task t) k i u = uses_holding g js p n task_name (λ t. job.Task t) js.tasks whole t k i u
      to (job.Message m) k i u = let clash : kind.Core ≡ kind.Link = sym is ∙ packet_link g js m k n p u in absurd cc
  held_on p n kind.Link is o e =
      told_holder g js p n (map (held_message g js.tasks) js.messages) (λ x y i j k l u v. clean.safe.apart x y i j k l p n u v) from to o
      (subst (HolderIs (map (held_message g js.tasks) js.messages) p n) e (holder_is p n (map (held_message g js.tasks) js.messages) (messages_fit g js.tasks js.messages)))
    where
      whole : (m : Message) → In m js.messages → Whole g js (job.Message m)
      whole m i = held_whole g fab js clean (job.Message m) i

      from : (a k : ℕ) → Holding (map (held_message g js.tasks) js.messages) p n a k → (x : Job) × IsHeld js x × (job_name x ≡ a) × Uses g js x k p n
      from a k h = let m = holding_uses g js p n message_name (λ m. job.Message m) js.messages whole a k h in (job.Message m.0, m.1, m.2, m.3)

      to : (x : Job) (k : ℕ) → IsHeld js x → Uses g js x k p n → Holding (map (held_message g js.tasks) js.messages) p n (job_name x) k
      to (job.Task t) k i u = let clash : kind.Link ≡ kind.Core = sym is ∙ task_core g js t k n p u in absurd cc
      to (job.Message m) k i u = uses_holding g js p n message_name (λ m. job.Message m) js.messages whole m k i u

  -- the told holder of a place is the run that has it, and a number is refused exactly where it is no place's
  pub holder_answer : (p : Place) (n : ℕ) → HolderAnswer g js p n (holder g js p n)
  holder_answer p n = go (leb (place_count g.network p.kind) p.number) refl
    where
      go : (b : Bool) → leb (place_count g.network p.kind) p.number ≡ b → HolderAnswer g js p n (cond b (Err no_place) (Ok (holder_among p n (jobs_on g js p.kind))))
      go true is = leb-true (place_count g.network p.kind) p.number is
      go false is =
          (⊎_elim (λ l. l) (λ h. let clash : false ≡ true = sym is ∙ le-leb (place_count g.network p.kind) p.number h in absurd cc) (cases_lt p.number (place_count g.network p.kind)), held_on p n p.kind refl (holder_among p n (jobs_on g js p.kind)) refl)

  -- ---- slacks

  -- a held message has its tasks, its route and numbers within the limits, so its slack is there
  has_slack : (m : Message) → In m js.messages → (v : ℤ) × (slack_among g js.tasks m ≡ Some v)
  has_slack m i =
      let h = clean.made.messages m i in
      let t = h.trip in (
        pos (due m.kind t.source.period + t.destination.phase % gcd t.source.period t.destination.period) -ℤ pos (message_flow g.network t m).arrival,
        ap (option_and_then (λ t. message_slack g.network t m)) h.going ∙ slack_formula g.network fab t m (made_goes g js clean m h) (reads_between g js clean m t h.going),
      )

  -- a held message is on time, so no slack of it is below 0
  in_time : (n : ℕ) (v : ℤ) → HeldSlack g js n v → pos 0 ≤ℤ v
  in_time n v h =
      let held = (named_in message_name n h.message js.messages h.held).0 in
      let o = clean.safe.on_time h.message held in
      let same : o.trip ≡ h.trip = same_Some _ _ (sym o.going ∙ h.going) in
      let f = message_flow g.network h.trip h.message in
      let k = h.least.reached.0 in
      let read = h.least.reached.1 in
      let due = subst (λ (t : Trip). InTime g.network t h.message) same o.in_time k in
      let at : due.0 ≡ read.0 = read_once f (task_span h.trip.destination) k due.0 read.0 due.1 read.1 in
      not_below v read.0 (f.arrival + k * f.period) read.2 (subst (λ (n : ℕ). f.arrival + k * f.period ≤ n) at due.2)

  -- the told slack is the least over all packets, and each held message has one
  pub slack_told : (n : ℕ) → SlackAnswer g js n (slack g js n)
  slack_told n =
      record {
        value = λ v e. let h = held_slack g js n v (inside (slack_held g js n) v e) in (h, in_time n v h);
        refused = (
          λ x m i same. clash x.0 x.1 m i same,
          λ none. (Unknown, ap (λ (o : Option Message). ok_or (option_and_then (slack_among g js.tasks) o) Unknown) (apart_none message_name n js.messages none)),
        );
        unknown = only (slack_held g js n);
      }
    where
      only : (o : Option ℤ) (e : DropFault) → ok_or o Unknown ≡ Err e → e ≡ Unknown
      only None e is = cc
      only (Some v) e is = cc

      inside : (o : Option ℤ) (v : ℤ) → ok_or o Unknown ≡ Ok v → o ≡ Some v
      inside None v e = cc
      inside (Some w) v e = let same : w ≡ v = cc in ap Some same

      clash : (e : DropFault) → slack g js n ≡ Err e → (m : Message) → In m js.messages → m.name ≡ n → ⊥
      clash e is m i same =
          let s = has_slack m i in
          let found : named message_name n js.messages ≡ Some m = subst (λ (a : ℕ). named message_name a js.messages ≡ Some m) same (in_named message_name m js.messages clean.made.message_names i) in
          let told : slack g js n ≡ Ok s.0 = ap (λ (o : Option Message). ok_or (option_and_then (slack_among g js.tasks) o) Unknown) found ∙ ap (λ (o : Option ℤ). ok_or o Unknown) s.1 in
          let no : ◌≡◌ {A = Result ℤ DropFault} (Ok s.0) (Err e) = sym told ∙ is in
          absurd cc
