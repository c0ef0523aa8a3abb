-- Offers of tasks to a clean plan: taken exactly where the plan stays safe.
use Rattle.std.proofs.Common.{◌≡◌, ℕ, ◌⊎◌, map, Some, None, Ok, Err, Option, Result, sym, refl, ap, ◌∙◌, subst, inl, inr, ⊎_elim}
use Rattle.std.specs.Option.{option_map}
use Rattle.records.specs.Named.{add}
use Rattle.records.specs.declared.record.Task.{Task}
use Rattle.records.specs.declared.record.Message.{Message}
use Rattle.jobs.specs.declared.fault.TaskFault.{TaskFault}
use Rattle.jobs.specs.declared.fault.TaskFault.TheVariants as task_fault
use Rattle.jobs.specs.declared.job.Job.{Job}
use Rattle.jobs.specs.declared.job.Job.TheVariants as job
use Rattle.jobs.specs.declared.meeting.Meeting.{Meeting}
use Rattle.jobs.specs.declared.place.Place.{Place}
use Rattle.jobs.specs.Claims.{claims_on}
use Rattle.jobs.specs.Jobs.{In, IsHeld, Jobs, Setting, task_name, task_named, with_task}
use Rattle.jobs.specs.Meetings.{first_met, held_task}
use Rattle.jobs.specs.Rules.{offer_task, offered, refusal_past, run_refusal, task_refusal}
use Rattle.jobs.specs.Takes.{task_takes}
use Rattle.jobs.specs.Trips.{trip_of}
use Rattle.promise.specs.Clean.{Clean, MessageMade, OnTime, Safe, TaskMade, Uses}
use Rattle.promise.specs.Offers.{FirstMeeting, Meets, TaskOffer, TaskPassed, TaskWhy}
use Rattle.promise.proofs.Lists.{add_new, add_old, distinct_add_apart, in_add, named_add_other, named_in}
use Rattle.promise.proofs.Offered.{first_meets, none_meets}
use Rattle.promise.proofs.Passing.{task_admitted}
use Rattle.promise.proofs.Takes.{Whole, kinds_apart, same_run, task_whole, trip_is, trip_parts, uses_as}

module _ (g : Setting) (js : Jobs) (t : Task) (clean : Clean g js) (p : TaskPassed g js t) where
  own_made : TaskMade g t
  own_made = record { named = p.named; on_core = p.on_core; short = p.short; some = p.some; fits = p.fits }

  own_whole : Whole g js (job.Task t)
  own_whole = task_whole g js t own_made

  tasks_whole : (u : Task) → In u js.tasks → Whole g js (job.Task u)
  tasks_whole u i = task_whole g js u (clean.made.tasks u i)

  -- where no meeting is found, no run of a held task ever has the core with one of the offered task
  apart : first_met (task_takes t) (map held_task js.tasks) ≡ None → (u : Task) → In u js.tasks → (n : ℕ) (c : Place) → Meets g js (job.Task t) (job.Task u) n c → ⊥
  apart none u k n c = none_meets g js (job.Task t) own_whole task_name (λ u. job.Task u) js.tasks tasks_whole none u k n c

  first_is : (m : Meeting) → first_met (task_takes t) (map held_task js.tasks) ≡ Some m → FirstMeeting task_name js.tasks (λ u. Meets g js (job.Task t) (job.Task u)) m
  first_is m e = first_meets g js (job.Task t) own_whole task_name (λ u. job.Task u) js.tasks tasks_whole m e

  -- ---- the plan with the task

  -- other names find the same task as before
  lookup : (n : ℕ) (s : Task) → task_named js.tasks n ≡ Some s → task_named (add task_name t js.tasks) n ≡ Some s
  lookup n s e =
      let k = named_in task_name n s js.tasks e in
      named_add_other task_name n t js.tasks (λ same. p.fresh s k.0 (k.1 ∙ sym same)) ∙ e

  -- so a held message goes on the same trip
  trip_keeps : (m : Message) (h : MessageMade g js.tasks m) → trip_of g (add task_name t js.tasks) m ≡ Some h.trip
  trip_keeps m h =
      let parts = trip_parts g.network (task_named js.tasks m.source) (task_named js.tasks m.destination) h.trip h.going in
      trip_is g.network (task_named (add task_name t js.tasks) m.source) (task_named (add task_name t js.tasks) m.destination) h.trip
      (record { source = lookup m.source h.trip.source parts.source; destination = lookup m.destination h.trip.destination parts.destination; along = parts.along })

  same_trip : (m : Message) (h : MessageMade g js.tasks m) → trip_of g (add task_name t js.tasks) m ≡ trip_of g js.tasks m
  same_trip m h = trip_keeps m h ∙ sym h.going

  -- and has the same places at the same instants
  packet_back : (m : Message) → In m js.messages → (k n : ℕ) (c : Place) → Uses g (with_task js t) (job.Message m) k c n → Uses g js (job.Message m) k c n
  packet_back m i k n c = uses_as g (with_task js t) js (job.Message m) (ap (claims_on g.network m) (same_trip m (clean.made.messages m i))) k n c

  run_back : (u : Task) (k n : ℕ) (c : Place) → Uses g (with_task js t) (job.Task u) k c n → Uses g js (job.Task u) k c n
  run_back u = uses_as g (with_task js t) js (job.Task u) refl

  message_keeps : (m : Message) → In m js.messages → MessageMade g (add task_name t js.tasks) m
  message_keeps m i =
      let h = clean.made.messages m i in
      record { named = h.named; trip = h.trip; going = trip_keeps m h; kind = h.kind; delay = h.delay; some = h.some; fits = h.fits }

  on_time_keeps : (m : Message) → In m js.messages → OnTime g (add task_name t js.tasks) m
  on_time_keeps m i =
      let h = clean.safe.on_time m i in
      record { trip = h.trip; going = same_trip m (clean.made.messages m i) ∙ h.going; in_time = h.in_time }

  runs : first_met (task_takes t) (map held_task js.tasks) ≡ None → (a b : Task) → (a ≡ t) ⊎ In a js.tasks → (b ≡ t) ⊎ In b js.tasks → (k l n : ℕ) (c : Place)
      → Uses g js (job.Task a) k c n → Uses g js (job.Task b) l c n → (job.Task a ≡ job.Task b) × (k ≡ l)
  runs none a b (inl e) (inl f) k l n c x y = (
    ap (λ u. job.Task u) (e ∙ sym f),
    same_run g js (job.Task t) own_whole k l n c (subst (λ u. Uses g js (job.Task u) k c n) e x) (subst (λ u. Uses g js (job.Task u) l c n) f y),
  )
  runs none a b (inl e) (inr j) k l n c x y = absurd (apart none b j n c (k, l, subst (λ u. Uses g js (job.Task u) k c n) e x, y))
  runs none a b (inr i) (inl f) k l n c x y = absurd (apart none a i n c (l, k, subst (λ u. Uses g js (job.Task u) l c n) f y, x))
  runs none a b (inr i) (inr j) k l n c x y = clean.safe.apart (job.Task a) (job.Task b) i j k l c n x y

  -- with a task that meets none, the plan is safe
  safe : first_met (task_takes t) (map held_task js.tasks) ≡ None → Safe g (with_task js t)
  safe none = record { apart = pairs; on_time = on_time_keeps }
    where
      pairs : (x y : Job) → IsHeld (with_task js t) x → IsHeld (with_task js t) y → (k l : ℕ) (c : Place) (n : ℕ)
          → Uses g (with_task js t) x k c n → Uses g (with_task js t) y l c n → (x ≡ y) × (k ≡ l)
      pairs (job.Task a) (job.Task b) i j k l c n u v =
          runs none a b (in_add task_name t a js.tasks i) (in_add task_name t b js.tasks j) k l n c (run_back a k n c u) (run_back b l n c v)
      pairs (job.Task a) (job.Message b) i j k l c n u v = absurd (kinds_apart g g (with_task js t) (with_task js t) a b k l n n c u v)
      pairs (job.Message a) (job.Task b) i j k l c n u v = absurd (kinds_apart g g (with_task js t) (with_task js t) b a l k n n c v u)
      pairs (job.Message a) (job.Message b) i j k l c n u v =
          clean.safe.apart (job.Message a) (job.Message b) i j k l c n (packet_back a i k n c u) (packet_back b j l n c v)

  -- and clean
  keeps : first_met (task_takes t) (map held_task js.tasks) ≡ None → Clean g (with_task js t)
  keeps none =
      record {
        made = record {
          tasks = λ u i. ⊎_elim (λ e. subst (TaskMade g) (sym e) own_made) (λ k. clean.made.tasks u k) (in_add task_name t u js.tasks i);
          messages = message_keeps;
          task_names = distinct_add_apart task_name t js.tasks clean.made.task_names p.fresh;
          message_names = clean.made.message_names;
        };
        safe = safe none;
      }

  -- a meeting would make it unsafe
  breaks : (m : Meeting) → FirstMeeting task_name js.tasks (λ u. Meets g js (job.Task t) (job.Task u)) m → Safe g (with_task js t) → ⊥
  breaks m f broken =
      let x = f.meets in
      let there = λ (u : Task) (k : ℕ) (h : Uses g js (job.Task u) k m.place m.instant). uses_as g js (with_task js t) (job.Task u) refl k m.instant m.place h in
      let same = broken.apart (job.Task t) (job.Task f.job) (add_new task_name t js.tasks) (add_old task_name t f.job js.tasks f.is_held) x.0 x.1 m.place m.instant
      (there t x.0 x.2) (there f.job x.1 x.3) in
      p.fresh f.job f.is_held (one_name f.job same.0)
    where
      one_name : (u : Task) → job.Task t ≡ job.Task u → u.name ≡ t.name
      one_name u e = let same : t ≡ u = cc in ap task_name (sym same)

  pub refusal_is : task_refusal g.network.nodes js t ≡ run_refusal js t
  refusal_is = ap (λ r. refusal_past r (λ _. run_refusal js t)) (task_admitted g js t p)

  -- past the checks, a task is refused exactly where the plan with it would not be safe
  pub task_offer : TaskOffer g js t (offer_task g js t).0
  task_offer = subst (λ o. TaskOffer g js t (offered o js (with_task js t)).0) (sym refusal_is) (go (first_met (task_takes t) (map held_task js.tasks)) refl)
    where
      go : (o : Option Meeting) → first_met (task_takes t) (map held_task js.tasks) ≡ o → TaskOffer g js t (offered (option_map task_fault.Meets o) js (with_task js t)).0
      go None is =
          record {
            exact = (λ x. absurd (no_err x.0 x.1), λ broken. absurd (broken (safe is)));
            taken = λ _. keeps is;
            why = λ e x. absurd (no_err e x);
          }
        where
          no_err : (e : TaskFault) → ◌≡◌ {A = Result (Unit {0}) TaskFault} (Ok tt) (Err e) → ⊥
          no_err e x = cc
      go (Some m) is =
          let f = first_is m is in
          record {
            exact = (λ _. breaks m f, λ _. (task_fault.Meets m, refl));
            taken = λ x. cc;
            why = λ e x. let same : task_fault.Meets m ≡ e = cc in subst (TaskWhy g js t) same f;
          }
