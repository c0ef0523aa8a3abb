-- A part of a clean plan is clean.
use Rattle.std.proofs.Common.{◌≡◌, ℕ, Option, refl, ap, ◌∙◌}
use Rattle.records.specs.declared.record.Task.{Task}
use Rattle.records.specs.declared.record.Message.{Message}
use Rattle.jobs.specs.declared.job.Job.{Job}
use Rattle.jobs.specs.declared.job.Job.TheVariants as job
use Rattle.jobs.specs.declared.place.Place.{Place}
use Rattle.jobs.specs.Claims.{claims, claims_on}
use Rattle.jobs.specs.Jobs.{In, IsHeld, Jobs, Setting, message_name, task_name, task_named}
use Rattle.jobs.specs.Trips.{trip_between, trip_of}
use Rattle.promise.specs.Clean.{Clean, Distinct, MessageMade, OnTime, Uses}
use Rattle.promise.proofs.Takes.{uses_as}

-- what the plan a holds the plan b holds too, with distinct names, and the messages of a have the same tasks in both
pub record Part (a b : Jobs) : Type 0 where
  pub tasks : (t : Task) → In t a.tasks → In t b.tasks
  pub messages : (m : Message) → In m a.messages → In m b.messages
  pub task_names : Distinct task_name a.tasks
  pub message_names : Distinct message_name a.messages
  pub sources : (m : Message) → In m a.messages → task_named a.tasks m.source ≡ task_named b.tasks m.source
  pub destinations : (m : Message) → In m a.messages → task_named a.tasks m.destination ≡ task_named b.tasks m.destination

module _ (g : Setting) (a b : Jobs) (part : Part a b) where
  -- a message goes on the same trip
  same_trip : (m : Message) → In m a.messages → trip_of g a.tasks m ≡ trip_of g b.tasks m
  same_trip m i =
      ap (λ (s : Option Task). trip_between g.network s (task_named a.tasks m.destination)) (part.sources m i)
      ∙ ap (trip_between g.network (task_named b.tasks m.source)) (part.destinations m i)

  -- so every job of a claims the same in both
  same_claims : (x : Job) → IsHeld a x → claims g a.tasks x ≡ claims g b.tasks x
  same_claims (job.Task t) i = refl
  same_claims (job.Message m) i = ap (claims_on g.network m) (same_trip m i)

  held_too : (x : Job) → IsHeld a x → IsHeld b x
  held_too (job.Task t) = part.tasks t
  held_too (job.Message m) = part.messages m

  message_keeps : (m : Message) → In m a.messages → MessageMade g b.tasks m → MessageMade g a.tasks m
  message_keeps m i h =
      record { named = h.named; trip = h.trip; going = same_trip m i ∙ h.going; kind = h.kind; delay = h.delay; some = h.some; fits = h.fits }

  on_time_keeps : (m : Message) → In m a.messages → OnTime g b.tasks m → OnTime g a.tasks m
  on_time_keeps m i h = record { trip = h.trip; going = same_trip m i ∙ h.going; in_time = h.in_time }

  there : (x : Job) → IsHeld a x → (k n : ℕ) (p : Place) → Uses g a x k p n → Uses g b x k p n
  there x i = uses_as g a b x (same_claims x i)

  pub clean_part : Clean g b → Clean g a
  clean_part clean =
      record {
        made = record {
          tasks = λ t i. clean.made.tasks t (part.tasks t i);
          messages = λ m i. message_keeps m i (clean.made.messages m (part.messages m i));
          task_names = part.task_names;
          message_names = part.message_names;
        };
        safe = record {
          apart = λ x y i j k l p n u v. clean.safe.apart x y (held_too x i) (held_too y j) k l p n (there x i k n p u) (there y j l n p v);
          on_time = λ m i. on_time_keeps m i (clean.safe.on_time m (part.messages m i));
        };
      }
