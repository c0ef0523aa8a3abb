-- What is held after a call, by its answer.
use Rattle.std.proofs.Common.{ℕ, Bool, true, false, cond, List, is_some, Some, None, Ok, Err, Option, Result, sym, refl, subst, ⊎_elim}
use Rattle.records.specs.Named.{add, index_of, without}
use Rattle.records.specs.declared.record.Task.{Task}
use Rattle.records.specs.declared.record.Message.{Message}
use Rattle.jobs.specs.declared.fault.DropFault.{DropFault}
use Rattle.jobs.specs.declared.fault.DropFault.TheVariants.{InUse, Unknown}
use Rattle.jobs.specs.declared.fault.TaskFault.{TaskFault}
use Rattle.jobs.specs.declared.fault.MessageFault.{MessageFault}
use Rattle.jobs.specs.declared.open.OpenTask.{OpenTask}
use Rattle.jobs.specs.declared.open.OpenMessage.{OpenMessage}
use Rattle.jobs.specs.Checks.{admitted_message, admitted_task}
use Rattle.jobs.specs.Drops.{drop_message, drop_task, in_use}
use Rattle.jobs.specs.Jobs.{In, Jobs, Setting, message_name, task_name, with_message, with_task, without_message, without_task}
use Rattle.jobs.specs.Open.{message_at, task_at}
use Rattle.jobs.specs.Placings.{first_delay, first_phase, place_message, place_task, placed}
use Rattle.jobs.specs.Rules.{message_refusal, offer_message, offer_task, offered, task_refusal}
use Rattle.promise.specs.Clean.{Distinct}
use Rattle.promise.proofs.Lists.{add_new, add_old, in_add, in_without, without_old}
use Rattle.plan.specs.After.{Leaves, Less, MessageLess, MessageMore, More, TaskLess, TaskMore}

-- a list with one member more has that one and those before
more : {X : Type 0} (name : X → ℕ) (x : X) (xs : List X) → More x xs (add name x xs)
more name x xs y = (in_add name x y xs, ⊎_elim (λ e. subst (λ z. In z (add name x xs)) (sym e) (add_new name x xs)) (λ i. add_old name x y xs i))

-- a list without a name has those of other names
less : {X : Type 0} (name : X → ℕ) (n : ℕ) (xs : List X) → Distinct name xs → Less name n xs (without name n xs)
less name n xs d y = (in_without name n y xs d, λ p. without_old name n y xs p.0 p.1)

task_more : (js : Jobs) (t : Task) → TaskMore js t (with_task js t)
task_more js t = (more task_name t js.tasks, refl)

message_more : (js : Jobs) (m : Message) → MessageMore js m (with_message js m)
message_more js m = (more message_name m js.messages, refl)

-- a placing leaves the job with the value that it answers
place_left : {A E : Type 0} (js : Jobs) (Does : ℕ → Jobs → Type 0) (held : ℕ → Jobs) → ((v : ℕ) → Does v (held v)) → (r : Result A E) (o : Option ℕ)
    → Leaves js Does (placed js held r o).0 (placed js held r o).1
place_left js Does held does (Err e) o = refl
place_left js Does held does (Ok x) None = refl
place_left js Does held does (Ok x) (Some v) = does v

module _ (g : Setting) (js : Jobs) where
  pub task_left : (t : Task) → Leaves js (λ u. TaskMore js t) (offer_task g js t).0 (offer_task g js t).1
  task_left t = go (task_refusal g.network.nodes js t)
    where
      go : (o : Option TaskFault) → Leaves js (λ u. TaskMore js t) (offered o js (with_task js t)).0 (offered o js (with_task js t)).1
      go None = task_more js t
      go (Some f) = refl

  pub message_left : (m : Message) → Leaves js (λ u. MessageMore js m) (offer_message g js m).0 (offer_message g js m).1
  message_left m = go (message_refusal g js m)
    where
      go : (o : Option MessageFault) → Leaves js (λ u. MessageMore js m) (offered o js (with_message js m)).0 (offered o js (with_message js m)).1
      go None = message_more js m
      go (Some f) = refl

  pub task_place_left : (t : OpenTask) → Leaves js (λ v. TaskMore js (task_at t v)) (place_task g js t).0 (place_task g js t).1
  task_place_left t =
      place_left js (λ v. TaskMore js (task_at t v)) (λ v. with_task js (task_at t v)) (λ v. task_more js (task_at t v))
      (admitted_task g.network.nodes js (task_at t 0)) (first_phase g js t)

  pub message_place_left : (m : OpenMessage) → Leaves js (λ v. MessageMore js (message_at m v)) (place_message g js m).0 (place_message g js m).1
  message_place_left m =
      place_left js (λ v. MessageMore js (message_at m v)) (λ v. with_message js (message_at m v)) (λ v. message_more js (message_at m v))
      (admitted_message g js (message_at m 0)) (first_delay g js m)

abbrev Dropping : Type 0
Dropping = Result (Unit {0}) DropFault × Jobs

module _ (js : Jobs) (n : ℕ) where
  pub task_drop_left : Distinct task_name js.tasks → Leaves js (λ u. TaskLess js n) (drop_task js n).0 (drop_task js n).1
  task_drop_left apart = go (is_some (index_of task_name n js.tasks)) (in_use n js.messages)
    where
      go : (b u : Bool) → Leaves js (λ u. TaskLess js n) (cond {A = Dropping} b (cond u (Err InUse, js) (Ok tt, without_task js n)) (Err Unknown, js)).0
          (cond {A = Dropping} b (cond u (Err InUse, js) (Ok tt, without_task js n)) (Err Unknown, js)).1
      go true true = refl
      go true false = (less task_name n js.tasks apart, refl)
      go false u = refl

  pub message_drop_left : Distinct message_name js.messages → Leaves js (λ u. MessageLess js n) (drop_message js n).0 (drop_message js n).1
  message_drop_left apart = go (is_some (index_of message_name n js.messages))
    where
      go : (b : Bool) → Leaves js (λ u. MessageLess js n) (cond {A = Dropping} b (Ok tt, without_message js n) (Err Unknown, js)).0
          (cond {A = Dropping} b (Ok tt, without_message js n) (Err Unknown, js)).1
      go true = (less message_name n js.messages apart, refl)
      go false = refl
