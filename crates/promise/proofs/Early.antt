-- What offers and placings answer: an early fault exactly where a condition of the earlier checks holds.
use Rattle.std.proofs.Common.{◌≡◌, ℕ, ◌↔◌, Some, None, Ok, Err, Option, Result, sym, refl, ap, ◌∙◌}
use Rattle.std.specs.Option.{ok_or}
use Rattle.fabric.specs.Network.{IsFabric}
use Rattle.records.specs.declared.record.Task.{Task}
use Rattle.records.specs.declared.record.Message.{Message}
use Rattle.jobs.specs.declared.fault.TaskFault.{TaskFault}
use Rattle.jobs.specs.declared.fault.TaskFault.TheVariants as task_fault
use Rattle.jobs.specs.declared.fault.MessageFault.{MessageFault}
use Rattle.jobs.specs.declared.fault.MessageFault.TheVariants as message_fault
use Rattle.jobs.specs.declared.fault.PlacingFault.TheVariants as placing
use Rattle.jobs.specs.declared.open.OpenTask.{OpenTask}
use Rattle.jobs.specs.declared.open.OpenMessage.{OpenMessage}
use Rattle.jobs.specs.Checks.{admitted_message, admitted_task}
use Rattle.jobs.specs.Jobs.{Jobs, Setting, with_message, with_task}
use Rattle.jobs.specs.Open.{message_at, task_at}
use Rattle.jobs.specs.Placings.{first_delay, first_phase, place_message, place_task, placed}
use Rattle.jobs.specs.Rules.{offer_message, offer_task, offered, packet_refusal, refusal_past, run_refusal}
use Rattle.jobs.specs.Trips.{Trip}
use Rattle.promise.specs.Clean.{Clean}
use Rattle.promise.specs.Offers.{EarlyMessage, EarlyTask, MessageAnswer, MessagePassed, MessagePlacing, MessageWhy, TaskAnswer, TaskPassed, TaskPlacing, TaskWhy}
use Rattle.promise.proofs.Kept.{placed_past}
use Rattle.promise.proofs.Messages.{message_offer}
use Rattle.promise.proofs.Passing.{message_admitted, message_early, message_passes, task_admitted, task_early, task_passes}
use Rattle.promise.proofs.Smallest.{message_smallest, task_smallest}
use Rattle.promise.proofs.Tasks.{task_offer}
use Rattle.promise.proofs.Which.{message_first, task_first}

-- a reason past the checks is none of the early faults
task_late : (g : Setting) (js : Jobs) (t : Task) (e : TaskFault) → TaskWhy g js t e → EarlyTask e → ⊥
task_late g js t task_fault.Name w x = w
task_late g js t task_fault.Core w x = w
task_late g js t task_fault.Times w x = w
task_late g js t task_fault.Full w x = w
task_late g js t (task_fault.Meets m) w x = x

message_late : (g : Setting) (js : Jobs) (m : Message) (t : Trip) (e : MessageFault) → MessageWhy g js m t e → EarlyMessage e → ⊥
message_late g js m t message_fault.Name w x = w
message_late g js m t message_fault.Ends w x = w
message_late g js m t message_fault.Times w x = w
message_late g js m t message_fault.NoRoute w x = w
message_late g js m t message_fault.Full w x = w
message_late g js m t (message_fault.Late v) w x = x
message_late g js m t (message_fault.Meets y) w x = x

-- an early fault is answered exactly where the checks before lateness and meetings answer it
answered_early : {A B : Type 0} {Fails : Type 0} → (A ↔ Fails) → (A → B) → (B → A) → B ↔ Fails
answered_early told ahead back = (λ b. told.0 (back b), λ k. ahead (told.1 k))

-- ---- offers

pub task_answer : (g : Setting) (js : Jobs) (t : Task) → Clean g js → TaskAnswer g js t (offer_task g js t).0
task_answer g js t clean =
    record {
      first = λ e k. answered_early (task_first g js t e) (λ is. ap (λ r. (offered (refusal_past r (λ _. run_refusal js t)) js (with_task js t)).0) is) (back e k);
      early = (λ x p. task_late g js t x.0 ((task_offer g js t clean p).why x.0 x.1) x.2, go (admitted_task g.network.nodes js t) refl);
      past = task_offer g js t clean;
    }
  where
    back : (e : TaskFault) → EarlyTask e → (offer_task g js t).0 ≡ Err e → admitted_task g.network.nodes js t ≡ Err e
    back e k is = from (admitted_task g.network.nodes js t) refl
      where
        from : (r : Result (Unit {0}) TaskFault) → admitted_task g.network.nodes js t ≡ r → admitted_task g.network.nodes js t ≡ Err e
        from (Ok x) at = absurd (task_late g js t e ((task_offer g js t clean (task_passes g js t at)).why e is) k)
        from (Err f) at = let same = sym (ap (λ r. (offered (refusal_past r (λ _. run_refusal js t)) js (with_task js t)).0) at) ∙ is in cc

    go : (r : Result (Unit {0}) TaskFault) → admitted_task g.network.nodes js t ≡ r → (TaskPassed g js t → ⊥) → (e : TaskFault) × ((offer_task g js t).0 ≡ Err e) × EarlyTask e
    go (Ok x) is broken = absurd (broken (task_passes g js t is))
    go (Err e) is broken = (e, ap (λ r. (offered (refusal_past r (λ _. run_refusal js t)) js (with_task js t)).0) is, task_early g js t e is)

pub message_answer : (g : Setting) → IsFabric g.network → (js : Jobs) (m : Message) → Clean g js → MessageAnswer g js m (offer_message g js m).0
message_answer g fab js m clean =
    record {
      first = λ e k. answered_early (message_first g js m e) (λ is. ap (λ r. (offered (refusal_past r (packet_refusal g js m)) js (with_message js m)).0) is) (back e k);
      early = (λ x t p. message_late g js m t x.0 ((message_offer g fab js m t clean p).why x.0 x.1) x.2, go (admitted_message g js m) refl);
      past = λ t. message_offer g fab js m t clean;
    }
  where
    back : (e : MessageFault) → EarlyMessage e → (offer_message g js m).0 ≡ Err e → admitted_message g js m ≡ Err e
    back e k is = from (admitted_message g js m) refl
      where
        from : (r : Result Trip MessageFault) → admitted_message g js m ≡ r → admitted_message g js m ≡ Err e
        from (Ok x) at = absurd (message_late g js m x e ((message_offer g fab js m x clean (message_passes g js m x at)).why e is) k)
        from (Err f) at = let same = sym (ap (λ r. (offered (refusal_past r (packet_refusal g js m)) js (with_message js m)).0) at) ∙ is in cc

    go : (r : Result Trip MessageFault) → admitted_message g js m ≡ r → ((t : Trip) → MessagePassed g js m t → ⊥) → (e : MessageFault) × ((offer_message g js m).0 ≡ Err e) × EarlyMessage e
    go (Ok t) is broken = absurd (broken t (message_passes g js m t is))
    go (Err e) is broken = (e, ap (λ r. (offered (refusal_past r (packet_refusal g js m)) js (with_message js m)).0) is, message_early g js m e is)

-- ---- placings

-- a value, or that there is none, is no earlier fault
not_early : {E : Type 0} (o : Option ℕ) (e : E) → ok_or o placing.NoFit ≡ Err (placing.Offer e) → ⊥
not_early None e is = cc
not_early (Some v) e is = cc

pub task_placing : (g : Setting) (js : Jobs) (t : OpenTask) → TaskPlacing g js t (place_task g js t).0
task_placing g js t =
    record {
      first = λ e k. answered_early (task_first g js (task_at t 0) e) (λ is. ap (λ r. (placed js (λ v. with_task js (task_at t v)) r (first_phase g js t)).0) is) (back e k);
      early = (
        λ x p. not_early (first_phase g js t) x.0 (sym (placed_past js (λ v. with_task js (task_at t v)) (admitted_task g.network.nodes js (task_at t 0)) tt (first_phase g js t) (task_admitted g js (task_at t 0) p)) ∙ x.1),
        go (admitted_task g.network.nodes js (task_at t 0)) refl,
      );
      past = task_smallest g js t;
    }
  where
    back : (e : TaskFault) → EarlyTask e → (place_task g js t).0 ≡ Err (placing.Offer e) → admitted_task g.network.nodes js (task_at t 0) ≡ Err e
    back e k is = from (admitted_task g.network.nodes js (task_at t 0)) refl
      where
        from : (r : Result (Unit {0}) TaskFault) → admitted_task g.network.nodes js (task_at t 0) ≡ r → admitted_task g.network.nodes js (task_at t 0) ≡ Err e
        from (Ok x) at = absurd (not_early (first_phase g js t) e (sym (placed_past js (λ v. with_task js (task_at t v)) (admitted_task g.network.nodes js (task_at t 0)) x (first_phase g js t) at) ∙ is))
        from (Err f) at = let same = sym (ap (λ r. (placed js (λ v. with_task js (task_at t v)) r (first_phase g js t)).0) at) ∙ is in cc

    go : (r : Result (Unit {0}) TaskFault) → admitted_task g.network.nodes js (task_at t 0) ≡ r → (TaskPassed g js (task_at t 0) → ⊥)
        → (e : TaskFault) × ((place_task g js t).0 ≡ Err (placing.Offer e)) × EarlyTask e
    go (Ok x) is broken = absurd (broken (task_passes g js (task_at t 0) is))
    go (Err e) is broken = (e, ap (λ r. (placed js (λ v. with_task js (task_at t v)) r (first_phase g js t)).0) is, task_early g js (task_at t 0) e is)

pub message_placing : (g : Setting) (js : Jobs) (m : OpenMessage) → MessagePlacing g js m (place_message g js m).0
message_placing g js m =
    record {
      first = λ e k. answered_early (message_first g js (message_at m 0) e) (λ is. ap (λ r. (placed js (λ v. with_message js (message_at m v)) r (first_delay g js m)).0) is) (back e k);
      early = (
        λ x t p. not_early (first_delay g js m) x.0 (sym (placed_past js (λ v. with_message js (message_at m v)) (admitted_message g js (message_at m 0)) t (first_delay g js m) (message_admitted g js (message_at m 0) t p)) ∙ x.1),
        go (admitted_message g js (message_at m 0)) refl,
      );
      past = message_smallest g js m;
    }
  where
    back : (e : MessageFault) → EarlyMessage e → (place_message g js m).0 ≡ Err (placing.Offer e) → admitted_message g js (message_at m 0) ≡ Err e
    back e k is = from (admitted_message g js (message_at m 0)) refl
      where
        from : (r : Result Trip MessageFault) → admitted_message g js (message_at m 0) ≡ r → admitted_message g js (message_at m 0) ≡ Err e
        from (Ok x) at = absurd (not_early (first_delay g js m) e (sym (placed_past js (λ v. with_message js (message_at m v)) (admitted_message g js (message_at m 0)) x (first_delay g js m) at) ∙ is))
        from (Err f) at = let same = sym (ap (λ r. (placed js (λ v. with_message js (message_at m v)) r (first_delay g js m)).0) at) ∙ is in cc

    go : (r : Result Trip MessageFault) → admitted_message g js (message_at m 0) ≡ r → ((t : Trip) → MessagePassed g js (message_at m 0) t → ⊥)
        → (e : MessageFault) × ((place_message g js m).0 ≡ Err (placing.Offer e)) × EarlyMessage e
    go (Ok t) is broken = absurd (broken t (message_passes g js (message_at m 0) t is))
    go (Err e) is broken = (e, ap (λ r. (placed js (λ v. with_message js (message_at m v)) r (first_delay g js m)).0) is, message_early g js (message_at m 0) e is)
