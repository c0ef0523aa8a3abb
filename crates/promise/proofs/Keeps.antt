-- Offers and placings keep a clean plan clean.
use Rattle.std.proofs.Common.{◌≡◌, None, Ok, Option, ap}
use Rattle.fabric.specs.Network.{IsFabric}
use Rattle.records.specs.declared.record.Task.{Task}
use Rattle.records.specs.declared.record.Message.{Message}
use Rattle.jobs.specs.declared.open.OpenTask.{OpenTask}
use Rattle.jobs.specs.declared.open.OpenMessage.{OpenMessage}
use Rattle.jobs.specs.Jobs.{Jobs, Setting, with_message, with_task}
use Rattle.jobs.specs.Placings.{place_message, place_task}
use Rattle.jobs.specs.Rules.{message_refusal, offer_message, offer_task, offered, task_refusal}
use Rattle.promise.specs.Clean.{Clean}
use Rattle.promise.proofs.Kept.{message_free, message_offer_kept, message_place_kept, task_free, task_offer_kept, task_place_kept}
use Rattle.promise.proofs.Messages.{message_offer}
use Rattle.promise.proofs.Tasks.{task_offer}

ok_of : {E : Type 0} (o : Option E) (js after : Jobs) → o ≡ None → (offered o js after).0 ≡ Ok tt
ok_of o js after e = ap (λ x. (offered x js after).0) e

-- a task that no check refuses leaves the plan clean
pub task_taken : (g : Setting) (js : Jobs) (t : Task) → Clean g js → task_refusal g.network.nodes js t ≡ None → Clean g (with_task js t)
task_taken g js t clean none = (task_offer g js t clean (task_free g js t none)).taken (ok_of (task_refusal g.network.nodes js t) js (with_task js t) none)

pub task_offer_keeps : (g : Setting) (js : Jobs) (t : Task) → Clean g js → Clean g (offer_task g js t).1
task_offer_keeps g = task_offer_kept g (Clean g) (task_taken g)

pub task_place_keeps : (g : Setting) (js : Jobs) (t : OpenTask) → Clean g js → Clean g (place_task g js t).1
task_place_keeps g = task_place_kept g (Clean g) (task_taken g)

module _ (g : Setting) (fab : IsFabric g.network) where
  -- a message that no check refuses leaves the plan clean
  pub message_taken : (js : Jobs) (m : Message) → Clean g js → message_refusal g js m ≡ None → Clean g (with_message js m)
  message_taken js m clean none =
      let p = message_free g js m none in
      (message_offer g fab js m p.0 clean p.1).taken (ok_of (message_refusal g js m) js (with_message js m) none)

  pub message_offer_keeps : (js : Jobs) (m : Message) → Clean g js → Clean g (offer_message g js m).1
  message_offer_keeps = message_offer_kept g (Clean g) message_taken

  pub message_place_keeps : (js : Jobs) (m : OpenMessage) → Clean g js → Clean g (place_message g js m).1
  message_place_keeps = message_place_kept g (Clean g) message_taken
