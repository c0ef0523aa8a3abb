-- Every call leaves the held names ascending and the held jobs within the room.
use Rattle.std.proofs.Common.{◌≡◌, ℕ, suc, ◌<◌, ◌≤◌, true, false, eqb, List, [], ◌∷◌, length, is_some, Some, None, Option, Result, refl, ap, ◌∙◌, arith}
use Rattle.std.proofs.lemmas.Bool.{cond_both}
use Rattle.records.specs.Named.{add, ascends, index_of, without}
use Rattle.records.specs.declared.record.Task.{Task}
use Rattle.records.specs.declared.record.Message.{Message}
use Rattle.records.proofs.Places.{ascends_add, ascends_without, length_add, index_named}
use Rattle.jobs.specs.declared.fault.DropFault.{DropFault}
use Rattle.jobs.specs.declared.open.OpenTask.{OpenTask}
use Rattle.jobs.specs.declared.open.OpenMessage.{OpenMessage}
use Rattle.jobs.specs.Drops.{drop_message, drop_task, in_use}
use Rattle.jobs.specs.Jobs.{In, Jobs, Setting, message_name, nothing, task_name, with_message, with_task, without_message, without_task}
use Rattle.jobs.specs.Placings.{place_message, place_task}
use Rattle.jobs.specs.Rules.{message_refusal, offer_message, offer_task, task_refusal}
use Rattle.promise.specs.Canonical.{Canonical}
use Rattle.promise.proofs.Kept.{message_free, task_free, message_offer_kept, message_place_kept, task_offer_kept, task_place_kept}
use Rattle.promise.proofs.Lists.{apart_none}

-- ---- lists with names that ascend

module _ {X : Type 0} (name : X → ℕ) where
  -- a name of no member stands nowhere
  apart_index : (n : ℕ) (xs : List X) → ((y : X) → In y xs → name y ≡ n → ⊥) → index_of name n xs ≡ None
  apart_index n xs apart = none (index_of name n xs) (index_named name n xs ∙ ap is_some (apart_none name n xs apart))
    where
      none : (o : Option ℕ) → is_some o ≡ false → o ≡ None
      none None e = refl
      none (Some i) e = cc

  -- names still ascend with a new one
  ascends_more : (x : X) (xs : List X) → 0 < name x → ((y : X) → In y xs → name y ≡ name x → ⊥) → ascends name 0 xs ≡ true → ascends name 0 (add name x xs) ≡ true
  ascends_more x xs some apart e = ascends_add name 0 x xs some (apart_index (name x) xs apart) e

  -- a list without a name is no longer
  length_less : (n : ℕ) (xs : List X) → length (without name n xs) ≤ length xs
  length_less n [] = omega arith
  length_less n (x ∷ xs) =
      cond_both (eqb (name x) n) xs (x ∷ without name n xs) (λ l. length l ≤ suc (length xs)) (λ _. omega arith) (λ _. omega (arith, length_less n xs))

-- ---- one job more, one job less

pub nothing_canonical : Canonical nothing
nothing_canonical = record { tasks = refl; messages = refl; few_tasks = omega arith; few_messages = omega arith }

-- a task that no check refuses has a name of its own, and there was room for it
pub task_canonical : (g : Setting) (js : Jobs) (t : Task) → Canonical js → task_refusal g.network.nodes js t ≡ None → Canonical (with_task js t)
task_canonical g js t here none =
    let p = task_free g js t none in
    record {
      tasks = ascends_more task_name t js.tasks p.named p.fresh here.tasks;
      messages = here.messages;
      few_tasks = omega (arith, length_add task_name t js.tasks, p.room);
      few_messages = here.few_messages;
    }

-- and so has a message
pub message_canonical : (g : Setting) (js : Jobs) (m : Message) → Canonical js → message_refusal g js m ≡ None → Canonical (with_message js m)
message_canonical g js m here none =
    let p = (message_free g js m none).1 in
    record {
      tasks = here.tasks;
      messages = ascends_more message_name m js.messages p.named p.fresh here.messages;
      few_tasks = here.few_tasks;
      few_messages = omega (arith, length_add message_name m js.messages, p.room);
    }

pub task_less_canonical : (js : Jobs) (n : ℕ) → Canonical js → Canonical (without_task js n)
task_less_canonical js n here =
    record {
      tasks = ascends_without task_name 0 n js.tasks here.tasks;
      messages = here.messages;
      few_tasks = omega (arith, length_less task_name n js.tasks, here.few_tasks);
      few_messages = here.few_messages;
    }

pub message_less_canonical : (js : Jobs) (n : ℕ) → Canonical js → Canonical (without_message js n)
message_less_canonical js n here =
    record {
      tasks = here.tasks;
      messages = ascends_without message_name 0 n js.messages here.messages;
      few_tasks = here.few_tasks;
      few_messages = omega (arith, length_less message_name n js.messages, here.few_messages);
    }

-- ---- the calls

-- a dropping takes one job out or changes nothing
pub drop_task_canonical : (js : Jobs) (n : ℕ) → Canonical js → Canonical (drop_task js n).1
drop_task_canonical js n here =
    cond_both (is_some (index_of task_name n js.tasks)) _ _ (λ (x : Result (Unit {0}) DropFault × Jobs). Canonical x.1)
    (λ _. cond_both (in_use n js.messages) _ _ (λ (x : Result (Unit {0}) DropFault × Jobs). Canonical x.1) (λ _. here) (λ _. task_less_canonical js n here))
    (λ _. here)

pub drop_message_canonical : (js : Jobs) (n : ℕ) → Canonical js → Canonical (drop_message js n).1
drop_message_canonical js n here =
    cond_both (is_some (index_of message_name n js.messages)) _ _ (λ (x : Result (Unit {0}) DropFault × Jobs). Canonical x.1)
    (λ _. message_less_canonical js n here)
    (λ _. here)

module _ (g : Setting) where
  pub task_offer_canonical : (js : Jobs) (t : Task) → Canonical js → Canonical (offer_task g js t).1
  task_offer_canonical = task_offer_kept g Canonical (task_canonical g)

  pub message_offer_canonical : (js : Jobs) (m : Message) → Canonical js → Canonical (offer_message g js m).1
  message_offer_canonical = message_offer_kept g Canonical (message_canonical g)

  pub task_place_canonical : (js : Jobs) (t : OpenTask) → Canonical js → Canonical (place_task g js t).1
  task_place_canonical = task_place_kept g Canonical (task_canonical g)

  pub message_place_canonical : (js : Jobs) (m : OpenMessage) → Canonical js → Canonical (place_message g js m).1
  message_place_canonical = message_place_kept g Canonical (message_canonical g)
