-- Droppings keep a clean plan clean.
use Rattle.std.proofs.Common.{◌≡◌, ℕ, false, eqb, List, [], ◌∷◌, is_some, Result, sym, refl, ap, ◌∙◌, ⊎_elim}
use Rattle.std.proofs.lemmas.Bool.{cond_both, eqb-false, or_parts}
use Rattle.records.specs.Named.{index_of}
use Rattle.records.specs.declared.record.Message.{Message}
use Rattle.jobs.specs.declared.fault.DropFault.{DropFault}
use Rattle.jobs.specs.Drops.{drop_message, drop_task, in_use, names_task}
use Rattle.jobs.specs.Jobs.{In, Jobs, Setting, message_name, task_name, without_message, without_task}
use Rattle.promise.specs.Clean.{Clean}
use Rattle.promise.proofs.Parts.{clean_part}
use Rattle.promise.proofs.Lists.{distinct_without, in_cases, in_nil, named_without_other, without_in}

-- ---- a message goes

-- what is left was held before, with the same tasks
pub message_dropped : (g : Setting) (js : Jobs) (n : ℕ) → Clean g js → Clean g (without_message js n)
message_dropped g js n clean =
    clean_part g (without_message js n) js
    (record {
      tasks = λ t i. i;
      messages = λ m i. without_in message_name n m js.messages i;
      task_names = clean.made.task_names;
      message_names = distinct_without message_name n js.messages clean.made.message_names;
      sources = λ m i. refl;
      destinations = λ m i. refl;
    })
    clean

-- ---- a task goes

-- a task that is not in use is neither source nor destination of a held message
unused : (n : ℕ) (ms : List Message) → in_use n ms ≡ false → (m : Message) → In m ms → (n ≡ m.source → ⊥) × (n ≡ m.destination → ⊥)
unused n [] e m k = absurd (in_nil m k)
unused n (x ∷ xs) e m k =
    let parts = or_parts (names_task n x) (in_use n xs) e in
    let ends = or_parts (eqb x.source n) (eqb x.destination n) parts.0 in
    ⊎_elim
    (λ is. (
      λ same. eqb-false x.source n ends.0 (sym (same ∙ ap (λ (y : Message). y.source) is)),
      λ same. eqb-false x.destination n ends.1 (sym (same ∙ ap (λ (y : Message). y.destination) is)),
    ))
    (λ j. unused n xs parts.1 m j)
    (in_cases x m xs k)

-- no held message names the task, so all of them have their tasks, routes and packets as before
pub task_dropped : (g : Setting) (js : Jobs) (n : ℕ) → Clean g js → in_use n js.messages ≡ false → Clean g (without_task js n)
task_dropped g js n clean free =
    clean_part g (without_task js n) js
    (record {
      tasks = λ t i. without_in task_name n t js.tasks i;
      messages = λ m i. i;
      task_names = distinct_without task_name n js.tasks clean.made.task_names;
      message_names = clean.made.message_names;
      sources = λ m i. named_without_other task_name n m.source js.tasks (unused n js.messages free m i).0;
      destinations = λ m i. named_without_other task_name n m.destination js.tasks (unused n js.messages free m i).1;
    })
    clean

-- ---- the rules

-- a dropping of a task is refused where a held message names it, and a refused one changes nothing
pub drop_task_keeps : (g : Setting) (js : Jobs) (n : ℕ) → Clean g js → Clean g (drop_task js n).1
drop_task_keeps g js n clean =
    cond_both (is_some (index_of task_name n js.tasks)) _ _ (λ (x : Result (Unit {0}) DropFault × Jobs). Clean g x.1)
    (λ _. cond_both (in_use n js.messages) _ _ (λ (x : Result (Unit {0}) DropFault × Jobs). Clean g x.1) (λ _. clean) (λ free. task_dropped g js n clean free))
    (λ _. clean)

pub drop_message_keeps : (g : Setting) (js : Jobs) (n : ℕ) → Clean g js → Clean g (drop_message js n).1
drop_message_keeps g js n clean =
    cond_both (is_some (index_of message_name n js.messages)) _ _ (λ (x : Result (Unit {0}) DropFault × Jobs). Clean g x.1)
    (λ _. message_dropped g js n clean)
    (λ _. clean)
