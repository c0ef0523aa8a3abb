-- Rule. Droppings: the answer, and what is held after.
use Rattle.std.specs.Prelude.{ℕ, Bool, cond, ◌||◌, List, is_some, Ok, Err, Result, ◌==◌}
use Rattle.records.specs.Named.{index_of}
use Rattle.records.specs.declared.record.Message.{Message}
use Rattle.jobs.specs.declared.fault.DropFault.{DropFault}
use Rattle.jobs.specs.declared.fault.DropFault.TheVariants.{Unknown, InUse}
use Rattle.jobs.specs.Jobs.{Jobs, task_name, message_name, without_task, without_message}
use Rattle.std.specs.List.{list_any}

-- a message has the task of this name as source or destination
abbrev pub names_task : ℕ → Message → Bool
names_task n m = m.source == n || m.destination == n

-- some message has
abbrev pub in_use : ℕ → List Message → Bool
in_use n ms = list_any (names_task n) ms

abbrev pub drop_task : Jobs → ℕ → Result (Unit {0}) DropFault × Jobs
drop_task js n =
    cond (is_some (index_of task_name n js.tasks))
    (cond (in_use n js.messages) (Err InUse, js) (Ok tt, without_task js n))
    (Err Unknown, js)

abbrev pub drop_message : Jobs → ℕ → Result (Unit {0}) DropFault × Jobs
drop_message js n = cond (is_some (index_of message_name n js.messages)) (Ok tt, without_message js n) (Err Unknown, js)
