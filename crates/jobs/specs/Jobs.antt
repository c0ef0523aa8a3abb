-- Meaning. What is held, tasks and messages, which a plan keeps in ascending names; and what a plan is created with.
use Rattle.std.specs.Prelude.{◌≡◌, ℕ, List, [], Some, Option}
use Rattle.std.specs.List.{slice_get}
use Rattle.records.specs.Named.{named, add, without}
use Rattle.records.specs.declared.record.Task.{Task}
use Rattle.records.specs.declared.record.Message.{Message}
use Rattle.fabric.specs.Network.{Network}
use Rattle.jobs.specs.declared.job.Job.{Job}
use Rattle.jobs.specs.declared.job.Job.TheVariants as job

-- what a plan is created with
pub record Setting : Type 0 where
  pub network : Network

-- a plan over a network is created with this
abbrev pub created_on : Network → Setting
created_on net = record { network = net }

-- the held jobs
pub record Jobs : Type 0 where
  pub tasks : List Task
  pub messages : List Message

-- a new plan holds nothing
abbrev pub nothing : Jobs
nothing = record { tasks = []; messages = [] }

-- x stands in the list
abbrev pub In : {X : Type 0} → X → List X → Type 0
In x xs = (i : ℕ) × (slice_get xs i ≡ Some x)

-- a job of either kind is held
abbrev pub IsHeld : Jobs → Job → Type 0
IsHeld js (job.Task t) = In t js.tasks
IsHeld js (job.Message m) = In m js.messages

-- a job's name
abbrev pub task_name : Task → ℕ
task_name t = t.name

abbrev pub message_name : Message → ℕ
message_name m = m.name

abbrev pub job_name : Job → ℕ
job_name (job.Task t) = t.name
job_name (job.Message m) = m.name

-- the task of a name, if one is held
abbrev pub task_named : List Task → ℕ → Option Task
task_named ts n = named task_name n ts

-- one job more
abbrev pub with_task : Jobs → Task → Jobs
with_task js t = record js { tasks = add task_name t js.tasks }

abbrev pub with_message : Jobs → Message → Jobs
with_message js m = record js { messages = add message_name m js.messages }

-- one job less, by its name
abbrev pub without_task : Jobs → ℕ → Jobs
without_task js n = record js { tasks = without task_name n js.tasks }

abbrev pub without_message : Jobs → ℕ → Jobs
without_message js n = record js { messages = without message_name n js.messages }
