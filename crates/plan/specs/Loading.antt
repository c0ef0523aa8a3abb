-- Rule. Loads of a job part: the layout first, then the offers of its records in file order, up to the first that is refused.
--   job_part      the tasks and messages of a job part, or what is wrong with its layout
--   file_order    its records as jobs, tasks before messages
--   in_turn       offers in turn
--   load          what a load answers, and what is held after it
use Rattle.std.specs.Prelude.{◌≡◌, ℕ, ◌+◌, ◌-◌, ◌/◌, cond, List, [], ◌∷◌, ◌++◌, length, map, Some, None, Ok, Err, Option, Result, ◌==◌, nat_lt}
use Rattle.std.specs.Option.{option_map}
use Rattle.records.specs.Forms.{task_of, message_of}
use Rattle.records.specs.Sections.{cut_of, record_at, section_records}
use Rattle.records.specs.declared.record.Task.{Task}
use Rattle.records.specs.declared.record.Message.{Message}
use Rattle.refusals.specs.declared.refusal.Counts.{Counts}
use Rattle.jobs.specs.Jobs.{Setting, Jobs}
use Rattle.jobs.specs.Offered.{joined, refused}
use Rattle.jobs.specs.declared.job.Job.{Job}
use Rattle.jobs.specs.declared.job.Job.TheVariants as job
use Rattle.jobs.specs.declared.job.JobFault.{JobFault}
use Rattle.plan.specs.declared.fault.LayoutFault.{LayoutFault}
use Rattle.plan.specs.declared.fault.LayoutFault.TheVariants.{TasksShort, MessagesShort, Extra, NoTask, NoMessage}
use Rattle.plan.specs.declared.fault.LoadFault.{LoadFault}
use Rattle.plan.specs.declared.fault.LoadFault.TheVariants.{Layout, Offer}

-- the records of the two sections, once each is whole
abbrev pub both_read : Result (List Task) ℕ → Result (List Message) ℕ → Result (List Task × List Message) LayoutFault
both_read (Err k) ms = Err (NoTask k)
both_read (Ok ts) (Err k) = Err (NoMessage k)
both_read (Ok ts) (Ok ms) = Ok (ts, ms)

-- past the tasks' bytes: the messages, and nothing after them
abbrev pub messages_cut : List ℕ → Result (List ℕ × List ℕ) ℕ → Result (List Task × List Message) LayoutFault
messages_cut tasks (Err whole) = Err (MessagesShort whole)
messages_cut tasks (Ok p) = cond (length p.1 == 0) (both_read (section_records task_of 16 tasks) (section_records message_of 16 p.0)) (Err Extra)

abbrev pub tasks_cut : Result (List ℕ × List ℕ) ℕ → Result (List Task × List Message) LayoutFault
tasks_cut (Err whole) = Err (TasksShort whole)
tasks_cut (Ok p) = messages_cut p.0 (cut_of 16 p.1)

-- the tasks and messages of a job part, or what is wrong with its layout
abbrev pub job_part : List ℕ → Result (List Task × List Message) LayoutFault
job_part bytes = tasks_cut (cut_of 16 bytes)

-- the bytes of the two sections are those of a job part, which has nothing after them
abbrev pub BothCut : List ℕ → List ℕ → List ℕ → Type 0
BothCut part tasks messages = job_part part ≡ both_read (section_records task_of 16 tasks) (section_records message_of 16 messages)

-- the bytes of the two sections hold the tasks and messages of a job part
pub record LaidOut (part tasks messages : List ℕ) : Type 0 where
  pub some_tasks : List Task
  pub some_messages : List Message
  pub task_records : section_records task_of 16 tasks ≡ Ok some_tasks
  pub message_records : section_records message_of 16 messages ≡ Ok some_messages
  pub whole : job_part part ≡ Ok (some_tasks, some_messages)

-- ---- offers in turn

-- the records of a job part as jobs, tasks before messages
abbrev pub file_order : List Task × List Message → List Job
file_order p = map job.Task p.0 ++ map job.Message p.1

-- the job of record k of two sections, tasks before messages
abbrev pub job_at : List ℕ → List ℕ → ℕ → Option Job
job_at tasks messages k =
    cond (nat_lt k (length tasks / 16)) (option_map job.Task (record_at task_of 16 tasks k))
    (option_map job.Message (record_at message_of 16 messages (k - length tasks / 16)))

-- what follows an offer that was refused for this, or not
abbrev pub on_taken : ℕ → Option JobFault → Jobs → Result (Unit {0}) (ℕ × JobFault) × Jobs → Result (Unit {0}) (ℕ × JobFault) × Jobs
on_taken k None js next = next
on_taken k (Some e) js next = (Err (k, e), js)

-- jobs are offered in turn, up to the first refusal, which names the place; k is the place of the first
abbrev pub in_turn : Setting → Jobs → ℕ → List Job → Result (Unit {0}) (ℕ × JobFault) × Jobs
in_turn g js k [] = (Ok tt, js)
in_turn g js k (x ∷ xs) = on_taken k (refused g js x) js (in_turn g (joined js x) (k + 1) xs)

-- ---- the load

-- the place of record k of the file in its section, behind so many tasks
abbrev pub section_place : ℕ → ℕ → ℕ
section_place tasks k = cond (nat_lt k tasks) k (k - tasks)

-- all records are counted, or the refused one is named by its place in its section
abbrev pub counted : List Task × List Message → Result (Unit {0}) (ℕ × JobFault) → Result Counts LoadFault
counted p (Ok u) = Ok (record { tasks = length p.0; messages = length p.1 })
counted p (Err e) = Err (Offer (section_place (length p.0) e.0) e.1)

abbrev pub loaded : Setting → Jobs → Result (List Task × List Message) LayoutFault → Result Counts LoadFault × Jobs
loaded g js (Err e) = (Err (Layout e), js)
loaded g js (Ok p) = (counted p (in_turn g js 0 (file_order p)).0, (in_turn g js 0 (file_order p)).1)

-- what a load answers, how many tasks and messages it took, and what is held after it
abbrev pub load : Setting → Jobs → List ℕ → Result Counts LoadFault × Jobs
load g js bytes = loaded g js (job_part bytes)
