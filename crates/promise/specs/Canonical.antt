-- Meaning. What is held in the order of its names.
--   Canonical     names ascend, and no more jobs are held than a plan has room for
--   ShortNames    every name fits in two bytes
--   SameMembers   two plans hold the same jobs
use Rattle.std.specs.Prelude.{◌≡◌, ◌≤◌, true, ◌↔◌, length}
use Rattle.records.specs.Named.{ascends}
use Rattle.records.specs.declared.record.Task.{Task}
use Rattle.records.specs.declared.record.Message.{Message}
use Rattle.jobs.specs.Jobs.{In, Jobs, message_name, task_name}

-- the names of the tasks ascend from 1 and those of the messages too, and there are at most 64 tasks and at most 128 messages
pub record Canonical (js : Jobs) : Type 0 where
  pub tasks : ascends task_name 0 js.tasks ≡ true
  pub messages : ascends message_name 0 js.messages ≡ true
  pub few_tasks : length js.tasks ≤ 64
  pub few_messages : length js.messages ≤ 128

-- every name fits in two bytes
pub record ShortNames (js : Jobs) : Type 0 where
  pub tasks : (t : Task) → In t js.tasks → t.name ≤ 65535
  pub messages : (m : Message) → In m js.messages → m.name ≤ 65535

-- the same tasks and the same messages are held
pub record SameMembers (a b : Jobs) : Type 0 where
  pub tasks : (t : Task) → In t a.tasks ↔ In t b.tasks
  pub messages : (m : Message) → In m a.messages ↔ In m b.messages
