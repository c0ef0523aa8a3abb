-- A job that no check refuses has room.
use Rattle.std.proofs.Common.{◌≡◌, ◌<◌, length, None}
use Rattle.records.specs.declared.record.Task.{Task}
use Rattle.records.specs.declared.record.Message.{Message}
use Rattle.jobs.specs.Jobs.{Jobs, Setting}
use Rattle.jobs.specs.Rules.{message_refusal, task_refusal}
use Rattle.promise.proofs.Kept.{message_free, task_free}

pub task_room : (g : Setting) (js : Jobs) (t : Task) → task_refusal g.network.nodes js t ≡ None → length js.tasks < 64
task_room g js t none = (task_free g js t none).room

pub message_room : (g : Setting) (js : Jobs) (m : Message) → message_refusal g js m ≡ None → length js.messages < 128
message_room g js m none = (message_free g js m none).1.room
