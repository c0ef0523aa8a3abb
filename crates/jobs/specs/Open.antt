-- Meaning. Jobs that are to be placed, and the jobs that they become.
use Rattle.std.specs.Prelude.{ℕ}
use Rattle.records.specs.declared.record.Task.{Task}
use Rattle.records.specs.declared.record.Message.{Message}
use Rattle.jobs.specs.declared.open.OpenTask.{OpenTask}
use Rattle.jobs.specs.declared.open.OpenMessage.{OpenMessage}

-- the task with a phase
abbrev pub task_at : OpenTask → ℕ → Task
task_at t v = record { name = t.name; core = t.core; period = t.period; phase = v; width = t.width }

-- the message with a delay
abbrev pub message_at : OpenMessage → ℕ → Message
message_at m v =
    record { name = m.name; source = m.source; destination = m.destination; kind = m.kind; delay = v; width = m.width }
