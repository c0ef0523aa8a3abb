-- Rule. What stands after the first words of a line, form by form: numbers of so many bits, between single spaces.
--   most                    the largest number of so many bits
--   mesh                    the columns, rows and hop delay of a mesh
--   task, message           an offered job
--   open_task, open_message a job to be placed
--   holder                  a core or a link, and an instant
use Rattle.std.specs.Prelude.{ℕ, ◌-◌, ◌^◌, List, Some, Option}
use Rattle.records.specs.declared.record.Task.{Task}
use Rattle.records.specs.declared.record.Message.{Message}
use Rattle.jobs.specs.declared.open.OpenTask.{OpenTask}
use Rattle.jobs.specs.declared.open.OpenMessage.{OpenMessage}
use Rattle.script.specs.Fields.{◌>>=◌, field, number}

abbrev pub most : ℕ → ℕ
most bits = 2 ^ bits - 1

abbrev pub mesh : List ℕ → Option (ℕ × ℕ × ℕ)
mesh text = do
  x ← field (most 8) text
  y ← field (most 8) x.1
  delay ← number (most 8) y.1
  Some (x.0, y.0, delay)

abbrev pub task : List ℕ → Option Task
task text = do
  name ← field (most 16) text
  core ← field (most 8) name.1
  period ← field (most 32) core.1
  phase ← field (most 32) period.1
  width ← number (most 32) phase.1
  Some (record { name = name.0; core = core.0; period = period.0; phase = phase.0; width = width })

abbrev pub message : List ℕ → Option Message
message text = do
  name ← field (most 16) text
  source ← field (most 16) name.1
  destination ← field (most 16) source.1
  kind ← field (most 8) destination.1
  delay ← field (most 32) kind.1
  width ← number (most 32) delay.1
  Some (record { name = name.0; source = source.0; destination = destination.0; kind = kind.0; delay = delay.0; width = width })

abbrev pub open_task : List ℕ → Option OpenTask
open_task text = do
  name ← field (most 16) text
  core ← field (most 8) name.1
  period ← field (most 32) core.1
  width ← number (most 32) period.1
  Some (record { name = name.0; core = core.0; period = period.0; width = width })

abbrev pub open_message : List ℕ → Option OpenMessage
open_message text = do
  name ← field (most 16) text
  source ← field (most 16) name.1
  destination ← field (most 16) source.1
  kind ← field (most 8) destination.1
  width ← number (most 32) kind.1
  Some (record { name = name.0; source = source.0; destination = destination.0; kind = kind.0; width = width })

abbrev pub holder : List ℕ → Option (ℕ × ℕ)
holder text = do
  place ← field (most 16) text
  instant ← number (most 64) place.1
  Some (place.0, instant)
