-- Meaning. The jobs that two tables hold.
use Rattle.records.specs.Tables.{held}
use Rattle.records.specs.declared.record.Task.{Task}
use Rattle.records.specs.declared.record.Message.{Message}
use Rattle.records.specs.declared.tables.Table.{Table}
use Rattle.jobs.specs.Jobs.{Jobs}

abbrev pub tabled : Table Task 64 → Table Message 128 → Jobs
tabled ts ms = record { tasks = held ts; messages = held ms }
