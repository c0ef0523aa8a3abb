-- Rule. The checks of an offer that come before lateness and meetings, in their order: the first whose condition holds refuses.
use Rattle.std.specs.Prelude.{ℕ, ◌+◌, Bool, true, false, not, ◌&&◌, ◌||◌, List, length, is_some, Ok, Err, Result, ◌==◌, nat_le, nat_lt}
use Rattle.std.specs.Option.{ok_or}
use Rattle.refusals.specs.Steps.{◌>>=◌}
use Rattle.records.specs.Named.{index_of}
use Rattle.records.specs.declared.record.Task.{Task}
use Rattle.records.specs.declared.record.Message.{Message}
use Rattle.jobs.specs.declared.fault.TaskFault.{TaskFault}
use Rattle.jobs.specs.declared.fault.TaskFault.TheVariants as task_fault
use Rattle.jobs.specs.declared.fault.MessageFault.{MessageFault}
use Rattle.jobs.specs.declared.fault.MessageFault.TheVariants as message_fault
use Rattle.jobs.specs.Jobs.{Setting, Jobs, task_name, message_name, task_named}
use Rattle.jobs.specs.Trips.{Trip}

-- a check: refused with the fault where its condition holds
abbrev pub refused_if : {E : Type 0} → Bool → E → Result (Unit {0}) E
refused_if true e = Err e
refused_if false e = Ok tt

-- a name is taken where it is 0 or held
abbrev pub name_taken : {X : Type 0} → (X → ℕ) → ℕ → List X → Bool
name_taken label n xs = n == 0 || is_some (index_of label n xs)

-- a period from 1 to 65,536, a width from 1 to the period, and phase and width together at most the period
abbrev pub task_timely : Task → Bool
task_timely t =
    nat_le 1 t.period && (nat_le t.period 65536 && (nat_le 1 t.width && (nat_le t.width t.period && nat_le (t.phase + t.width) t.period)))

-- kind 0 or 1, a delay below the source's period, and a width from 1 to that period
abbrev pub message_timely : Task → Message → Bool
message_timely s m = nat_lt m.kind 2 && (nat_lt m.delay s.period && (nat_le 1 m.width && nat_le m.width s.period))

-- a task over so many nodes
abbrev pub admitted_task : ℕ → Jobs → Task → Result (Unit {0}) TaskFault
admitted_task nodes js t = do
  _ ← refused_if (name_taken task_name t.name js.tasks) task_fault.Name
  _ ← refused_if (nat_le nodes t.core) task_fault.Core
  _ ← refused_if (not (task_timely t)) task_fault.Times
  refused_if (nat_le 64 (length js.tasks)) task_fault.Full

-- a message, with the trip that it goes on past these checks
abbrev pub admitted_message : Setting → Jobs → Message → Result Trip MessageFault
admitted_message g js m = do
  _ ← refused_if (name_taken message_name m.name js.messages) message_fault.Name
  s ← ok_or (task_named js.tasks m.source) message_fault.Ends
  d ← ok_or (task_named js.tasks m.destination) message_fault.Ends
  _ ← refused_if (not (message_timely s m)) message_fault.Times
  r ← ok_or (g.network.route s.core d.core) message_fault.NoRoute
  _ ← refused_if (nat_le 128 (length js.messages)) message_fault.Full
  Ok (record { source = s; destination = d; route = r })
