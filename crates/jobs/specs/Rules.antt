-- Rule. Offers: past the earlier checks a task is refused for a meeting, a message as late or else for a meeting.
use Rattle.std.specs.Prelude.{ℕ, map, ℤ, Some, None, Ok, Err, Option, Result}
use Rattle.std.specs.Option.{option_map}
use Rattle.records.specs.declared.record.Task.{Task}
use Rattle.records.specs.declared.record.Message.{Message}
use Rattle.jobs.specs.declared.fault.TaskFault.{TaskFault}
use Rattle.jobs.specs.declared.fault.TaskFault.TheVariants as task_fault
use Rattle.jobs.specs.declared.fault.MessageFault.{MessageFault}
use Rattle.jobs.specs.declared.fault.MessageFault.TheVariants as message_fault
use Rattle.jobs.specs.Checks.{admitted_message, admitted_task}
use Rattle.jobs.specs.Jobs.{Setting, Jobs, with_task, with_message}
use Rattle.jobs.specs.Meetings.{first_met, held_task, held_message}
use Rattle.jobs.specs.Slacks.{lateness, message_slack}
use Rattle.jobs.specs.Takes.{task_takes, packet_takes}
use Rattle.jobs.specs.Trips.{Trip}

-- why an offer is refused: by an earlier check, or by what is tried past them
abbrev pub refusal_past : {A E : Type 0} → Result A E → (A → Option E) → Option E
refusal_past (Err e) past = Some e
refusal_past (Ok x) past = past x

-- ---- tasks

-- past the earlier checks: a meeting with a held task
abbrev pub run_refusal : Jobs → Task → Option TaskFault
run_refusal js t = option_map task_fault.Meets (first_met (task_takes t) (map held_task js.tasks))

-- why a task is refused, over so many nodes
abbrev pub task_refusal : ℕ → Jobs → Task → Option TaskFault
task_refusal nodes js t = refusal_past (admitted_task nodes js t) (λ _. run_refusal js t)

-- ---- messages

-- late, or what else refuses
abbrev pub late : Option ℤ → Option MessageFault → Option MessageFault
late None rest = rest
late (Some v) rest = Some (message_fault.Late v)

-- past the earlier checks: late by a least slack below 0, or else a meeting with a held packet
abbrev pub packet_refusal : Setting → Jobs → Message → Trip → Option MessageFault
packet_refusal g js m t =
    late (lateness (message_slack g.network t m))
    (option_map message_fault.Meets (first_met (packet_takes g.network t m) (map (held_message g js.tasks) js.messages)))

-- why a message is refused
abbrev pub message_refusal : Setting → Jobs → Message → Option MessageFault
message_refusal g js m = refusal_past (admitted_message g js m) (packet_refusal g js m)

-- ---- offers: the answer, and what is held after

abbrev pub offered : {E : Type 0} → Option E → Jobs → Jobs → Result (Unit {0}) E × Jobs
offered None before after = (Ok tt, after)
offered (Some e) before after = (Err e, before)

abbrev pub offer_task : Setting → Jobs → Task → Result (Unit {0}) TaskFault × Jobs
offer_task g js t = offered (task_refusal g.network.nodes js t) js (with_task js t)

abbrev pub offer_message : Setting → Jobs → Message → Result (Unit {0}) MessageFault × Jobs
offer_message g js m = offered (message_refusal g js m) js (with_message js m)
