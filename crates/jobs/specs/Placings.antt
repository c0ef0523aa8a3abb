-- Rule. Placings: a job is held with the smallest value whose offer would be taken.
use Rattle.std.specs.Prelude.{ℕ, ◌+◌, ◌-◌, List, is_none, map, Some, None, Ok, Err, Option, Result}
use Rattle.holds.specs.Search.{first_from}
use Rattle.records.specs.declared.record.Task.{Task}
use Rattle.records.specs.declared.record.Message.{Message}
use Rattle.jobs.specs.declared.fault.TaskFault.{TaskFault}
use Rattle.jobs.specs.declared.fault.MessageFault.{MessageFault}
use Rattle.jobs.specs.declared.fault.MessageFault.TheVariants as message_fault
use Rattle.jobs.specs.declared.fault.PlacingFault.{PlacingFault}
use Rattle.jobs.specs.declared.fault.PlacingFault.TheVariants as placing
use Rattle.jobs.specs.declared.open.OpenTask.{OpenTask}
use Rattle.jobs.specs.declared.open.OpenMessage.{OpenMessage}
use Rattle.jobs.specs.declared.routing.Ends.{Ends}
use Rattle.jobs.specs.Checks.{admitted_message, admitted_task}
use Rattle.jobs.specs.Jobs.{Setting, Jobs, task_named, with_task, with_message}
use Rattle.jobs.specs.Open.{task_at, message_at}
use Rattle.jobs.specs.Meetings.{first_met, held_task}
use Rattle.jobs.specs.Rules.{message_refusal, packet_refusal, task_refusal}
use Rattle.jobs.specs.Takes.{task_takes}
use Rattle.jobs.specs.Trips.{Trip}

-- what a placing answers, by the earlier checks and the smallest value, and what is held after it
abbrev pub placed : {A E : Type 0} → Jobs → (ℕ → Jobs) → Result A E → Option ℕ → Result ℕ (PlacingFault E) × Jobs
placed js held (Err e) v = (Err (placing.Offer e), js)
placed js held (Ok x) None = (Err placing.NoFit, js)
placed js held (Ok x) (Some v) = (Ok v, held v)

-- ---- tasks: phases from 0 to period - width

-- the smallest phase whose offer would be taken
abbrev pub first_phase : Setting → Jobs → OpenTask → Option ℕ
first_phase g js t = first_from (λ v. is_none (task_refusal g.network.nodes js (task_at t v))) (t.period + 1 - t.width) 0

-- the smallest phase at which a task meets none of those held
abbrev pub first_free_phase : List Task → OpenTask → Option ℕ
first_free_phase held t = first_from (λ v. is_none (first_met (task_takes (task_at t v)) (map held_task held))) (t.period + 1 - t.width) 0

-- the checks leave the phase out: phase 0 is within the limits wherever some phase is
abbrev pub place_task : Setting → Jobs → OpenTask → Result ℕ (PlacingFault TaskFault) × Jobs
place_task g js t = placed js (λ v. with_task js (task_at t v)) (admitted_task g.network.nodes js (task_at t 0)) (first_phase g js t)

-- ---- messages: delays from 0 to below the source's period

abbrev pub delays : Option Task → ℕ
delays None = 0
delays (Some s) = s.period

-- the smallest delay whose offer would be taken
abbrev pub first_delay : Setting → Jobs → OpenMessage → Option ℕ
first_delay g js m = first_from (λ v. is_none (message_refusal g js (message_at m v))) (delays (task_named js.tasks m.source)) 0

-- what refuses a message between two tasks past the earlier checks: without a route it cannot go
abbrev pub on_way : Setting → Jobs → Message → Task → Task → Option (List ℕ) → Option MessageFault
on_way g js m s d None = Some message_fault.NoRoute
on_way g js m s d (Some r) = packet_refusal g js m (record { source = s; destination = d; route = r })

-- the smallest delay at which a message between two tasks has a route, and is neither late nor meets one of those held
abbrev pub first_delay_between : Setting → Jobs → OpenMessage → Ends → Option ℕ
first_delay_between g js m e =
    first_from (λ v. is_none (on_way g js (message_at m v) e.source e.destination (g.network.route e.source.core e.destination.core))) e.source.period 0

-- the smallest delay at which a message on its trip is neither late nor meets one of those held
abbrev pub first_free_delay : Setting → Jobs → OpenMessage → Trip → Option ℕ
first_free_delay g js m t = first_from (λ v. is_none (packet_refusal g js (message_at m v) t)) t.source.period 0

-- the checks leave the delay out: delay 0 is within the limits wherever some delay is
abbrev pub place_message : Setting → Jobs → OpenMessage → Result ℕ (PlacingFault MessageFault) × Jobs
place_message g js m = placed js (λ v. with_message js (message_at m v)) (admitted_message g js (message_at m 0)) (first_delay g js m)
