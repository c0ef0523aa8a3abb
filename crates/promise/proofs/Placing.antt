-- Past the checks that leave phase and delay out, a value is taken exactly where it is neither late nor meets anything.
use Rattle.std.proofs.Common.{◌≡◌, ℕ, ◌+◌, ◌-◌, ◌<◌, map, Some, None, Ok, Option, sym, refl, ap, ◌∙◌, arith}
use Rattle.std.specs.Option.{option_map}
use Rattle.std.specs.Prelude.{is_none}
use Rattle.holds.specs.Search.{first_from}
use Rattle.jobs.specs.declared.fault.TaskFault.TheVariants as task_fault
use Rattle.jobs.specs.declared.open.OpenTask.{OpenTask}
use Rattle.jobs.specs.declared.open.OpenMessage.{OpenMessage}
use Rattle.jobs.specs.Checks.{admitted_message, admitted_task}
use Rattle.jobs.specs.Jobs.{Jobs, Setting, task_named}
use Rattle.jobs.specs.Meetings.{first_met, held_task}
use Rattle.jobs.specs.Open.{message_at, task_at}
use Rattle.jobs.specs.Placings.{delays, first_delay, first_phase}
use Rattle.jobs.specs.Rules.{message_refusal, packet_refusal, refusal_past, run_refusal}
use Rattle.jobs.specs.Takes.{task_takes}
use Rattle.jobs.specs.Trips.{Trip}
use Rattle.jobs.proofs.Searches.{first_same}
use Rattle.promise.specs.Offers.{MessagePassed, TaskPassed}
use Rattle.promise.proofs.Passing.{message_admitted, message_passes, task_admitted, task_passes}
use Rattle.promise.proofs.Takes.{trip_parts}

none_mapped : {X E : Type 0} (f : X → E) (o : Option X) → is_none (option_map f o) ≡ is_none o
none_mapped f None = refl
none_mapped f (Some x) = refl

-- what passes with phase 0 passes with every phase of the range
other_phase : (g : Setting) (js : Jobs) (t : OpenTask) → TaskPassed g js (task_at t 0) → (v : ℕ) → v < t.period + 1 - t.width → TaskPassed g js (task_at t v)
other_phase g js t p v lt =
    record {
      named = p.named;
      fresh = p.fresh;
      on_core = p.on_core;
      some_period = p.some_period;
      short = p.short;
      some = p.some;
      narrow = p.narrow;
      fits = omega (arith, p.narrow, lt);
      room = p.room;
    }

-- so the smallest phase is the first that meets nothing
pub phases : (g : Setting) (js : Jobs) (t : OpenTask) → admitted_task g.network.nodes js (task_at t 0) ≡ Ok tt → (o : Option ℕ)
    → o ≡ first_from (λ v. is_none (first_met (task_takes (task_at t v)) (map held_task js.tasks))) (t.period + 1 - t.width) 0 → o ≡ first_phase g js t
phases g js t admitted o e =
    let p = task_passes g js (task_at t 0) admitted in
    e ∙ sym (first_same _ _ (t.period + 1 - t.width) (λ v lt.
    ap (λ r. is_none (refusal_past r (λ _. run_refusal js (task_at t v)))) (task_admitted g js (task_at t v) (other_phase g js t p v lt))
    ∙ none_mapped task_fault.Meets (first_met (task_takes (task_at t v)) (map held_task js.tasks))))

-- what passes with delay 0 passes with every delay of the range
other_delay : (g : Setting) (js : Jobs) (m : OpenMessage) (t : Trip) → MessagePassed g js (message_at m 0) t → (v : ℕ) → v < t.source.period → MessagePassed g js (message_at m v) t
other_delay g js m t p v lt =
    record { named = p.named; fresh = p.fresh; going = p.going; kind = p.kind; delay = lt; some = p.some; fits = p.fits; room = p.room }

-- so the smallest delay is the first that is neither late nor meets anything
pub delays_are : (g : Setting) (js : Jobs) (m : OpenMessage) (t : Trip) → admitted_message g js (message_at m 0) ≡ Ok t → (o : Option ℕ)
    → o ≡ first_from (λ v. is_none (packet_refusal g js (message_at m v) t)) t.source.period 0 → o ≡ first_delay g js m
delays_are g js m t admitted o e =
    let p = message_passes g js (message_at m 0) t admitted in
    let parts = trip_parts g.network (task_named js.tasks m.source) (task_named js.tasks m.destination) t p.going in
    e
    ∙ sym (first_same _ _ t.source.period (λ v lt.
    ap (λ r. is_none (refusal_past r (packet_refusal g js (message_at m v)))) (message_admitted g js (message_at m v) t (other_delay g js m t p v lt))))
    ∙ ap (λ s. first_from (λ v. is_none (message_refusal g js (message_at m v))) (delays s) 0) (sym parts.source)
