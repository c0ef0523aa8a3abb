-- A clean plan's job part, loaded into a new plan over the same fabric, gives the same plan.
use Rattle.std.proofs.Common.{◌≡◌, ℕ, ◌≤◌, Some, ap, ◌∙◌, arith}
use Rattle.records.specs.declared.record.Task.{Task}
use Rattle.records.specs.declared.record.Message.{Message}
use Rattle.jobs.specs.Jobs.{In, Jobs, Setting, nothing, task_name, task_named}
use Rattle.plan.specs.Loading.{loaded}
use Rattle.plan.specs.Round.{RoundTrip}
use Rattle.promise.specs.Canonical.{ShortNames}
use Rattle.promise.specs.Clean.{Clean, TaskMade}
use Rattle.promise.proofs.Lists.{named_in}
use Rattle.promise.proofs.Takes.{trip_parts}
use Rattle.plan.proofs.Reading.{MessageSized, TaskSized, part_back}
use Rattle.plan.proofs.AllTaken.{all_taken}

module _ (g : Setting) (js : Jobs) (clean : Clean g js) (short : ShortNames js) where
  -- the limits of a held task are below what its bytes can say
  pub tasks_fit : g.network.nodes ≤ 64 → (t : Task) → In t js.tasks → TaskSized t
  tasks_fit few t i =
      let made = clean.made.tasks t i in
      record {
        name = omega (arith, short.tasks t i);
        core = omega (arith, made.on_core, few);
        period = omega (arith, made.short);
        phase = omega (arith, made.short, made.fits);
        width = omega (arith, made.short, made.fits);
      }

  -- a name that finds a held task is that task's, and fits in two bytes
  held_name : (n : ℕ) (s : Task) → task_named js.tasks n ≡ Some s → (s.name ≤ 65535) × (s.name ≡ n)
  held_name n s e = let k = named_in task_name n s js.tasks e in (short.tasks s k.0, k.1)

  -- and it is well made
  held_made : (n : ℕ) (s : Task) → task_named js.tasks n ≡ Some s → TaskMade g s
  held_made n s e = clean.made.tasks s (named_in task_name n s js.tasks e).0

  -- so are those of a held message: it names held tasks, and its times are below its source's period
  pub messages_fit : (m : Message) → In m js.messages → MessageSized m
  messages_fit m i =
      let made = clean.made.messages m i in
      let parts = trip_parts g.network (task_named js.tasks m.source) (task_named js.tasks m.destination) made.trip made.going in
      let s = held_name m.source made.trip.source parts.source in
      let sm = held_made m.source made.trip.source parts.source in
      let d = held_name m.destination made.trip.destination parts.destination in
      record {
        name = omega (arith, short.messages m i);
        source = omega (arith, s.0, s.1);
        destination = omega (arith, d.0, d.1);
        kind = made.kind;
        delay = omega (arith, made.delay, sm.short);
        width = omega (arith, made.fits, sm.short);
      }

-- the bytes read back as the jobs, and their offers in turn are all taken
pub round_trip : RoundTrip
round_trip g fab js clean here short =
    let reads = part_back js (omega (arith, here.few_tasks)) (omega (arith, here.few_messages)) (tasks_fit g js clean short fab.lawful.few_nodes) (messages_fit g js clean short) in
    (reads, ap (loaded g nothing) reads ∙ all_taken g js clean here fab)
