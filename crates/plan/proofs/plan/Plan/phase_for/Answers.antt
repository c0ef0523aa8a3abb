use Rattle.std.proofs.Common.{◌≡◌, ◌+◌, ◌-◌, List, map, Ok, sym, ap, ◌∙◌, rules}
use Rattle.std.specs.Option.{ok_or}
use Rattle.std.specs.Prelude.{is_none}
use Rattle.jobs.specs.declared.fault.PlacingFault.TheVariants as placing
use Rattle.holds.specs.Search.{first_from}
use Rattle.records.specs.declared.record.Task.{Task}
use Rattle.jobs.specs.Checks.{admitted_task}
use Rattle.jobs.specs.Jobs.{with_task}
use Rattle.jobs.specs.Meetings.{first_met, held_task}
use Rattle.jobs.specs.Open.{task_at}
use Rattle.jobs.specs.Placings.{first_phase}
use Rattle.jobs.specs.Takes.{task_takes}
use Rattle.plan.specs.Held.{jobs, setting}
use Rattle.promise.proofs.Kept.{placed_past}
use Rattle.promise.proofs.Placing.{phases}
use Rattle.plan.proofs.plan.Plan.phase_for.Goals as goal

pub returns : goal.returns
returns g c =
    let p = c.args.self.now in
    let t = c.args.t.now in
    let s = setting p in
    let admitted : admitted_task s.network.nodes (jobs p) (task_at t 0) ≡ Ok tt = search rules in
    let found : c.first_phase.result ≡ first_phase s (jobs p) t =
    phases s (jobs p) t admitted c.first_phase.result
    (c.first_phase.ensures
    ∙ ap (λ (ts : List Task). first_from (λ v. is_none (first_met (task_takes (task_at t v)) (map held_task ts))) (t.period + 1 - t.width) 0) c.held.ensures) in
    c.ok_or.ensures.value ∙ ap (λ o. ok_or o placing.NoFit) found
    ∙ sym (placed_past (jobs p) (λ v. with_task (jobs p) (task_at t v)) (admitted_task s.network.nodes (jobs p) (task_at t 0)) tt (first_phase s (jobs p) t) admitted)
