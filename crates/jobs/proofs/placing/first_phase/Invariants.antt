use Rattle.std.proofs.Common.{◌+◌, ◌-◌, map}
use Rattle.jobs.specs.Meetings.{first_met, held_task}
use Rattle.jobs.specs.Open.{task_at}
use Rattle.std.specs.Prelude.{is_none}
use Rattle.jobs.specs.Takes.{task_takes}
use Rattle.jobs.proofs.Searches.{Passed}
use Rattle.jobs.proofs.placing.first_phase.Given as goal

-- each smaller phase meets a held task
abbrev pub invariant-loop-phase : goal.invariant-loop-phase
invariant-loop-phase l = Passed (λ v. is_none (first_met (task_takes (task_at l.t v)) (map held_task l.held))) l.phase

abbrev pub decreases-loop-phase : goal.decreases-loop-phase
decreases-loop-phase l = l.last + 1 - l.phase
