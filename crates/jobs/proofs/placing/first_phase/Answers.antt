use Rattle.std.proofs.Common.{◌≡◌, ℕ, ◌+◌, ◌-◌, ◌<◌, ◌≤◌, Bool, false, List, [], ◌∷◌, map, Some, None, Option, sym, ap, ◌∙◌, subst, ⊎_elim, arith}
use Rattle.std.proofs.lemmas.Bool.{cases_lt}
use Rattle.records.specs.declared.record.Task.{Task}
use Rattle.jobs.specs.declared.meeting.Meeting.{Meeting}
use Rattle.jobs.specs.declared.open.OpenTask.{OpenTask}
use Rattle.jobs.specs.Meetings.{first_met, held_task}
use Rattle.jobs.specs.Open.{task_at}
use Rattle.std.specs.Prelude.{is_none}
use Rattle.jobs.specs.Takes.{task_takes}
use Rattle.jobs.specs.Waits.{StillMet}
use Rattle.jobs.proofs.Searches.{FailsFrom, leap, leap_all, search_found, search_none}
use Rattle.jobs.proofs.Waits.{phase_fails, still_as}
use Rattle.jobs.proofs.placing.first_phase.Goals.{After-max}
use Rattle.jobs.proofs.placing.first_phase.Goals as goal

-- whether no held task is met at a phase
abbrev free : OpenTask → List Task → ℕ → Bool
free t held v = is_none (first_met (task_takes (task_at t v)) (map held_task held))

abbrev count : OpenTask → ℕ
count t = t.period + 1 - t.width

-- what the task at a phase meets
met_at : (t : OpenTask) (held : List Task) (v : ℕ) (u : Task) (o : Option Meeting) → u ≡ task_at t v → o ≡ first_met (task_takes u) (map held_task held)
    → free t held v ≡ is_none o
met_at t held v u o e is = sym (ap is_none (is ∙ ap (λ (x : Task). first_met (task_takes x) (map held_task held)) e))

-- and for how long
fails : (t : OpenTask) (held : List Task) (v : ℕ) (u : Task) (wait : Option ℕ) → u ≡ task_at t v → StillMet (task_takes u) (map held_task held) wait
    → FailsFrom (free t held) v wait
fails t held v u wait e still =
    phase_fails t (map held_task held) v wait (subst (λ (x : Task). StillMet (task_takes x) (map held_task held) wait) e still)

-- each phase below the next one is refused
refused : (c : After-max) (m : ℕ) → m < c.loop-phase.phase + c.max.result → m < 4294967296 → free c.args.t.now c.args.held.now m ≡ false
refused c m below fits =
    let t = c.args.t.now in
    let held = c.args.held.now in
    let v = c.loop-phase.phase in
    let w = c.in_ok-wait.wait in
    leap (free t held) v c.loop-phase.invariant w (met_at t held v c.at-task.result (Some c.in-Some.meeting) c.at-task.ensures c.in-Some.ensures)
    (fails t held v c.at-task.result (Some w) c.at-task.ensures (still_as (map held_task held) (Some w) (ap (λ x. x ∷ []) c.stay_of.ensures) c.in_ok-wait.ensures))
    m (omega (arith, c.max.ensures)) fits

pub returns-in_err-last : goal.returns-in_err-last
returns-in_err-last c =
    c.from_residual.ensures
    ∙ search_none (free c.args.t.now c.args.held.now) (count c.args.t.now) (λ m l. absurd (c.in_err-last.ensures (omega arith)))

pub returns-in_default : goal.returns-in_default
returns-in_default c =
    let t = c.args.t.now in
    let held = c.args.held.now in
    let v = c.loop-phase.phase in
    search_found (free t held) (count t) v (omega (arith, c.in_ok-last.ensures)) c.loop-phase.invariant
    (met_at t held v c.at-task.result None c.at-task.ensures c.in_default.ensures)

pub returns-in_err-wait : goal.returns-in_err-wait
returns-in_err-wait c =
    let t = c.args.t.now in
    let held = c.args.held.now in
    let v = c.loop-phase.phase in
    c.from_residual-in_err-wait.ensures
    ∙ search_none (free t held) (count t)
    (λ m l. leap_all (free t held) v c.loop-phase.invariant (fails t held v c.at-task.result None c.at-task.ensures (still_as (map held_task held) None (ap (λ x. x ∷ []) c.stay_of.ensures) c.in_err-wait.ensures)) m (omega arith))

pub returns-in_err-phase : goal.returns-in_err-phase
returns-in_err-phase c =
    let past : 4294967296 ≤ c.loop-phase.phase + c.max.result = ⊎_elim (λ l. absurd (c.in_err-phase.ensures (omega arith))) (λ l. l) (cases_lt (c.loop-phase.phase + c.max.result) 4294967296) in
    c.from_residual-in_err-phase.ensures
    ∙ search_none _ (count c.args.t.now) (λ m l. refused (goal.at.returns-in_err-phase c).After-max m (omega arith) (omega arith))

pub loop-phase-preserved : goal.loop-phase-preserved
loop-phase-preserved c =
    λ m l. refused (goal.at.loop-phase-preserved c).After-max m (omega (arith, c.in_ok-phase.ensures)) (omega arith)

pub returns : goal.returns
returns c =
    search_none (free c.args.t.now c.args.held.now) (count c.args.t.now)
    (λ m l. c.loop-phase.invariant m (omega (arith, c.in_ok-last.ensures)))
