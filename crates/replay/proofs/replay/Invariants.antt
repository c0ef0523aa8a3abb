use Rattle.std.proofs.Common.{◌≡◌, ◌++◌, map, drop, vec_items, IfOk}
use Rattle.jobs.specs.Jobs.{nothing, created_on}
use Rattle.plan.specs.Held.{jobs, setting}
use Rattle.replay.specs.Calls.{asked, answers, giving, held}
use Rattle.replay.proofs.replay.Given as goal

-- the answers so far, where there was memory for them, with those of the calls that are left, and what is held after these, are those of the whole list
abbrev pub invariant-loop-call : goal.invariant-loop-call
invariant-loop-call g l =
    let s = created_on (g.F.Fabric.meaning l.fabric) in
    (setting l.plan ≡ s)
    × IfOk l.answers (λ v. map (giving vec_items) (vec_items v) ++ answers s (jobs l.plan) (map asked (drop l.call-index l.calls)) ≡ answers s nothing (map asked l.calls))
    × (held s (jobs l.plan) (map asked (drop l.call-index l.calls)) ≡ held s nothing (map asked l.calls))
