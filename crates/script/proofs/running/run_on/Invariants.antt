use Rattle.std.proofs.Common.{◌≡◌, ◌++◌, drop, vec_items}
use Rattle.script.specs.Running.{session, texts_of}
use Rattle.script.specs.Transcripts.{begun, printed}
use Rattle.script.proofs.running.run_on.Given as goal

-- what is printed so far, and what the lines that are left print on the plan in hand, make the whole
abbrev pub invariant-loop-at : goal.invariant-loop-at
invariant-loop-at g l =
    vec_items l.out ++ printed (session l.plan) (texts_of (drop l.at l.texts))
    ≡ vec_items l.fn.out ++ printed (begun (g.F.Fabric.meaning l.fabric)) (texts_of (drop l.from l.texts))
