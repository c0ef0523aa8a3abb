use Rattle.std.proofs.Common.{◌≡◌, ◌≤◌, ◌++◌, length, vec_items, MatchOption}
use Rattle.script.specs.Running.{next_printed, texts_of}
use Rattle.script.specs.Transcripts.{begun, printed}
use Rattle.script.proofs.Printed.{left_after}
use Rattle.script.proofs.running.run_all.Given as goal

-- what is printed so far, and what the lines after the fabric line in hand print, make the whole
abbrev pub invariant-loop-next : goal.invariant-loop-next
invariant-loop-next g l = record {
  within : MatchOption l.next (Unit {0}) (λ n. n.1 ≤ length l.lines);
  whole : vec_items l.out ++ next_printed l.texts l.next ≡ printed (begun (g.F.Fabric.meaning l.fabric)) (texts_of l.texts);
}

abbrev pub decreases-loop-next : goal.decreases-loop-next
decreases-loop-next g l = left_after (length l.lines) l.next
