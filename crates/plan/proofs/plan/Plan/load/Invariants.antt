use Rattle.std.proofs.Common.{◌≡◌, List, drop, Ok}
use Rattle.records.specs.Forms.{message_of, task_of}
use Rattle.records.specs.Sections.{section_records}
use Rattle.records.specs.declared.record.Task.{Task}
use Rattle.records.specs.declared.record.Message.{Message}
use Rattle.plan.specs.Held.{jobs, setting}
use Rattle.plan.specs.Loading.{file_order, in_turn}
use Rattle.plan.proofs.plan.Plan.load.Given as goal

-- the fabric stays, and the records that are left give the rest
abbrev pub invariant-loop-at : goal.invariant-loop-at
invariant-loop-at g l =
    (l.self.fabric ≡ l.initial.self.fabric)
    × ((ts : List Task) (ms : List Message) → section_records task_of 16 l.job_part.tasks.bytes.now ≡ Ok ts → section_records message_of 16 l.job_part.messages.bytes.now ≡ Ok ms
    → in_turn (setting l.initial.self) (jobs l.self) l.at (drop l.at (file_order (ts, ms)))
    ≡ in_turn (setting l.initial.self) (jobs l.initial.self) 0 (file_order (ts, ms)))
