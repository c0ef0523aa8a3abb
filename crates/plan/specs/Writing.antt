-- Rule. The job part that a plan writes: each section in ascending names, as they are held.
use Rattle.std.specs.Prelude.{ℕ, Bool, if◌then◌else◌, List, ◌++◌, length, Ok, Err, Result, nat_lt}
use Rattle.records.specs.Forms.{message_form, task_form}
use Rattle.records.specs.Sections.{section_bytes}
use Rattle.refusals.specs.Lines.{too_short}
use Rattle.refusals.specs.Written.{written}
use Rattle.refusals.specs.declared.refusal.BufferFault.{BufferFault}
use Rattle.jobs.specs.Jobs.{Jobs}

-- the job part of the held jobs
abbrev pub part_bytes : Jobs → List ℕ
part_bytes js = section_bytes task_form js.tasks ++ section_bytes message_form js.messages

-- it has more bytes than there is room for
abbrev pub too_long : Jobs → ℕ → Bool
too_long js room = nat_lt room (length (part_bytes js))

-- what a write into so many bytes gives: the job part, or that it has not the room
abbrev pub write : Jobs → ℕ → Result (List ℕ) BufferFault
write js room = if too_long js room then Err too_short else Ok (part_bytes js)

-- what a plan answers to a write into a buffer of so many bytes, and what it leaves of the buffer
abbrev pub write_length : Jobs → ℕ → Result ℕ BufferFault
write_length js room = if too_long js room then Err too_short else Ok (length (part_bytes js))

abbrev pub write_left : Jobs → List ℕ → List ℕ
write_left js out = if too_long js (length out) then out else written out 0 (part_bytes js)
