-- Meaning. The verdict line, byte for byte: `CLEAR tasks messages`, or `REFUSED section record number word` with the refusal's
-- values after it. Single spaces separate, a newline ends. No line is longer than 64 bytes, and a shorter buffer is refused.
use Rattle.std.specs.Prelude.{ℕ, List, [], ◌++◌, Ok, Err, Result, codes, decimal}
use Rattle.std.specs.Fmt.{signed_decimal}
use Rattle.refusals.specs.Words.{word_of}
use Rattle.refusals.specs.declared.refusal.BufferFault.{BufferFault}
use Rattle.refusals.specs.declared.refusal.Counts.{Counts}
use Rattle.refusals.specs.declared.refusal.Detail.{Detail}
use Rattle.refusals.specs.declared.refusal.Detail.TheVariants.{Plain, Slack, Meeting}
use Rattle.refusals.specs.declared.refusal.Refusal.{Refusal}
use Rattle.refusals.specs.declared.refusal.Told.{Told}

-- what stands after the word: nothing, the least slack, or the instant of the meeting, the held name and the place
abbrev pub detail_text : Detail → List ℕ
detail_text Plain = []
detail_text (Slack least) = codes " " ++ signed_decimal least
detail_text (Meeting m) = codes " " ++ decimal m.instant ++ codes " " ++ decimal m.held ++ codes " " ++ decimal m.place

-- a refusal: its number, its word and its values
abbrev pub refused_text : Refusal → List ℕ
refused_text r = codes "REFUSED " ++ decimal r.number ++ codes " " ++ word_of r.number ++ detail_text r.detail

-- the same with section and record before the number: the line of a refused verdict, but for its newline
abbrev pub told_text : Told → List ℕ
told_text t =
    codes "REFUSED " ++ decimal t.section ++ codes " " ++ decimal t.«record» ++ codes " "
    ++ decimal t.refusal.number ++ codes " " ++ word_of t.refusal.number ++ detail_text t.refusal.detail

-- the bytes of the line of a verdict: the counts of tasks and messages, or what is refused
abbrev pub line_text : Result Counts Told → List ℕ
line_text (Ok counts) = codes "CLEAR " ++ decimal counts.tasks ++ codes " " ++ decimal counts.messages ++ codes "\n"
line_text (Err told) =
    codes "REFUSED " ++ decimal told.section ++ codes " " ++ decimal told.«record» ++ codes " "
    ++ decimal told.refusal.number ++ codes " " ++ word_of told.refusal.number ++ detail_text told.refusal.detail ++ codes "\n"

-- the fault of a buffer that is too short for what is written
abbrev pub too_short : BufferFault
too_short = record {}
