-- Rule. Section, record and refusal of each fault of a plan file, and the line of a verdict.
use Rattle.std.specs.Prelude.{ℕ, if◌then◌else◌, List, length, Ok, Err, Result, nat_lt}
use Rattle.refusals.specs.Lines.{line_text, too_short}
use Rattle.refusals.specs.Written.{written}
use Rattle.refusals.specs.declared.refusal.BufferFault.{BufferFault}
use Rattle.refusals.specs.Told.{plain, told}
use Rattle.refusals.specs.declared.refusal.Counts.{Counts}
use Rattle.refusals.specs.declared.refusal.Told.{Told}
use Rattle.listed.specs.Told.{set_told}
use Rattle.plan.specs.Told.{load_told}
use Rattle.verdict.specs.Verdict.{verdict_of}
use Rattle.verdict.specs.declared.fault.FileFault.{FileFault}
use Rattle.verdict.specs.declared.fault.FileFault.TheVariants.{Extra, Fabric, Load}

abbrev pub file_told : FileFault → Told
file_told Extra = told 5 0 (plain 25)
file_told (Fabric e) = set_told e
file_told (Load e) = load_told e

-- what the verdict line tells: the counts of what is held, or the refusal
abbrev pub verdict_line : Result Counts FileFault → Result Counts Told
verdict_line (Ok counts) = Ok counts
verdict_line (Err e) = Err (file_told e)

-- what a verdict on a file answers to a buffer of so many bytes, and what it leaves of the buffer: the line is at most 64 bytes long
abbrev pub line_length : List ℕ → ℕ → Result ℕ BufferFault
line_length file room = if nat_lt room 64 then Err too_short else Ok (length (line_text (verdict_line (verdict_of file))))

abbrev pub line_left : List ℕ → List ℕ → List ℕ
line_left file out = if nat_lt (length out) 64 then out else written out 0 (line_text (verdict_line (verdict_of file)))
