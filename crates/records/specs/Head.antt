-- Meaning. The head of a plan file: version, kind, x, y, delay and a zero, in six bytes, and what follows them.
--   kind_read    the kind of fabric that a byte stands for
--   head_read    what reading the head answers
--   head_number  the number of each fault
use Rattle.std.specs.Prelude.{ℕ, Bool, cond, ◌&&◌, List, length, drop, Ok, Err, Result, ◌==◌, nat_lt, slice_index}
use Rattle.records.specs.declared.head.FabricKind.{FabricKind}
use Rattle.records.specs.declared.head.FabricKind.TheVariants.{Mesh, Listed}
use Rattle.records.specs.declared.head.Head.{Head}
use Rattle.records.specs.declared.head.HeadFault.{HeadFault}
use Rattle.records.specs.declared.head.HeadFault.TheVariants.{Short, Version, Limits}

-- 1 is a mesh and 2 a listed fabric: another kind is a fault of the version
abbrev pub kind_read : ℕ → Result FabricKind HeadFault
kind_read k = cond (k == 1) (Ok Mesh) (cond (k == 2) (Ok Listed) (Err Version))

-- version 1, and the zero byte 0
abbrev pub version_known : List ℕ → Bool
version_known bs = slice_index bs 0 == 1 && slice_index bs 5 == 0

-- the head of a kind, and the rest
abbrev pub head_with : List ℕ → Result FabricKind HeadFault → Result (Head × List ℕ) HeadFault
head_with file (Err e) = Err e
head_with file (Ok kind) =
    Ok (record { kind = kind; x = slice_index file 2; y = slice_index file 3; delay = slice_index file 4 }, drop 6 file)

-- the head and the rest, or the first fault
abbrev pub head_read : List ℕ → Result (Head × List ℕ) HeadFault
head_read file =
    cond (nat_lt (length file) 6) (Err Short)
    (cond (version_known file) (head_with file (kind_read (slice_index file 1))) (Err Version))

-- the number of each fault
abbrev pub head_number : HeadFault → ℕ
head_number Short = 1
head_number Version = 2
head_number Limits = 3
