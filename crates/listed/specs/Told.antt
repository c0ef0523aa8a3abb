-- Rule. Section, record and refusal of each fault of setting a listed fabric.
use Rattle.std.specs.Prelude.{ℕ}
use Rattle.records.specs.Head.{head_number}
use Rattle.refusals.specs.Told.{plain, told}
use Rattle.refusals.specs.declared.refusal.Told.{Told}
use Rattle.listed.specs.declared.faults.SectionFault.{SectionFault}
use Rattle.listed.specs.declared.faults.SectionFault.TheVariants.{Short, Many}
use Rattle.listed.specs.declared.faults.SetFault.{SetFault}
use Rattle.listed.specs.declared.faults.SetFault.TheVariants.{Head, Links, Link, Routes, Route, Chain, Order}

-- a section that is cut off after so many whole records, or whose count is over the limit
abbrev pub section_told : ℕ → SectionFault → Told
section_told s (Short whole) = told s whole (plain 1)
section_told s Many = told s 0 (plain 4)

-- the head is section 0, the links are section 1, the routes section 2
abbrev pub set_told : SetFault → Told
set_told (Head e) = told 0 0 (plain (head_number e))
set_told (Links e) = section_told 1 e
set_told (Link l) = told 1 l (plain 5)
set_told (Routes e) = section_told 2 e
set_told (Route k) = told 2 k (plain 6)
set_told (Chain k) = told 2 k (plain 7)
set_told (Order k) = told 2 k (plain 8)
