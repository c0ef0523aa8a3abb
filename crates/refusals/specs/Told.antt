-- Rule. What is told of a fault: the refusal by its number and values, and the section and the record of a file.
use Rattle.std.specs.Prelude.{ℕ, min, Some, None, Ok, Err, Option, Result}
use Rattle.refusals.specs.declared.refusal.BufferFault.{BufferFault}
use Rattle.refusals.specs.declared.refusal.Detail.TheVariants.{Plain}
use Rattle.refusals.specs.declared.refusal.Refusal.{Refusal}
use Rattle.refusals.specs.declared.refusal.Told.{Told}

-- a refusal with no value
abbrev pub plain : ℕ → Refusal
plain n = record { number = n; detail = Plain }

-- a refusal of a record of a section, which has at most 65,535 records
abbrev pub told : ℕ → ℕ → Refusal → Told
told section place refusal = record { section = section; «record» = min place 65535; refusal = refusal }

-- a buffer that is too short
abbrev pub buffer_told : BufferFault → Refusal
buffer_told e = plain 27

-- what is told of an answer where it refuses, by what is told of each fault
abbrev pub refusal_of : {T E X : Type 0} → (E → X) → Result T E → Option X
refusal_of tell (Ok x) = None
refusal_of tell (Err e) = Some (tell e)

-- a check passes where nothing was found wrong
abbrev pub checked : {E : Type 0} → Option E → Result (Unit {0}) E
checked None = Ok tt
checked (Some e) = Err e
