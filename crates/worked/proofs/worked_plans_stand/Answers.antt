use Rattle.std.proofs.Common.{refl}
use Rattle.holds.specs.First.{first}
use Rattle.holds.specs.Gcd.{euclid, gcd}
use Rattle.holds.specs.Search.{first_from}
use Rattle.holds.specs.Span.{busy, gap}
use Rattle.std.specs.Fmt.{digits}
use Rattle.worked.specs.Printed.{Printed}
use Rattle.worked.specs.Refused.{Refused}
use Rattle.worked.specs.Worked.{Worked}
use Rattle.worked.proofs.Unsafe.{unsafe_plans}
use Rattle.worked.proofs.worked_plans_stand.Goals as goal

-- every case by computing it
plans : Worked
unfolding first euclid gcd first_from busy gap digits
plans = refl

-- every refusal by computing it
refusals : Refused
unfolding first euclid gcd first_from busy gap digits
refusals = refl

-- all that is printed by computing it
prints : Printed
unfolding first euclid gcd first_from busy gap digits
prints = refl

pub returns : goal.returns
returns c = record { plans = plans; refusals = refusals; prints = prints; unsafe_plans = unsafe_plans }
