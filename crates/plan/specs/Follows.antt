-- Rule. A call on a plan follows the rule of the call.
--   Says       what it answers, and the number and values that a refusal tells
--   Follows    these, what is held after it, and that the fabric stays
use Rattle.std.specs.Prelude.{◌≡◌, Result}
use Rattle.fabric.specs.declared.Fabric.{Ghosts}
use Rattle.refusals.specs.Told.{refusal_of}
use Rattle.jobs.specs.Jobs.{Jobs}
use Rattle.plan.specs.Held.{SameSetting, jobs}
use Rattle.plan.specs.declared.plan.Plan.{Plan}

pub record Says {T E N : Type 0} (r : Result T E) (tell : E → N) (rule : Result T E) : Type 0 where
  pub answer : r ≡ rule
  pub numbers : refusal_of tell r ≡ refusal_of tell rule

pub record Follows {F : Type 0} {B : Ghosts F} {T E N : Type 0} (old new : Plan F B) (r : Result T E) (tell : E → N) (rule : Result T E × Jobs)
    : Type 0 where
  pub answer : r ≡ rule.0
  pub numbers : refusal_of tell r ≡ refusal_of tell rule.0
  pub after : jobs new ≡ rule.1
  pub alike : SameSetting old new
