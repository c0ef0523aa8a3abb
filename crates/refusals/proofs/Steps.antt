-- What an answer says of the steps before it.
use Rattle.std.proofs.Common.{◌≡◌, Some, None, Ok, Err, Option, Result, refl}
use Rattle.refusals.specs.Steps.{◌>>=◌, within}
use Rattle.refusals.specs.Told.{checked}

-- a step before an answer has one too, and what follows it gives the answer
pub step_read : {A B E : Type 0} (r : Result A E) (f : A → Result B E) (v : B) → (r >>= f) ≡ Ok v → (x : A) × (r ≡ Ok x) × (f x ≡ Ok v)
step_read (Ok x) f v h = (x, refl, h)
step_read (Err e) f v h = cc

-- a check before an answer found nothing wrong
pub checked_read : {B E : Type 0} (o : Option E) (f : Unit {0} → Result B E) (v : B) → (checked o >>= f) ≡ Ok v → (o ≡ None) × (f tt ≡ Ok v)
checked_read None f v h = (refl, h)
checked_read (Some e) f v h = cc

-- a part without a fault of the whole has none of its own
pub within_read : {A E G : Type 0} (f : E → G) (r : Result A E) (v : A) → within f r ≡ Ok v → r ≡ Ok v
within_read f (Ok x) v h = cc
within_read f (Err e) v h = cc
