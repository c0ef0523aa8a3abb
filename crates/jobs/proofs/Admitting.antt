-- Checks in turn: passed where no condition holds, refused by the first that does.
use Rattle.std.proofs.Common.{◌≡◌, Bool, true, false, ◌⊎◌, Some, None, Ok, Err, Option, Result, refl, ap, inl, inr}
use Rattle.std.specs.Option.{ok_or}
use Rattle.refusals.specs.Steps.{◌>>=◌}
use Rattle.jobs.specs.Checks.{refused_if}

module _ {E A : Type 0} (b : Bool) (e : E) (next : Unit {0} → Result A E) where
  -- past a check whose condition does not hold
  pub past_check : b ≡ false → (refused_if b e >>= next) ≡ next tt
  past_check is = go b is
    where
      go : (b : Bool) → b ≡ false → (refused_if b e >>= next) ≡ next tt
      go true is = cc
      go false is = refl

  -- a condition that holds refuses
  pub fails_check : b ≡ true → (refused_if b e >>= next) ≡ Err e
  fails_check is = go b is
    where
      go : (b : Bool) → b ≡ true → (refused_if b e >>= next) ≡ Err e
      go true is = refl
      go false is = cc

  -- what is passed was no condition that holds
  pub passed_check : (x : A) → (refused_if b e >>= next) ≡ Ok x → (b ≡ false) × (next tt ≡ Ok x)
  passed_check x is = go b is
    where
      go : (b : Bool) → (refused_if b e >>= next) ≡ Ok x → (b ≡ false) × (next tt ≡ Ok x)
      go true is = cc
      go false is = (refl, is)

  -- a fault is that of the check or of a later one
  pub failed_check : (f : E) → (refused_if b e >>= next) ≡ Err f → (e ≡ f) ⊎ (next tt ≡ Err f)
  failed_check f is = go b is
    where
      go : (b : Bool) → (refused_if b e >>= next) ≡ Err f → (e ≡ f) ⊎ (next tt ≡ Err f)
      go true is = inl cc
      go false is = inr is

-- the last check
pub past_last : {E : Type 0} (b : Bool) (e : E) → b ≡ false → refused_if b e ≡ Ok tt
past_last true e is = cc
past_last false e is = refl

pub passed_last : {E : Type 0} (b : Bool) (e : E) (x : Unit {0}) → refused_if b e ≡ Ok x → b ≡ false
passed_last true e x is = cc
passed_last false e x is = refl

pub failed_last : {E : Type 0} (b : Bool) (e f : E) → refused_if b e ≡ Err f → e ≡ f
failed_last true e f is = cc
failed_last false e f is = cc

module _ {E X A : Type 0} (o : Option X) (e : E) (next : X → Result A E) where
  -- past a value that has to be there
  pub past_some : (y : X) → o ≡ Some y → (ok_or o e >>= next) ≡ next y
  past_some y is = go o is
    where
      go : (o : Option X) → o ≡ Some y → (ok_or o e >>= next) ≡ next y
      go None is = cc
      go (Some z) is = let same : z ≡ y = cc in ap next same

  -- a value that is not there refuses
  pub fails_some : o ≡ None → (ok_or o e >>= next) ≡ Err e
  fails_some is = ap (λ o. ok_or o e >>= next) is

  pub passed_some : (x : A) → (ok_or o e >>= next) ≡ Ok x → (y : X) × (o ≡ Some y) × (next y ≡ Ok x)
  passed_some x is = go o is
    where
      go : (o : Option X) → (ok_or o e >>= next) ≡ Ok x → (y : X) × (o ≡ Some y) × (next y ≡ Ok x)
      go None is = cc
      go (Some z) is = (z, refl, is)

  pub failed_some : (f : E) → (ok_or o e >>= next) ≡ Err f → (e ≡ f) ⊎ ((y : X) × (next y ≡ Err f))
  failed_some f is = go o is
    where
      go : (o : Option X) → (ok_or o e >>= next) ≡ Err f → (e ≡ f) ⊎ ((y : X) × (next y ≡ Err f))
      go None is = inl cc
      go (Some z) is = inr (z, is)
