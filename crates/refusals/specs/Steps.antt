-- Rule. One step after the other, up to the first fault: what `do` stands for here and above.
use Rattle.std.specs.Prelude.{Ok, Err, Result}

-- what follows where the step before has no fault
infixl 10 ◌>>=◌
abbrev pub ◌>>=◌ : {A B E : Type 0} → Result A E → (A → Result B E) → Result B E
(Ok x) >>= f = f x
(Err e) >>= f = Err e

-- a fault of a part, as a fault of the whole
abbrev pub within : {A E G : Type 0} → (E → G) → Result A E → Result A G
within f (Ok x) = Ok x
within f (Err e) = Err (f e)
