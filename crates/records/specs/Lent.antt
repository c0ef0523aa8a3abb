-- Rule. What an answer gives that holds lent bytes, seen as lists.
use Rattle.std.specs.Prelude.{◌≡◌, Ok, Err, Result, MatchResult}

-- it is what is read, by a view of its value, or the fault
abbrev pub Gives : {X Y E : Type 0} → (X → Y) → Result X E → Result Y E → Type 0
Gives view answer read = MatchResult answer (λ x. read ≡ Ok (view x)) (λ e. read ≡ Err e)
