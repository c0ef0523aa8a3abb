-- Rule. Lists of what has names, by a function to the name.
--   named, index_of   the first of a name, and where it stands
--   add               the list with one more, where its name goes
--   without           the list without the first of a name
--   ascends           the names ascend
use Rattle.std.specs.Prelude.{ℕ, suc, Bool, true, cond, ◌&&◌, List, [], ◌∷◌, Some, None, Option, ◌==◌, nat_lt}
use Rattle.std.specs.List.{find}
use Rattle.std.specs.Option.{option_map}

-- the first of the name n
abbrev pub named : {X : Type 0} → (X → ℕ) → ℕ → List X → Option X
named f n = find (λ x. f x == n)

-- where the first of the name n stands
abbrev pub index_of : {X : Type 0} → (X → ℕ) → ℕ → List X → Option ℕ
index_of f n [] = None
index_of f n (x ∷ xs) = cond (f x == n) (Some 0) (option_map suc (index_of f n xs))

-- one more, before the first whose name is not below its own
abbrev pub add : {X : Type 0} → (X → ℕ) → X → List X → List X
add f x [] = x ∷ []
add f x (y ∷ ys) = cond (nat_lt (f y) (f x)) (y ∷ add f x ys) (x ∷ y ∷ ys)

-- without the first of the name n
abbrev pub without : {X : Type 0} → (X → ℕ) → ℕ → List X → List X
without f n [] = []
without f n (x ∷ xs) = cond (f x == n) xs (x ∷ without f n xs)

-- the names ascend, the first above n
abbrev pub ascends : {X : Type 0} → (X → ℕ) → ℕ → List X → Bool
ascends f n [] = true
ascends f n (x ∷ xs) = nat_lt n (f x) && ascends f (f x) xs
