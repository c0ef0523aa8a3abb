-- Lists whose names ascend: a record with a higher name goes to the end, and the members alone say the list.
use Rattle.std.proofs.Common.{◌≡◌, ℕ, zero, suc, ◌<◌, true, ltb, List, [], ◌∷◌, ◌++◌, Some, sym, refl, ap, ◌∙◌, ⊎_elim, arith}
use Rattle.std.specs.List.{slice_get}
use Rattle.std.proofs.lemmas.Bool.{and_parts, cond-true, lt-ltb, ltb-true}
use Rattle.records.specs.Named.{add, ascends}
use Rattle.jobs.specs.Jobs.{In}
use Rattle.promise.specs.Clean.{Distinct}
use Rattle.promise.proofs.Lists.{in_cases, in_nil, in_right, in_there}

module _ {X : Type 0} where
  -- a front has what the list has
  pub nth_left : (xs ys : List X) (i : ℕ) (x : X) → slice_get xs i ≡ Some x → slice_get (xs ++ ys) i ≡ Some x
  nth_left [] ys i x e = absurd (in_nil x (i, e))
  nth_left (z ∷ xs) ys zero x e = e
  nth_left (z ∷ xs) ys (suc i) x e = nth_left xs ys i x e

  -- so its names are distinct too
  pub distinct_left : (name : X → ℕ) (xs ys : List X) → Distinct name (xs ++ ys) → Distinct name xs
  distinct_left name xs ys d i j x y a b same = d i j x y (nth_left xs ys i x a) (nth_left xs ys j y b) same

module _ {X : Type 0} (name : X → ℕ) where
  -- all names are above the start
  pub ascends_above : (n : ℕ) (xs : List X) → ascends name n xs ≡ true → (y : X) → In y xs → n < name y
  ascends_above n [] e y k = absurd (in_nil y k)
  ascends_above n (x ∷ xs) e y k =
      let p = and_parts (ltb n (name x)) (ascends name (name x) xs) e in
      let first : n < name x = ltb-true n (name x) p.0 in
      ⊎_elim (λ same. let s : name y ≡ name x = ap name same in omega arith) (λ j. omega (arith, ascends_above (name x) xs p.1 y j)) (in_cases x y xs k)

  -- what stands before a record has lower names
  pub ascends_below : (n : ℕ) (xs : List X) (x : X) (ys : List X) → ascends name n (xs ++ x ∷ ys) ≡ true → (y : X) → In y xs → name y < name x
  ascends_below n [] x ys e y k = absurd (in_nil y k)
  ascends_below n (z ∷ xs) x ys e y k =
      let p = and_parts (ltb n (name z)) (ascends name (name z) (xs ++ x ∷ ys)) e in
      ⊎_elim
      (λ same. let s : name y ≡ name z = ap name same in omega (arith, ascends_above (name z) (xs ++ x ∷ ys) p.1 x (in_right x xs (x ∷ ys) (0, refl))))
      (λ j. ascends_below (name z) xs x ys p.1 y j)
      (in_cases z y xs k)

  -- a record above all others goes to the end
  pub add_last : (x : X) (xs : List X) → ((y : X) → In y xs → name y < name x) → add name x xs ≡ xs ++ x ∷ []
  add_last x [] below = refl
  add_last x (z ∷ xs) below =
      cond-true (ltb (name z) (name x)) (z ∷ add name x xs) (x ∷ z ∷ xs) (lt-ltb (name z) (name x) (below z (0, refl)))
      ∙ ap (λ l. z ∷ l) (add_last x xs (λ y k. below y (in_there z y xs k)))

  -- past a first that two lists share, what the one has the other has: the first has a lower name than the rest
  rest_in : (x y : X) (xs ys : List X) → x ≡ y → ascends name (name x) xs ≡ true → ((z : X) → In z (x ∷ xs) → In z (y ∷ ys)) → (z : X) → In z xs → In z ys
  rest_in x y xs ys same e to z k =
      ⊎_elim
      (λ is. let s : name z ≡ name x = ap name (is ∙ sym same) in absurd (omega (arith, ascends_above (name x) xs e z k)))
      (λ j. j)
      (in_cases y z ys (to z (in_there x z xs k)))

  -- lists whose names ascend and that have the same members are the same
  pub ascends_same : (m n : ℕ) (xs ys : List X) → ascends name m xs ≡ true → ascends name n ys ≡ true
      → ((z : X) → In z xs → In z ys) → ((z : X) → In z ys → In z xs) → xs ≡ ys
  ascends_same m n [] [] ex ey to from = refl
  ascends_same m n [] (y ∷ ys) ex ey to from = absurd (in_nil y (from y (0, refl)))
  ascends_same m n (x ∷ xs) [] ex ey to from = absurd (in_nil x (to x (0, refl)))
  ascends_same m n (x ∷ xs) (y ∷ ys) ex ey to from =
      let p = and_parts (ltb m (name x)) (ascends name (name x) xs) ex in
      let q = and_parts (ltb n (name y)) (ascends name (name y) ys) ey in
      let same : x ≡ y =
      ⊎_elim (λ e. e)
      (λ j. ⊎_elim (λ e. sym e)
      (λ k. absurd (omega (arith, ascends_above (name y) ys q.1 x j, ascends_above (name x) xs p.1 y k)))
      (in_cases x y xs (from y (0, refl))))
      (in_cases y x ys (to x (0, refl))) in
      ap (λ z. z ∷ xs) same
      ∙ ap (λ l. y ∷ l)
      (ascends_same (name x) (name y) xs ys p.1 q.1 (rest_in x y xs ys same p.1 to) (rest_in y x ys xs (sym same) q.1 from))
