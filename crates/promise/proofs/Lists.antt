-- Members of lists, and lists of records whose names are distinct.
use Rattle.std.proofs.Common.{◌≡◌, ℕ, zero, suc, true, false, cond, eqb, ltb, ◌⊎◌, List, [], ◌∷◌, ◌++◌, map, is_some, Some, None, sym, refl, ap, ◌∙◌, inl, inr, ⊎_elim, arith}
use Rattle.std.specs.Option.{option_map}
use Rattle.std.proofs.lemmas.Bool.{cond_both, cond-true, cond-false, eq-eqb, eqb-false, eqb-true, ne_eqb, both_ways}
use Rattle.records.specs.Named.{named, index_of, add, without}
use Rattle.records.proofs.Places.{some_on}
use Rattle.jobs.specs.Jobs.{In}
use Rattle.promise.specs.Clean.{Distinct}

-- ---- members

module _ {X : Type 0} where
  pub in_here : (x y : X) (xs : List X) → y ≡ x → In y (x ∷ xs)
  in_here x y xs e = (0, ap Some (sym e))

  pub in_there : (x y : X) (xs : List X) → In y xs → In y (x ∷ xs)
  in_there x y xs (i, e) = (suc i, e)

  pub in_nil : (y : X) → In y [] → ⊥
  in_nil y (i, e) = cc

  -- a member is the first, or one of the rest
  pub in_cases : (x y : X) (xs : List X) → In y (x ∷ xs) → (y ≡ x) ⊎ In y xs
  in_cases x y xs (zero, e) = inl cc
  in_cases x y xs (suc i, e) = inr (i, e)

  pub in_left : (y : X) (xs ys : List X) → In y xs → In y (xs ++ ys)
  in_left y [] ys k = absurd (in_nil y k)
  in_left y (x ∷ xs) ys k =
      ⊎_elim (λ e. in_here x y (xs ++ ys) e) (λ j. in_there x y (xs ++ ys) (in_left y xs ys j)) (in_cases x y xs k)

  pub in_right : (y : X) (xs ys : List X) → In y ys → In y (xs ++ ys)
  in_right y [] ys k = k
  in_right y (x ∷ xs) ys k = in_there x y (xs ++ ys) (in_right y xs ys k)

  -- a member of two lists put together is one of the first or one of the second
  pub append_in : (y : X) (xs ys : List X) → In y (xs ++ ys) → In y xs ⊎ In y ys
  append_in y [] ys k = inr k
  append_in y (x ∷ xs) ys k =
      ⊎_elim (λ e. inl (in_here x y xs e))
      (λ j. ⊎_elim (λ a. inl (in_there x y xs a)) (λ b. inr b) (append_in y xs ys j))
      (in_cases x y (xs ++ ys) k)

module _ {X Y : Type 0} (f : X → Y) where
  pub in_map : (x : X) (xs : List X) → In x xs → In (f x) (map f xs)
  in_map x [] k = absurd (in_nil x k)
  in_map x (z ∷ xs) k =
      ⊎_elim (λ e. in_here (f z) (f x) (map f xs) (ap f e)) (λ j. in_there (f z) (f x) (map f xs) (in_map x xs j)) (in_cases z x xs k)

  -- a member of what a function makes of a list comes from a member
  pub map_in : (y : Y) (xs : List X) → In y (map f xs) → (x : X) × In x xs × (f x ≡ y)
  map_in y [] k = absurd (in_nil y k)
  map_in y (z ∷ xs) k =
      ⊎_elim (λ e. (z, (0, refl), sym e)) (λ j. later (map_in y xs j)) (in_cases (f z) y (map f xs) k)
    where
      later : (x : X) × In x xs × (f x ≡ y) → (x : X) × In x (z ∷ xs) × (f x ≡ y)
      later (x, a, e) = (x, in_there z x xs a, e)

-- ---- distinct names

module _ {X : Type 0} (name : X → ℕ) where
  -- the first has no name of the rest
  pub distinct_head : (x : X) (xs : List X) → Distinct name (x ∷ xs) → (y : X) → In y xs → name y ≡ name x → ⊥
  distinct_head x xs d y (i, e) same = let z : suc i ≡ 0 = d (suc i) 0 y x e refl same in omega arith

  pub distinct_tail : (x : X) (xs : List X) → Distinct name (x ∷ xs) → Distinct name xs
  distinct_tail x xs d i j a b ea eb same = let z : suc i ≡ suc j = d (suc i) (suc j) a b ea eb same in omega arith

  -- a first whose name is none of the rest
  pub distinct_cons : (x : X) (xs : List X) → ((y : X) → In y xs → name y ≡ name x → ⊥) → Distinct name xs → Distinct name (x ∷ xs)
  distinct_cons x xs apart d zero zero a b ea eb same = refl
  distinct_cons x xs apart d zero (suc j) a b ea eb same = absurd (apart b (j, eb) (let s : x ≡ a = cc in cc))
  distinct_cons x xs apart d (suc i) zero a b ea eb same = absurd (apart a (i, ea) (let s : x ≡ b = cc in cc))
  distinct_cons x xs apart d (suc i) (suc j) a b ea eb same = ap suc (d i j a b ea eb same)

  -- ---- the first record of a name

  -- what a name finds is a member that has it
  pub named_in : (n : ℕ) (x : X) (xs : List X) → named name n xs ≡ Some x → In x xs × (name x ≡ n)
  named_in n x [] e = cc
  named_in n x (y ∷ ys) e =
      cond_both (eqb (name y) n) (Some y) (named name n ys) (λ o. o ≡ Some x → In x (y ∷ ys) × (name x ≡ n))
      (λ t is. let same : x ≡ y = cc in (in_here y x ys same, ap name same ∙ eqb-true (name y) n t))
      (λ _ is. let k = named_in n x ys is in (in_there y x ys k.0, k.1))
      e

  -- a member is found by its name
  pub in_named : (x : X) (xs : List X) → Distinct name xs → In x xs → named name (name x) xs ≡ Some x
  in_named x [] d k = absurd (in_nil x k)
  in_named x (y ∷ ys) d k =
      ⊎_elim
      (λ e. cond-true (eqb (name y) (name x)) (Some y) (named name (name x) ys) (eq-eqb (name y) (name x) (ap name (sym e))) ∙ ap Some (sym e))
      (λ j. cond-false (eqb (name y) (name x)) (Some y) (named name (name x) ys) (ne_eqb (name y) (name x) (λ e. distinct_head y ys d x j (sym e)))
      ∙ in_named x ys (distinct_tail y ys d) j)
      (in_cases y x ys k)

  -- a name that is not there is no member's
  pub fresh_apart : (n : ℕ) (xs : List X) → is_some (index_of name n xs) ≡ false → (y : X) → In y xs → name y ≡ n → ⊥
  fresh_apart n [] e y k same = in_nil y k
  fresh_apart n (x ∷ xs) e y k same =
      cond_both (eqb (name x) n) (Some 0) (option_map suc (index_of name n xs)) (λ o. is_some o ≡ false → ⊥)
      (λ _ is. both_ways true is refl)
      (λ t is. ⊎_elim (λ s. eqb-false (name x) n t (ap name (sym s) ∙ same))
      (λ j. fresh_apart n xs (sym (some_on (index_of name n xs)) ∙ is) y j same)
      (in_cases x y xs k))
      e

  -- a name of no member finds nothing
  pub apart_none : (n : ℕ) (xs : List X) → ((y : X) → In y xs → name y ≡ n → ⊥) → named name n xs ≡ None
  apart_none n [] apart = refl
  apart_none n (x ∷ xs) apart =
      cond-false (eqb (name x) n) (Some x) (named name n xs) (ne_eqb (name x) n (apart x (0, refl)))
      ∙ apart_none n xs (λ y k. apart y (in_there x y xs k))

  -- ---- one record more

  -- a member of the list with one more is that one, or was a member
  pub in_add : (x y : X) (xs : List X) → In y (add name x xs) → (y ≡ x) ⊎ In y xs
  in_add x y [] k = in_cases x y [] k
  in_add x y (z ∷ zs) k =
      cond_both (ltb (name z) (name x)) (z ∷ add name x zs) (x ∷ z ∷ zs) (λ l. In y l → (y ≡ x) ⊎ In y (z ∷ zs))
      (λ _ j. ⊎_elim (λ e. inr (in_here z y zs e))
      (λ a. ⊎_elim (λ e. inl e) (λ b. inr (in_there z y zs b)) (in_add x y zs a))
      (in_cases z y (add name x zs) j))
      (λ _ j. in_cases x y (z ∷ zs) j)
      k

  pub add_new : (x : X) (xs : List X) → In x (add name x xs)
  add_new x [] = (0, refl)
  add_new x (z ∷ zs) =
      cond_both (ltb (name z) (name x)) (z ∷ add name x zs) (x ∷ z ∷ zs) (λ l. In x l) (λ _. in_there z x (add name x zs) (add_new x zs)) (λ _. (0, refl))

  pub add_old : (x y : X) (xs : List X) → In y xs → In y (add name x xs)
  add_old x y [] k = absurd (in_nil y k)
  add_old x y (z ∷ zs) k =
      cond_both (ltb (name z) (name x)) (z ∷ add name x zs) (x ∷ z ∷ zs) (λ l. In y l)
      (λ _. ⊎_elim (λ e. in_here z y (add name x zs) e) (λ j. in_there z y (add name x zs) (add_old x y zs j)) (in_cases z y zs k))
      (λ _. in_there x y (z ∷ zs) k)

  -- names stay distinct with a record whose name is no member's
  pub distinct_add_apart : (x : X) (xs : List X) → Distinct name xs → ((y : X) → In y xs → name y ≡ name x → ⊥) → Distinct name (add name x xs)
  distinct_add_apart x [] d apart = distinct_cons x [] apart d
  distinct_add_apart x (z ∷ zs) d apart =
      cond_both (ltb (name z) (name x)) (z ∷ add name x zs) (x ∷ z ∷ zs) (λ l. Distinct name l)
      (λ _. distinct_cons z (add name x zs)
      (λ y k e. ⊎_elim (λ s. apart z (0, refl) (sym e ∙ ap name s)) (λ j. distinct_head z zs d y j e) (in_add x y zs k))
      (distinct_add_apart x zs (distinct_tail z zs d) (λ y k. apart y (in_there z y zs k))))
      (λ _. distinct_cons x (z ∷ zs) apart d)

  -- other names find what they found
  pub named_add_other : (n : ℕ) (x : X) (xs : List X) → (name x ≡ n → ⊥) → named name n (add name x xs) ≡ named name n xs
  named_add_other n x [] ne = cond-false (eqb (name x) n) (Some x) None (ne_eqb (name x) n ne)
  named_add_other n x (z ∷ zs) ne =
      cond_both (ltb (name z) (name x)) (z ∷ add name x zs) (x ∷ z ∷ zs) (λ l. named name n l ≡ named name n (z ∷ zs))
      (λ _. ap (λ o. cond (eqb (name z) n) (Some z) o) (named_add_other n x zs ne))
      (λ _. cond-false (eqb (name x) n) (Some x) (named name n (z ∷ zs)) (ne_eqb (name x) n ne))

  -- ---- one record less

  pub without_in : (n : ℕ) (y : X) (xs : List X) → In y (without name n xs) → In y xs
  without_in n y [] k = k
  without_in n y (x ∷ xs) k =
      cond_both (eqb (name x) n) xs (x ∷ without name n xs) (λ l. In y l → In y (x ∷ xs))
      (λ _ j. in_there x y xs j)
      (λ _ j. ⊎_elim (λ e. in_here x y xs e) (λ a. in_there x y xs (without_in n y xs a)) (in_cases x y (without name n xs) j))
      k

  -- the name that went out is no member's
  pub without_apart : (n : ℕ) (y : X) (xs : List X) → Distinct name xs → In y (without name n xs) → name y ≡ n → ⊥
  without_apart n y [] d k same = in_nil y k
  without_apart n y (x ∷ xs) d k same =
      cond_both (eqb (name x) n) xs (x ∷ without name n xs) (λ l. In y l → ⊥)
      (λ t j. distinct_head x xs d y j (same ∙ sym (eqb-true (name x) n t)))
      (λ t j. ⊎_elim (λ e. eqb-false (name x) n t (ap name (sym e) ∙ same)) (λ a. without_apart n y xs (distinct_tail x xs d) a same) (in_cases x y (without name n xs) j))
      k

  pub in_without : (n : ℕ) (y : X) (xs : List X) → Distinct name xs → In y (without name n xs) → In y xs × (name y ≡ n → ⊥)
  in_without n y xs d k = (without_in n y xs k, without_apart n y xs d k)

  -- members of other names stay
  pub without_old : (n : ℕ) (y : X) (xs : List X) → In y xs → (name y ≡ n → ⊥) → In y (without name n xs)
  without_old n y [] k ne = k
  without_old n y (x ∷ xs) k ne =
      cond_both (eqb (name x) n) xs (x ∷ without name n xs) (λ l. In y l)
      (λ t. ⊎_elim (λ e. absurd (ne (ap name e ∙ eqb-true (name x) n t))) (λ j. j) (in_cases x y xs k))
      (λ _. ⊎_elim (λ e. in_here x y (without name n xs) e) (λ j. in_there x y (without name n xs) (without_old n y xs j ne)) (in_cases x y xs k))

  -- names stay distinct
  pub distinct_without : (n : ℕ) (xs : List X) → Distinct name xs → Distinct name (without name n xs)
  distinct_without n [] d = d
  distinct_without n (x ∷ xs) d =
      cond_both (eqb (name x) n) xs (x ∷ without name n xs) (λ l. Distinct name l)
      (λ _. distinct_tail x xs d)
      (λ _. distinct_cons x (without name n xs) (λ y k. distinct_head x xs d y (without_in n y xs k)) (distinct_without n xs (distinct_tail x xs d)))

  -- other names find what they found
  pub named_without_other : (m n : ℕ) (xs : List X) → (m ≡ n → ⊥) → named name n (without name m xs) ≡ named name n xs
  named_without_other m n [] ne = refl
  named_without_other m n (x ∷ xs) ne =
      cond_both (eqb (name x) m) xs (x ∷ without name m xs) (λ l. named name n l ≡ named name n (x ∷ xs))
      (λ t. sym (cond-false (eqb (name x) n) (Some x) (named name n xs) (ne_eqb (name x) n (λ e. ne (sym (eqb-true (name x) m t) ∙ e)))))
      (λ _. ap (λ o. cond (eqb (name x) n) (Some x) o) (named_without_other m n xs ne))
