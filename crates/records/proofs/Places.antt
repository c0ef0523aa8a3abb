-- Where a name stands in a list of what has names.
use Rattle.std.proofs.Common.{◌≡◌, ℕ, suc, ◌+◌, ◌<◌, ◌≤◌, Bool, true, false, not, cond, ◌&&◌, eqb, ltb, List, [], ◌∷◌, length, get_or, take, is_some, Some, None, Option, sym, refl, ap, ◌∙◌, subst, arith}
use Rattle.std.proofs.Math.Numerals.{one-add}
use Prim.Native.Nat.compare
use Rattle.std.specs.Option.{option_map}
use Rattle.std.specs.List.{insert, position, position_or_len, prefix_len, remove}
use Rattle.std.proofs.lemmas.List.{length-take-le}
use Rattle.std.proofs.lemmas.List.Sums.{prefix_len-le-length}
use Rattle.std.proofs.lemmas.Bool.{cond-true, cond-false, cond_both, lt-ltb, ltb-true, ltb-false, eqb-false, and_parts, and_from}
use Rattle.records.specs.Named.{named, index_of, add, without, ascends}

-- a test for a place, one further on
further : (b : Bool) (k : ℕ) → option_map suc (cond b (Some k) None) ≡ cond b (Some (suc k)) None
further true k = refl
further false k = refl

module _ {X : Type 0} (f : X → ℕ) (n : ℕ) where
  -- the first of a name stands at the first place that has it
  pub index_is : (xs : List X) → index_of f n xs ≡ position (λ x. eqb (f x) n) xs
  index_is [] = refl
  index_is (x ∷ xs) =
      let at = position_or_len (λ y. eqb (f y) n) xs in
      let e : ltb (suc at) (suc (length xs)) ≡ ltb at (length xs) = simp compare.suc-suc in
      elim (eqb (f x) n) as (λ b. cond b (Some 0) (option_map suc (index_of f n xs)) ≡ cond (ltb (cond (not b) (1 + at) 0) (suc (length xs))) (Some (cond (not b) (1 + at) 0)) None)
      [ true ↦ sym (cond-true (ltb 0 (suc (length xs))) (Some 0) None (lt-ltb 0 (suc (length xs)) (omega arith))) | false ↦ rw (one-add, e) (ap (option_map suc) (index_is xs) ∙ further (ltb at (length xs)) at) ]

-- it is found either way
pub some_on : (o : Option ℕ) → is_some (option_map suc o) ≡ is_some o
some_on None = refl
some_on (Some k) = refl

pub index_named : {X : Type 0} (f : X → ℕ) (n : ℕ) (xs : List X) → is_some (index_of f n xs) ≡ is_some (named f n xs)
index_named f n [] = refl
index_named f n (x ∷ xs) =
    elim (eqb (f x) n) as (λ b. is_some (cond b (Some 0) (option_map suc (index_of f n xs))) ≡ is_some (cond b (Some x) (named f n xs)))
    [ true ↦ refl | false ↦ some_on (index_of f n xs) ∙ index_named f n xs ]

-- a place one further on comes from a place
step : (o : Option ℕ) (i : ℕ) → option_map suc o ≡ Some i → (k : ℕ) × (o ≡ Some k) × (i ≡ suc k)
step None i e = cc
step (Some k) i e = (k, refl, cc)

-- no place at all: not here, and not further on
apart : (b : Bool) (o : Option ℕ) → cond b (Some 0) (option_map suc o) ≡ None → (b ≡ false) × (o ≡ None)
apart true o e = cc
apart false None e = (refl, refl)
apart false (Some k) e = cc

-- not found at all: not this one, and none of the rest
missed : {X : Type 0} (b : Bool) (x : X) (o : Option X) → cond b (Some x) o ≡ None → (b ≡ false) × (o ≡ None)
missed true x o e = cc
missed false x o e = (refl, e)

above : (a b : ℕ) → b ≤ a → (a ≡ b → ⊥) → b < a
above a b h ne = omega arith

module _ {X : Type 0} (f : X → ℕ) where
  -- to put one in past those below its name is to add it
  pub add_is : (x : X) (xs : List X) → insert xs (prefix_len (λ y. ltb (f y) (f x)) xs) x ≡ add f x xs
  add_is x [] = refl
  add_is x (y ∷ ys) =
      elim (ltb (f y) (f x)) as (λ b. insert (y ∷ ys) (cond b (1 + prefix_len (λ z. ltb (f z) (f x)) ys) 0) x ≡ cond b (y ∷ add f x ys) (x ∷ y ∷ ys))
      [ true ↦ rw one-add (ap (λ l. y ∷ l) (add_is x ys)) | false ↦ refl ]

  -- what stands at the index is the first of the name
  pub named_at : (n : ℕ) (xs : List X) (i : ℕ) (d : X) → index_of f n xs ≡ Some i → named f n xs ≡ Some (get_or xs i d)
  named_at n [] i d e = cc
  named_at n (x ∷ xs) i d e =
      (elim (eqb (f x) n) as (λ b. cond b (Some 0) (option_map suc (index_of f n xs)) ≡ Some i → cond b (Some x) (named f n xs) ≡ Some (get_or (x ∷ xs) i d)) [
        | true ↦ λ z. let j : 0 ≡ i = cc in subst (λ k. Some x ≡ Some (get_or (x ∷ xs) k d)) j refl
        | false ↦ λ z. let (k, at, is) = step (index_of f n xs) i z in
            subst (λ m. named f n xs ≡ Some (get_or (x ∷ xs) m d)) (sym is) (named_at n xs k d at)
      ]) e

  -- without an index nothing has the name
  pub named_none : (n : ℕ) (xs : List X) → index_of f n xs ≡ None → named f n xs ≡ None
  named_none n [] e = refl
  named_none n (x ∷ xs) e =
      let p = apart (eqb (f x) n) (index_of f n xs) e in
      cond-false (eqb (f x) n) (Some x) (named f n xs) p.0 ∙ named_none n xs p.1

  -- an index is within, and to take it out is to leave its name out
  pub index_within : (n : ℕ) (xs : List X) (i : ℕ) → index_of f n xs ≡ Some i → (i < length xs) × (remove xs i ≡ without f n xs)
  index_within n [] i e = cc
  index_within n (x ∷ xs) i e =
      (elim (eqb (f x) n) as (λ b. cond b (Some 0) (option_map suc (index_of f n xs)) ≡ Some i → (i < suc (length xs)) × (remove (x ∷ xs) i ≡ cond b xs (x ∷ without f n xs))) [
        | true ↦ λ z. let j : 0 ≡ i = cc in (omega arith, subst (λ k. remove (x ∷ xs) k ≡ xs) j refl)
        | false ↦ λ z. let (k, at, is) = step (index_of f n xs) i z in
            let h = index_within n xs k at in
            (omega arith, subst (λ m. remove (x ∷ xs) m ≡ x ∷ without f n xs) (sym is) (ap (λ l. x ∷ l) h.1))
      ]) e

  -- one more
  pub length_add : (x : X) (xs : List X) → length (add f x xs) ≡ suc (length xs)
  length_add x [] = refl
  length_add x (y ∷ ys) =
      cond_both (ltb (f y) (f x)) (y ∷ add f x ys) (x ∷ y ∷ ys) (λ l. length l ≡ suc (suc (length ys))) (λ _. ap suc (length_add x ys)) (λ _. refl)

  -- a list is the same without a name that it has not
  pub without_none : (n : ℕ) (xs : List X) → named f n xs ≡ None → without f n xs ≡ xs
  without_none n [] e = refl
  without_none n (x ∷ xs) e =
      let p = missed (eqb (f x) n) x (named f n xs) e in
      cond-false (eqb (f x) n) xs (x ∷ without f n xs) p.0 ∙ ap (λ l. x ∷ l) (without_none n xs p.1)

  -- a smaller start leaves names ascending
  pub ascends_from : (m n : ℕ) (xs : List X) → m ≤ n → ascends f n xs ≡ true → ascends f m xs ≡ true
  ascends_from m n [] h e = refl
  ascends_from m n (x ∷ xs) h e =
      let p = and_parts (ltb n (f x)) (ascends f (f x) xs) e in
      and_from (ltb m (f x)) (ascends f (f x) xs) (lt-ltb m (f x) (omega (arith, ltb-true n (f x) p.0))) p.1

  -- names ascend without one of them
  pub ascends_without : (m n : ℕ) (xs : List X) → ascends f m xs ≡ true → ascends f m (without f n xs) ≡ true
  ascends_without m n [] e = refl
  ascends_without m n (x ∷ xs) e =
      let p = and_parts (ltb m (f x)) (ascends f (f x) xs) e in
      cond_both (eqb (f x) n) xs (x ∷ without f n xs) (λ l. ascends f m l ≡ true)
      (λ _. ascends_from m (f x) xs (omega (arith, ltb-true m (f x) p.0)) p.1)
      (λ _. and_from (ltb m (f x)) (ascends f (f x) (without f n xs)) p.0 (ascends_without (f x) n xs p.1))

  -- names ascend with a new one in its place
  pub ascends_add : (m : ℕ) (x : X) (xs : List X) → m < f x → index_of f (f x) xs ≡ None → ascends f m xs ≡ true → ascends f m (add f x xs) ≡ true
  ascends_add m x [] h fresh e = and_from (ltb m (f x)) true (lt-ltb m (f x) h) refl
  ascends_add m x (y ∷ ys) h fresh e =
      let p = and_parts (ltb m (f y)) (ascends f (f y) ys) e in
      let q = apart (eqb (f y) (f x)) (index_of f (f x) ys) fresh in
      cond_both (ltb (f y) (f x)) (y ∷ add f x ys) (x ∷ y ∷ ys) (λ l. ascends f m l ≡ true)
      (λ t. and_from (ltb m (f y)) (ascends f (f y) (add f x ys)) p.0 (ascends_add (f y) x ys (ltb-true (f y) (f x) t) q.1 p.1))
      (λ t. and_from (ltb m (f x)) (ltb (f x) (f y) && ascends f (f y) ys) (lt-ltb m (f x) h)
      (and_from (ltb (f x) (f y)) (ascends f (f y) ys) (lt-ltb (f x) (f y) (above (f y) (f x) (ltb-false (f y) (f x) t) (eqb-false (f y) (f x) q.0))) p.1))

  -- among the first k at most k are below a name
  pub below_held : (n k : ℕ) (xs : List X) (p : ℕ) → k ≤ length xs → p ≡ prefix_len (λ x. ltb (f x) n) (take k xs) → p ≤ k
  below_held n k xs p h at = omega (arith, prefix_len-le-length (λ x. ltb (f x) n) (take k xs), length-take-le k xs h)
