-- What `find_map` over a slice answers, where the closure computes a function of each item.
use Rattle.std.proofs.Common.{◌≡◌, ℕ, zero, suc, ◌+◌, ◌<◌, List, [], ◌∷◌, length, get_or, map, Some, None, Option, sym, refl, ap, ◌∙◌, subst, arith}
use denote.Param.Members.{Mut}
use Rattle.std.specs.Bool.{IsTrue}
use Rattle.std.specs.Fn.{Called}
use Rattle.std.specs.Option.{IsSomeAnd, MatchOption, option_map, option_or}
use Rattle.std.specs.Iterator.Runs.{AllItemsGive, CallKeepsClosure, EveryRun, IsFirstToGive, ItemsMapTo, SomeRun}
use Rattle.jobs.specs.Holding.{first_some}

module _ {X Y : Type 0} (h : X → Option Y) where
  -- no item has an answer
  none_answers : (xs : List X) → ((k : ℕ) (d : X) → k < length xs → h (get_or xs k d) ≡ None) → first_some h xs ≡ None
  none_answers [] none = refl
  none_answers (x ∷ xs) none =
      ap (λ o. option_or o (first_some h xs)) (none 0 x (omega arith)) ∙ none_answers xs (λ k d l. none (suc k) d (omega arith))

  -- the item at a place has one, and none before it
  first_answers : (y : Y) (xs : List X) (i : ℕ) → i < length xs → ((d : X) → h (get_or xs i d) ≡ Some y) → ((k : ℕ) (d : X) → k < i → h (get_or xs k d) ≡ None) → first_some h xs ≡ Some y
  first_answers y [] i l here before = absurd (omega arith)
  first_answers y (x ∷ xs) zero l here before = ap (λ o. option_or o (first_some h xs)) (here x)
  first_answers y (x ∷ xs) (suc i) l here before =
      ap (λ o. option_or o (first_some h xs)) (before 0 x (omega arith))
      ∙ first_answers y xs i (omega arith) here (λ k d m. before (suc k) d (omega arith))

  -- the first answer in a list that was made of another
  pub first_some_map : {W : Type 0} (g : W → X) (ws : List W) → first_some h (map g ws) ≡ first_some (λ w. h (g w)) ws
  first_some_map g [] = refl
  first_some_map g (w ∷ ws) = ap (option_or (h (g w))) (first_some_map g ws)

module _ {A B R F : Type 0} (v : A → B) (g : Mut F (A × Unit {0}) (Option R)) (f : F) (h : B → Option R)
    (calls : (x : A) (y : Option R) (q : F) → Called g f (x, tt) y q → (q ≡ f) × (y ≡ h (v x))) where
  keeps : CallKeepsClosure g f
  keeps a r q c = (calls a.0 r q c).0

  -- an item that a run read, and what the call at it answered
  answer_at : (o : Option A) (b : B) (y : Option R) → option_map v o ≡ Some b → IsSomeAnd o (λ x. Called g f (x, tt) y f) → h b ≡ y
  answer_at None b y read call = absurd call
  answer_at (Some x) b y read call =
      let same : v x ≡ b = cc in
      subst (λ (z : B). h z ≡ y) same (sym (calls x y f call).1)

  given : (o : Option A) (b : B) → option_map v o ≡ Some b → MatchOption o (Unit {0}) (λ x. Called g f (x, tt) None f) → IsSomeAnd o (λ x. Called g f (x, tt) None f)
  given None b read call = cc
  given (Some x) b read call = call

  -- `find_map` answers what the first item with an answer has
  pub found_is : {S : Type 0} {steps : S → Option A → S → Type 0} (rest : S → List B) (s : S) (xs : List B) (r : Option R) → EveryRun steps (λ p. ItemsMapTo p v (rest p.from)) → rest s ≡ xs
      → SomeRun steps s (λ p. MatchOption r (IsTrue p.whole × AllItemsGive p g f None) (λ y. (i : ℕ) × (i < p.len) × (p.len ≡ i + 1) × IsFirstToGive p g f (Some y) None i))
      → r ≡ first_some h xs
  found_is rest s xs None reads is (p, from, all) =
      let m = reads p p.seen in
      let here : rest p.from ≡ xs = ap rest from ∙ is in
      let none : (k : ℕ) (d : B) → k < length (rest p.from) → h (get_or (rest p.from) k d) ≡ None =
      λ k d l. (let read = m.2 k d (omega (arith, m.1 all.0)) in answer_at (p.at k) _ None read (given (p.at k) _ read (all.1 keeps k))) in
      sym (subst (λ (zs : List B). first_some h zs ≡ None) here (none_answers h (rest p.from) none))
  found_is rest s xs (Some y) reads is (p, from, first) =
      let m = reads p p.seen in
      let here : rest p.from ≡ xs = ap rest from ∙ is in
      let i = first.0 in
      let called = first.3 keeps in
      sym (subst (λ (zs : List B). first_some h zs ≡ Some y) here
      (first_answers h y (rest p.from) i (omega (arith, m.0, first.1))
      (λ d. answer_at (p.at i) _ (Some y) (m.2 i d first.1) called.0)
      (λ k d e. answer_at (p.at k) _ None (m.2 k d (omega (arith, first.1))) (called.1 k e))))
