-- The search for a route among the records, and what the found record answers.
use Rattle.std.proofs.Common.{◌≡◌, ℕ, zero, suc, ◌+◌, ◌<◌, Bool, true, false, cond, ◌&&◌, eqb, List, Some, None, Option, refl, add-zero, sym, ap, ◌∙◌, ⊎_elim, arith}
use Rattle.std.specs.Bool.{then_some}
use Rattle.std.specs.Option.{option_map}
use Rattle.std.proofs.lemmas.Bool.{lt-ltb, ne_eqb, eq-eqb, and_from, and_left, and_right, cases_eq, cond-true, cond-false}
use Rattle.records.specs.declared.record.Route.{Route}
use Rattle.listed.specs.Records.{route_count, route_at, route_links, pick, seek, listed_route}

-- the test of another pair fails
other_pair : (x y a b : ℕ) → (x ≡ a → y ≡ b → ⊥) → (eqb x a && eqb y b) ≡ false
other_pair x y a b other =
    ⊎_elim
    (λ (same : x ≡ a). and_right (eqb x a) (eqb y b) (ne_eqb y b (other same)))
    (λ (apart : x ≡ a → ⊥). and_left (eqb x a) (eqb y b) (ne_eqb x a apart))
    (cases_eq x a)

-- a record, if it goes from node a to node b
abbrev pub chosen : ℕ → ℕ → Option Route → Option Route
chosen a b None = None
chosen a b (Some r) = then_some (eqb r.from a && eqb r.to b) r

pub chosen_here : (a b : ℕ) (r : Route) → r.from ≡ a → r.to ≡ b → chosen a b (Some r) ≡ Some r
chosen_here a b r p q = ap (λ t. then_some t r) (and_from _ _ (eq-eqb _ _ p) (eq-eqb _ _ q))

pub chosen_other : (a b : ℕ) (r : Route) → (r.from ≡ a → r.to ≡ b → ⊥) → chosen a b (Some r) ≡ None
chosen_other a b r other = ap (λ t. then_some t r) (other_pair r.from r.to a b other)

pick_none : (a b : ℕ) (o : Option Route) (further : Option (List ℕ)) → chosen a b o ≡ None → pick o a b further ≡ further
pick_none a b None further e = refl
pick_none a b (Some r) further e = go (eqb r.from a && eqb r.to b) e where
  go : (t : Bool) → then_some t r ≡ None → cond t (Some (route_links r)) further ≡ further
  go false h = refl
  go true h = cc

pick_some : (a b : ℕ) (o : Option Route) (further : Option (List ℕ)) (y : Route) → chosen a b o ≡ Some y → pick o a b further ≡ Some (route_links y)
pick_some a b None further y e = cc
pick_some a b (Some r) further y e = go (eqb r.from a && eqb r.to b) e where
  go : (t : Bool) → then_some t r ≡ Some y → cond t (Some (route_links r)) further ≡ Some (route_links y)
  go false h = cc
  go true h = ap (option_map route_links) h

module _ (rs : List ℕ) (a b : ℕ) where
  -- the record at a place, if it is of the pair
  abbrev At : ℕ → Option Route
  At k = chosen a b (route_at rs k)

  -- no place has one
  pub seek_nothing : (k m : ℕ) → ((i : ℕ) → i < m → At (k + i) ≡ None) → seek rs a b k m ≡ None
  seek_nothing k zero none = refl
  seek_nothing k (suc m) none =
      pick_none a b (route_at rs k) (seek rs a b (k + 1) m) (ap At (sym (add-zero k)) ∙ none 0 (omega arith))
      ∙ seek_nothing (k + 1) m (λ i h. let e : k + 1 + i ≡ k + suc i = omega arith in ap At e ∙ none (suc i) (omega arith))

  -- the first place that has one
  pub seek_first : (k m i : ℕ) (y : Route) → i < m → At (k + i) ≡ Some y → ((j : ℕ) → j < i → At (k + j) ≡ None) → seek rs a b k m ≡ Some (route_links y)
  seek_first k zero i y h here none = absurd (omega arith)
  seek_first k (suc m) zero y h here none = pick_some a b (route_at rs k) (seek rs a b (k + 1) m) y (ap At (sym (add-zero k)) ∙ here)
  seek_first k (suc m) (suc i) y h here none =
      let e : k + 1 + i ≡ k + suc i = omega arith in
      pick_none a b (route_at rs k) (seek rs a b (k + 1) m) (ap At (sym (add-zero k)) ∙ none 0 (omega arith))
      ∙ seek_first (k + 1) m i y (omega arith) (ap At e ∙ here) (λ j l. let f : k + 1 + j ≡ k + suc j = omega arith in ap At f ∙ none (suc j) (omega arith))

-- the route between two different nodes is what the search finds
pub route_found : (n : ℕ) (rs : List ℕ) (a b : ℕ) (o : Option (List ℕ)) → a < n → b < n → (a ≡ b → ⊥) → o ≡ seek rs a b 0 (route_count rs) → listed_route n rs a b ≡ o
route_found n rs a b o ina inb apart found =
    cond-true _ _ _ (and_from _ _ (lt-ltb _ _ ina) (lt-ltb _ _ inb)) ∙ cond-false _ _ _ (ne_eqb a b apart) ∙ sym found
