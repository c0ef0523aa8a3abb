-- The link at each place of a route of the shuttle.
use Rattle.std.proofs.Common.{◌≡◌, ℕ, ◌+◌, ◌<◌, ◌≤◌, Bool, true, false, ltb, List, [], ◌∷◌, length, Some, None, refl, sym, ap, ◌∙◌, inl, inr, arith}
use Rattle.std.specs.Bool.{then_some}
use Rattle.std.specs.List.{range_with_len}
use Rattle.std.proofs.lemmas.Bool.{ltb-true, ltb-false}
use Rattle.std.proofs.lemmas.List.FromFn.{length-range_with_len, get_or-range_with_len}
use Rattle.std.proofs.lemmas.Option.{slice_get-get_or, slice_get_past}
use Rattle.fabric.specs.Network.{route_length, route_place}
use Rattle.fabric.proofs.Laws.{length_route}
use Rattle.shuttle.specs.Laws.{Route, routes}
use Rattle.shuttle.specs.Shuttle.{shuttle_route}

-- a route is the links from 0 up to its length
counted : (a b : ℕ) (r : List ℕ) → Route a b r → (n : ℕ) → length r ≡ n → r ≡ range_with_len 0 n
counted a b r (inl s) n e = sym s.none ∙ ap (range_with_len 0) (ap length s.none ∙ e)
counted a b r (inr (inl s)) n e = sym s.links ∙ ap (range_with_len 0) (ap length s.links ∙ e)
counted a b r (inr (inr s)) n e = sym s.links ∙ ap (range_with_len 0) (ap length s.links ∙ e)

module _ (a b n : ℕ) (e : Some n ≡ route_length (shuttle_route a b)) where
  route_is : shuttle_route a b ≡ Some (range_with_len 0 n)
  route_is = let r = length_route (shuttle_route a b) n e in r.1 ∙ ap Some (counted a b r.0 (routes a b r.0 r.1) n r.2)

  place_is : (i : ℕ) → i < n → Some i ≡ route_place (shuttle_route a b) i
  place_is i lt =
      let l : i < length (range_with_len 0 n) = omega (arith, length-range_with_len 0 n) in
      let same : 0 + i ≡ i = omega arith in
      sym (ap (λ o. route_place o i) route_is ∙ slice_get-get_or (range_with_len 0 n) i 0 l ∙ ap Some (get_or-range_with_len 0 n i 0 lt ∙ same))

  place_past : (i : ℕ) → n ≤ i → None ≡ route_place (shuttle_route a b) i
  place_past i le = sym (ap (λ o. route_place o i) route_is ∙ slice_get_past (range_with_len 0 n) i (omega (arith, length-range_with_len 0 n)))

  -- below the length the place is the link's number
  pub place_here : (i : ℕ) → then_some (ltb i n) i ≡ route_place (shuttle_route a b) i
  place_here i = go (ltb i n) refl
    where
      go : (t : Bool) → ltb i n ≡ t → then_some t i ≡ route_place (shuttle_route a b) i
      go true e = place_is i (ltb-true i n e)
      go false e = place_past i (ltb-false i n e)
