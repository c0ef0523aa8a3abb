-- What the laws of a fabric give of its answers, for code over any fabric.
-- An answer comes as the questions' contracts give it: `Some k ≡ route_length o`, `Some x ≡ route_place o i`, `None ≡ ..`.
use Rattle.std.proofs.Common.{◌≡◌, ℕ, zero, suc, ◌+◌, ◌<◌, ◌≤◌, List, [], ◌∷◌, length, get_or, drop, Some, None, Option, refl, ap, ◌∙◌, ⊎_elim, arith}
use Rattle.std.specs.List.{slice_get}
use Rattle.std.proofs.lemmas.List.{drop_more}
use Rattle.std.proofs.lemmas.Option.{slice_get-get_or, slice_get_past}
use Rattle.std.proofs.lemmas.Bool.{cases_lt}
use Rattle.fabric.specs.Network.{Network, Lawful, Chain, route_length, route_place}

-- an answered length is that of a route
pub length_route : (o : Option (List ℕ)) (k : ℕ) → Some k ≡ route_length o → (r : List ℕ) × (o ≡ Some r) × (length r ≡ k)
length_route None k is = cc
length_route (Some r) k is = (r, refl, cc)

-- the link that is answered at a place stands there
place_at : (r : List ℕ) (i x : ℕ) → Some x ≡ slice_get r i → (i < length r) × ((d : ℕ) → get_or r i d ≡ x)
place_at r i x is =
    ⊎_elim
    (λ lt. (lt, λ d. let s : Some x ≡ Some (get_or r i d) = is ∙ slice_get-get_or r i d lt in cc))
    (λ le. let n : Some x ≡ None = is ∙ slice_get_past r i le in cc)
    (cases_lt i (length r))

-- an answered link stands in a route, at that place
pub place_route : (o : Option (List ℕ)) (i x : ℕ) → Some x ≡ route_place o i → (r : List ℕ) × (o ≡ Some r) × (i < length r) × ((d : ℕ) → get_or r i d ≡ x)
place_route None i x is = cc
place_route (Some r) i x is = let p = place_at r i x is in (r, refl, p.0, p.1)

-- where no link is answered the route has ended
pub no_place : (r : List ℕ) (i : ℕ) → None ≡ route_place (Some r) i → length r ≤ i
no_place r i is =
    ⊎_elim
    (λ lt. let s : None ≡ Some (get_or r i 0) = is ∙ slice_get-get_or r i 0 lt in cc)
    (λ le. le)
    (cases_lt i (length r))

-- the links of a route from place i on, none without a route: what a loop over the places has yet to see
abbrev pub rest : Option (List ℕ) → ℕ → List ℕ
rest None i = []
rest (Some r) i = drop i r

-- a link that is answered is the first of what is left
pub rest_more : (o : Option (List ℕ)) (i x : ℕ) → Some x ≡ route_place o i → rest o i ≡ x ∷ rest o (i + 1)
rest_more None i x is = cc
rest_more (Some r) i x is =
    let p = place_at r i x is in
    drop_more r i 0 p.0 ∙ ap (λ y. y ∷ drop (i + 1) r) (p.1 0)

-- each link of a chain has its two nodes
chain_link : (link : ℕ → Option (ℕ × ℕ)) (a b : ℕ) (r : List ℕ) → Chain link a r b → (i d : ℕ) → i < length r → (p : ℕ × ℕ) × (link (get_or r i d) ≡ Some p)
chain_link link a b [] h i d lt = absurd (omega arith)
chain_link link a b (l ∷ ls) (m, e, h) zero d lt = ((a, m), e)
chain_link link a b (l ∷ ls) (m, e, h) (suc i) d lt = chain_link link m b ls h i d (omega arith)

-- the bounds that the laws give, for the route from node a to node b; the hop delay's is `low_delay` itself
module _ {longest : ℕ} {n : Network} (laws : Lawful longest n) (a b : ℕ) where
  -- an answered length is within the kind's longest
  pub answer_short : (k : ℕ) → Some k ≡ route_length (n.route a b) → k ≤ longest
  answer_short k is = let p = length_route (n.route a b) k is in omega (arith, laws.short a b p.0 p.1, p.2)

  -- and so at most 64
  pub answer_64 : longest ≤ 64 → (k : ℕ) → Some k ≡ route_length (n.route a b) → k ≤ 64
  answer_64 bounded k is = omega (arith, answer_short k is)

  -- each link of a route is one of the fabric's link numbers
  pub link_below : (r : List ℕ) → n.route a b ≡ Some r → (i d : ℕ) → i < length r → get_or r i d < n.links
  link_below r e i d lt =
      let l = chain_link n.link a b r (laws.chain a b r e) i d lt in
      (laws.ends (get_or r i d) l.0.0 l.0.1 l.1).0

  -- the same of a link that a place answers
  pub place_link : (i x : ℕ) → Some x ≡ route_place (n.route a b) i → x < n.links
  place_link i x is =
      let p = place_route (n.route a b) i x is in
      omega (arith, link_below p.0 p.1 i 0 p.2, p.3 0)

  -- so it is below 256
  pub place_256 : (i x : ℕ) → Some x ≡ route_place (n.route a b) i → x < 256
  place_256 i x is = omega (arith, place_link i x is, laws.few_links)
