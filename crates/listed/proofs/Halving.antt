-- Halving the places where a pair's record may stand, among records that ascend.
use Rattle.std.proofs.Common.{◌≡◌, ℕ, ◌+◌, ◌<◌, ◌≤◌, List, Some, None, Less, Equal, Greater, Ordering, nat_cmp, sym, refl, ap, ◌∙◌, subst, ◌⊎◌, inl, inr, ⊎_elim, arith}
use Rattle.std.proofs.lemmas.Bool.{cases_lt}
use Rattle.std.proofs.lemmas.Cmp.{ranked}
use Rattle.std.specs.Ordering.{MatchOrdering, ordering_then}
use Rattle.records.specs.declared.record.Route.{Route}
use Rattle.listed.specs.declared.Listed.{Listed}
use Rattle.listed.specs.Records.{route_count, route_at, route_links, seek}
use Rattle.listed.proofs.Pairs.{Below, Before, below_more, below_apart, ends, at_place, ordered, seek_absent, seek_found}

-- what comparing two pairs of numbers says of them
pub pair_ranked : (p q : ℕ × ℕ) (o : Ordering) → o ≡ ordering_then (nat_cmp p.0 q.0) (nat_cmp p.1 q.1) → MatchOrdering o (Below p q) ((p.0 ≡ q.0) × (p.1 ≡ q.1)) (Below q p)
pair_ranked p q o e =
    subst (λ x. MatchOrdering x (Below p q) ((p.0 ≡ q.0) × (p.1 ≡ q.1)) (Below q p)) (sym e)
    (both (nat_cmp p.0 q.0) (nat_cmp p.1 q.1) (ranked p.0 q.0 _ refl) (ranked p.1 q.1 _ refl)) where
      both : (s t : Ordering) → MatchOrdering s (p.0 < q.0) (p.0 ≡ q.0) (q.0 < p.0) → MatchOrdering t (p.1 < q.1) (p.1 ≡ q.1) (q.1 < p.1) → MatchOrdering (ordering_then s t) (Below p q) ((p.0 ≡ q.0) × (p.1 ≡ q.1)) (Below q p)
      both Less t h i = inl h
      both Equal Less h i = inr (h, i)
      both Equal Equal h i = (h, i)
      both Equal Greater h i = inr (sym h, i)
      both Greater t h i = inl h

-- if a record of the pair a, b stands anywhere, then from place low on and before place high
pub record Inside (rs : List ℕ) (a b low high : ℕ) : Type 0 where
  pub counted : high ≤ route_count rs
  pub only : (k : ℕ) (q : Route) → k < route_count rs → route_at rs k ≡ Some q → q.from ≡ a → q.to ≡ b → (low ≤ k) × (k < high)

-- at first that is every place
pub inside_all : (rs : List ℕ) (a b low high : ℕ) → low ≡ 0 → high ≡ route_count rs → Inside rs a b low high
inside_all rs a b low high z e = record { counted = omega (arith, e); only = λ k q h here f t. (omega (arith, z), omega (arith, e)) }

module _ (s : Listed) (a b low high : ℕ) (inside : Inside s.routes.bytes.now a b low high) where
  abbrev rs : List ℕ
  rs = s.routes.bytes.now

  -- of two places in order, the records are in order or one record
  placed : (j k : ℕ) (q r : Route) → j ≤ k → k < route_count rs → route_at rs j ≡ Some q → route_at rs k ≡ Some r → Before q r ⊎ (q ≡ r)
  placed j k q r le h here there =
      ⊎_elim
      (λ l. inl (ordered s.nodes s.links.bytes.now rs s.routed j k q r l h here there))
      (λ g.
      let e : j ≡ k = omega arith in
      let one : Some q ≡ Some r = sym here ∙ ap (route_at rs) e ∙ there in
      inr cc)
      (cases_lt j k)

  -- where the record at m is below the pair, the pair's record stands after it
  pub inside_after : (m new : ℕ) (r : Route) → m < high → new ≤ m + 1 → route_at rs m ≡ Some r → Less ≡ ordering_then (nat_cmp r.from a) (nat_cmp r.to b) → Inside rs a b new high
  inside_after m new r lt le there less = record {
    counted = inside.counted;
    only = λ k q h here f t.
        ⊎_elim
        (λ l.
        let below = pair_ranked (ends r) (a, b) Less less in
        let lower : Below (ends q) (a, b) = ⊎_elim (λ c. below_more (ends q) (ends r) (a, b) c below) (λ e. subst (λ x. Below (ends x) (a, b)) (sym e) below) (placed k m q r (omega arith) (omega (arith, inside.counted)) here there) in
        absurd (below_apart (ends q) (a, b) lower f t))
        (λ g. (omega (arith, g, le), (inside.only k q h here f t).1))
        (cases_lt k (m + 1));
  }

  -- where it is above the pair, before it
  pub inside_before : (m new : ℕ) (r : Route) → m < high → m ≤ new → new ≤ high → route_at rs m ≡ Some r → Greater ≡ ordering_then (nat_cmp r.from a) (nat_cmp r.to b) → Inside rs a b low new
  inside_before m new r lt le most there greater = record {
    counted = omega (arith, inside.counted);
    only = λ k q h here f t.
        ⊎_elim
        (λ l. ((inside.only k q h here f t).0, omega (arith, l, le)))
        (λ g.
        let above = pair_ranked (ends r) (a, b) Greater greater in
        let upper : Below (a, b) (ends q) = ⊎_elim (λ c. below_more (a, b) (ends r) (ends q) above c) (λ e. subst (λ x. Below (a, b) (ends x)) e above) (placed m k r q g h there here) in
        absurd (below_apart (a, b) (ends q) upper (sym f) (sym t)))
        (cases_lt k m);
  }

  -- one of the pair is what the search from the front finds
  pub inside_here : (m : ℕ) (r : Route) → m < high → route_at rs m ≡ Some r → Equal ≡ ordering_then (nat_cmp r.from a) (nat_cmp r.to b) → Some (route_links r) ≡ seek rs a b 0 (route_count rs)
  inside_here m r lt here equal =
      let same = pair_ranked (ends r) (a, b) Equal equal in
      subst (λ y. Some (route_links r) ≡ seek rs a y 0 (route_count rs)) same.1
      (subst (λ x. Some (route_links r) ≡ seek rs x r.to 0 (route_count rs)) same.0
      (sym (seek_found s.nodes s.links.bytes.now rs s.routed m r (omega (arith, inside.counted)) here)))

  -- where no place is left, that search finds none
  pub inside_none : high ≤ low → None ≡ seek rs a b 0 (route_count rs)
  inside_none gone =
      sym (seek_absent s.nodes s.links.bytes.now rs s.routed a b (λ k q h here f t. let o = inside.only k q h here f t in omega (arith, o.0, o.1)))

  -- every place has a record
  pub inside_some : (m : ℕ) → m < high → route_at rs m ≡ None → ⊥
  inside_some m lt gone = let (r, here, _) = at_place s.nodes s.links.bytes.now rs s.routed m (omega (arith, inside.counted)) in cc
