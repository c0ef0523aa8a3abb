-- Working. The proof that good records make a lawful network, `listed_lawful`: the fabric's own `lawful` cites it.
use Rattle.std.specs.Prelude.{◌≡◌, ℕ, zero, suc, ◌+◌, ◌/◌, ◌<◌, ◌≤◌, Bool, true, false, cond, not, ◌&&◌, ◌||◌, ◌⊎◌, List, [], ◌∷◌, length, Some, None, Option, ◌==◌, ◌≢◌, nat_eq, nat_le, nat_lt, slice_index, refl}
use Rattle.std.proofs.Common.{sym, ap, subst, ◌∙◌, inl, inr, ⊎_elim, arith, length-take}
use Rattle.std.proofs.lemmas.Bool.{lt-ltb, ltb-true, leb-true, eqb-true, eqb-false, eq-eqb, cases_Bool, and_parts, and_from, cond-true, cond-false, not-true, both_ways}
use Rattle.std.specs.Option.{option_map}
use Rattle.records.specs.declared.record.Link.{Link}
use Rattle.records.specs.declared.record.Route.{Route}
use Rattle.records.specs.Forms.{link_of}
use Rattle.records.specs.Sections.{record_bytes}
use Rattle.fabric.specs.Network.{Chain, Once, Lawful}
use Rattle.listed.specs.Records.{LinksGood, RoutesGood, link_count, link_at, route_at, route_prior, link_good, route_links, route_shape, route_names, hop, chain_good, member, once_good, route_leads, route_above, route_good, pick, seek, listed_link, listed_route, listed}

-- an answer that stands behind a test
pub guarded : {X : Type 0} (t : Bool) (o : Option X) (v : X) → cond t o None ≡ Some v → (t ≡ true) × (o ≡ Some v)
guarded true o v e = (refl, e)
guarded false o v e = cc

-- an answer made of another
pub mapped_parts : {X Y : Type 0} (f : X → Y) (o : Option X) (v : Y) → option_map f o ≡ Some v → (x : X) × (o ≡ Some x) × (f x ≡ v)
mapped_parts f None v e = cc
mapped_parts f (Some x) v e = (x, refl, cc)

-- a link that leads on
hop_parts : (o : Option Link) (a : ℕ) (onward : ℕ → Bool) → hop o a onward ≡ true → (x : Link) × (o ≡ Some x) × (x.from ≡ a) × (onward x.to ≡ true)
hop_parts None a onward h = cc
hop_parts (Some x) a onward h =
    let p = and_parts (x.from == a) (onward x.to) h in
    (x, refl, eqb-true _ _ p.0, p.1)

-- links that pass the test are a chain
chain_sound : (ls : List ℕ) (a : ℕ) (xs : List ℕ) (b : ℕ) → chain_good ls a xs b ≡ true → Chain (listed_link ls) a xs b
chain_sound ls a [] b h = eqb-true a b h
chain_sound ls a (l ∷ xs) b h =
    let (x, is, leaves, onward) = hop_parts (link_at ls l) a (λ m. chain_good ls m xs b) h in
    (x.to, ap (option_map (λ y. (y.from, y.to))) is ∙ ap (λ m. Some (m, x.to)) leaves, chain_sound ls x.to xs b onward)

-- a number at a place is a member
member_at : (l : ℕ) (xs : List ℕ) (j : ℕ) → j < length xs → slice_index xs j ≡ l → member l xs ≡ true
member_at l [] j h e = absurd (omega arith)
member_at l (x ∷ xs) zero h e = ap (λ t. t || member l xs) (eq-eqb x l e)
member_at l (x ∷ xs) (suc j) h e =
    let rest : member l xs ≡ true = member_at l xs j (omega arith) e in
    elim (x == l) as (λ t. (t || member l xs) ≡ true) [ true ↦ refl | false ↦ rest ]

-- numbers that pass the test stand once each
once_sound : (xs : List ℕ) → once_good xs ≡ true → Once xs
once_sound [] h i j lt within same = omega arith
once_sound (x ∷ xs) h i zero lt within same = omega arith
once_sound (x ∷ xs) h zero (suc j) lt within same =
    let p = and_parts (not (member x xs)) (once_good xs) h in
    both_ways (member x xs) (not-true _ p.0) (member_at x xs j (omega arith) (sym same))
once_sound (x ∷ xs) h (suc i) (suc j) lt within same =
    let p = and_parts (not (member x xs)) (once_good xs) h in
    once_sound xs p.1 i j (omega arith) (omega arith) same

-- the parts of what a route record must be
pub record GoodParts (n : ℕ) (ls : List ℕ) (prior : Option Route) (r : Route) : Type 0 where
  pub leaves : r.from < n
  pub enters : r.to < n
  pub apart : r.from ≡ r.to → ⊥
  pub short : r.length ≤ 12
  pub leads : route_leads ls r ≡ true
  pub above : route_above prior r ≡ true

-- they follow from the test
pub good_parts : (n : ℕ) (ls : List ℕ) (prior : Option Route) (r : Route) → route_good n ls prior (Some r) ≡ true → GoodParts n ls prior r
good_parts n ls prior r h =
    let p = and_parts (route_shape n r) (route_names (link_count ls) r && (route_leads ls r && route_above prior r)) h in
    let q = and_parts (route_names (link_count ls) r) (route_leads ls r && route_above prior r) p.1 in
    let s = and_parts (route_leads ls r) (route_above prior r) q.1 in
    let m = r.length in
    let p0 = and_parts (nat_lt r.from n) (nat_lt r.to n && (not (r.from == r.to) && (nat_le 1 m && nat_le m 12))) p.0 in
    let p1 = and_parts (nat_lt r.to n) (not (r.from == r.to) && (nat_le 1 m && nat_le m 12)) p0.1 in
    let p2 = and_parts (not (r.from == r.to)) (nat_le 1 m && nat_le m 12) p1.1 in
    let p3 = and_parts (nat_le 1 m) (nat_le m 12) p2.1 in
    record {
      leaves = ltb-true _ _ p0.0;
      enters = ltb-true _ _ p1.0;
      apart = eqb-false _ _ (not-true _ p2.0);
      short = leb-true _ _ p3.1;
      leads = s.0;
      above = s.1;
    }

-- the record that a search found
pub record Found (rs : List ℕ) (a b k n : ℕ) (r : List ℕ) : Type 0 where
  pub place : ℕ
  pub within : place < k + n
  pub route : Route
  pub here : route_at rs place ≡ Some route
  pub leaves : route.from ≡ a
  pub enters : route.to ≡ b
  pub links : route_links route ≡ r

-- what was picked is the record's, or comes from further on
pick_cases : (o : Option Route) (a b : ℕ) (further : Option (List ℕ)) (r : List ℕ) → pick o a b further ≡ Some r → ((x : Route) × (o ≡ Some x) × (x.from ≡ a) × (x.to ≡ b) × (route_links x ≡ r)) ⊎ (further ≡ Some r)
pick_cases None a b further r is = inr is
pick_cases (Some x) a b further r is =
    let t = x.from == a && nat_eq x.to b in
    ⊎_elim
    (λ (yes' : t ≡ true).
    let p = and_parts (x.from == a) (x.to == b) yes' in
    let e : Some (route_links x) ≡ Some r = sym (cond-true t (Some (route_links x)) further yes') ∙ is in
    inl (x, refl, eqb-true _ _ p.0, eqb-true _ _ p.1, cc))
    (λ (no' : t ≡ false). inr (sym (cond-false t (Some (route_links x)) further no') ∙ is))
    (cases_Bool t)

-- a search that answers has found a record of the pair
pub seek_sound : (rs : List ℕ) (a b k n : ℕ) (r : List ℕ) → seek rs a b k n ≡ Some r → Found rs a b k n r
seek_sound rs a b k zero r is = cc
seek_sound rs a b k (suc n) r is =
    elim (pick_cases (route_at rs k) a b (seek rs a b (k + 1) n) r is) [
      | inl p ↦ record { place = k; within = omega arith; route = p.0; here = p.1; leaves = p.2; enters = p.3; links = p.4 }
      | inr q ↦
          let f = seek_sound rs a b (k + 1) n r q in
          record { place = f.place; within = omega (arith, f.within); route = f.route; here = f.here; leaves = f.leaves; enters = f.enters; links = f.links }
    ]

module _ (n d : ℕ) (ls rs : List ℕ) (some : 1 ≤ n) (few : n ≤ 64) (slow : d ≤ 64) (short : length ls ≤ 256)
    (linked : LinksGood n ls) (routed : RoutesGood n ls rs) where
  -- what the laws ask of a route
  record Good (a b : ℕ) (r : List ℕ) : Type 0 where
    pub chained : Chain (listed_link ls) a r b
    pub single : Once r
    pub long : length r ≤ 12

  -- a found record keeps the laws
  record_good : (a b : ℕ) (r : List ℕ) → Found rs a b 0 (length rs / 16) r → Good a b r
  record_good a b r f =
      let x = f.route in
      let k = f.place in
      let good : route_good n ls (route_prior rs k) (Some x) ≡ true = subst (λ o. route_good n ls (route_prior rs k) o ≡ true) f.here (routed k (omega (arith, f.within))) in
      let p = good_parts n ls (route_prior rs k) x good in
      let q = and_parts (chain_good ls x.from (route_links x) x.to) (once_good (route_links x)) p.leads in
      let c = chain_sound ls x.from (route_links x) x.to q.0 in
      let cut : length (route_links x) ≤ x.length = simp length-take (omega arith) in
      record {
        chained = subst (λ v. Chain (listed_link ls) v r b) f.leaves (subst (λ v. Chain (listed_link ls) x.from r v) f.enters (subst (λ xs. Chain (listed_link ls) x.from xs x.to) f.links c));
        single = subst Once f.links (once_sound (route_links x) q.1);
        long = omega (arith, cut, p.short, ap length f.links);
      }

  -- every route keeps them, the empty ones too
  parts : (a b : ℕ) (r : List ℕ) → listed_route n rs a b ≡ Some r → (a < n) × (b < n) × Good a b r
  parts a b r is =
      let g = guarded (nat_lt a n && nat_lt b n) (cond (a == b) (Some []) (seek rs a b 0 (length rs / 16))) r is in
      let t = and_parts (nat_lt a n) (nat_lt b n) g.0 in
      let good : Good a b r = ⊎_elim
      (λ (same : nat_eq a b ≡ true).
      let e : Some [] ≡ Some r = sym (cond-true _ _ _ same) ∙ g.1 in
      let empty : [] ≡ r = cc in
      record {
        chained = subst (λ xs. Chain (listed_link ls) a xs b) empty (eqb-true a b same);
        single = subst Once empty (λ i j lt within same'. omega arith);
        long = omega (arith, ap length empty);
      })
      (λ (apart : nat_eq a b ≡ false). record_good a b r (seek_sound rs a b 0 (length rs / 16) r (sym (cond-false _ _ _ apart) ∙ g.1)))
      (cases_Bool (a == b)) in
      (ltb-true _ _ t.0, ltb-true _ _ t.1, good)

  -- a link is within the count, and goes from one node to another
  link_ends : (l a b : ℕ) → listed_link ls l ≡ Some (a, b) → (l < link_count ls) × (a < n) × (b < n) × (a ≢ b)
  link_ends l a b is =
      let (x, at, ends) = mapped_parts (λ y. (y.from, y.to)) (link_at ls l) (a, b) is in
      let lt = ltb-true l (link_count ls) (guarded (nat_lt l (link_count ls)) (link_of (record_bytes 2 ls l)) x at).0 in
      let p : x.from ≡ a = ap (λ v. v.0) ends in
      let q : x.to ≡ b = ap (λ v. v.1) ends in
      let good : link_good n (Some x) ≡ true = subst (λ o. link_good n o ≡ true) at (linked l lt) in
      let h0 = and_parts (nat_lt x.from n) (nat_lt x.to n && not (x.from == x.to)) good in
      let h1 = and_parts (nat_lt x.to n) (not (x.from == x.to)) h0.1 in
      (lt, omega (arith, ltb-true x.from n h0.0), omega (arith, ltb-true x.to n h1.0), λ ab. eqb-false _ _ (not-true _ h1.1) (p ∙ ab ∙ sym q))

  -- the laws and limits of a listed fabric
  pub listed_lawful : Lawful 12 (listed n d ls rs)
  listed_lawful = record {
    some_node = some;
    few_nodes = few;
    few_links = omega arith;
    low_delay = slow;
    ends = link_ends;
    inside = λ a b r is. let s = parts a b r is in (s.0, s.1);
    chain = λ a b r is. (parts a b r is).2.chained;
    once = λ a b r is. (parts a b r is).2.single;
    short = λ a b r is. (parts a b r is).2.long;
    stay = λ a lt.
        let t : (nat_lt a n && nat_lt a n) ≡ true = and_from _ _ (lt-ltb _ _ lt) (lt-ltb _ _ lt) in
        cond-true _ _ _ t ∙ cond-true _ _ _ (eq-eqb a a refl);
  }
