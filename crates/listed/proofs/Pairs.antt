-- The records of a listed fabric ascend, so each pair of nodes has one record at most; and what a file gives is of its records.
use Rattle.std.proofs.Common.{◌≡◌, ℕ, zero, suc, ◌+◌, ◌-◌, ◌<◌, Bool, true, false, cond, ◌&&◌, eqb, ltb, ◌⊎◌, List, [], Some, None, Ok, Err, Option, Result, sym, refl, ap, ◌∙◌, subst, zero-add, inl, inr, ⊎_elim, arith}
use Rattle.std.proofs.lemmas.Bool.{ltb-true, eqb-true, ne_eqb, and_parts, or_cases, cases_Bool, cond-true, cond-false}
use Rattle.std.specs.Option.{option_map}
use Rattle.records.specs.Head.{head_read}
use Rattle.records.specs.Sections.{count_of, cut_of}
use Rattle.records.specs.declared.head.FabricKind.{FabricKind}
use Rattle.records.specs.declared.head.FabricKind.TheVariants.{Mesh as MeshKind, Listed as ListedKind}
use Rattle.records.specs.declared.head.Head.{Head as FileHead}
use Rattle.records.specs.declared.head.HeadFault.{HeadFault}
use Rattle.records.specs.declared.head.HeadFault.TheVariants.{Limits}
use Rattle.refusals.specs.Steps.{◌>>=◌, within}
use Rattle.listed.specs.declared.faults.SectionFault.TheVariants.{Many, Short}
use Rattle.records.specs.declared.record.Link.{Link}
use Rattle.records.specs.declared.record.Route.{Route}
use Rattle.listed.specs.Records.{link_at, route_count, route_at, route_prior, link_good, route_links, route_above, route_good, RoutesGood, seek, listed_route}
use Rattle.listed.specs.Description.{Description, head_fits, head_of_kind, links_fault, listed_head, routes_fault, section_read, too_many}
use Rattle.listed.specs.SetRecords.{FromFile, OfRecords, SetRecords}
use Rattle.listed.specs.Sound.{GoodParts, good_parts}
use Rattle.listed.proofs.Finds.{chosen, chosen_here, chosen_other, seek_first, seek_nothing, route_found}
use Rattle.listed.proofs.Firsts.{links_good, routes_good}
use Rattle.listed.proofs.Parts.{Parts, parts}

-- one pair of nodes is below another: by from, then by to
abbrev pub Below : ℕ × ℕ → ℕ × ℕ → Type 0
Below p q = (p.0 < q.0) ⊎ ((p.0 ≡ q.0) × (p.1 < q.1))

-- three in a row
pub below_more : (p q r : ℕ × ℕ) → Below p q → Below q r → Below p r
below_more p q r (inl a) (inl b) = inl (omega arith)
below_more p q r (inl a) (inr b) = inl (omega (arith, b.0))
below_more p q r (inr a) (inl b) = inl (omega (arith, a.0))
below_more p q r (inr a) (inr b) = inr (a.0 ∙ b.0, omega (arith, a.1, b.1))

-- so the two are different
pub below_apart : (p q : ℕ × ℕ) → Below p q → p.0 ≡ q.0 → p.1 ≡ q.1 → ⊥
below_apart p q (inl a) e f = omega arith
below_apart p q (inr a) e f = omega (arith, a.1)

-- the two nodes of a route
abbrev pub ends : Route → ℕ × ℕ
ends r = (r.from, r.to)

-- one route comes before another
abbrev pub Before : Route → Route → Type 0
Before q r = Below (ends q) (ends r)

-- what the test says
above_before : (q r : Route) → route_above (Some q) r ≡ true → Before q r
above_before q r h =
    ⊎_elim
    (λ (low : ltb q.from r.from ≡ true). inl (ltb-true _ _ low))
    (λ (both : (eqb q.from r.from && ltb q.to r.to) ≡ true).
    let p = and_parts (eqb q.from r.from) (ltb q.to r.to) both in
    inr (eqb-true _ _ p.0, ltb-true _ _ p.1))
    (or_cases (ltb q.from r.from) (eqb q.from r.from && ltb q.to r.to) h)

-- a good record is a record
some_link : (n : ℕ) (o : Option Link) → link_good n o ≡ true → (x : Link) × (o ≡ Some x)
some_link n None h = cc
some_link n (Some x) h = (x, refl)

-- the same of a route, with what makes it good
some_route : (n : ℕ) (ls : List ℕ) (prior o : Option Route) → route_good n ls prior o ≡ true → (r : Route) × (o ≡ Some r) × GoodParts n ls prior r
some_route n ls prior None h = cc
some_route n ls prior (Some r) h = (r, refl, good_parts n ls prior r h)

module _ (n : ℕ) (ls rs : List ℕ) (routed : RoutesGood n ls rs) where
  -- each place has a good record
  pub at_place : (k : ℕ) → k < route_count rs → (r : Route) × (route_at rs k ≡ Some r) × GoodParts n ls (route_prior rs k) r
  at_place k h = some_route n ls (route_prior rs k) (route_at rs k) (routed k h)

  -- a record comes before the next
  next : (k : ℕ) (q r : Route) → k + 1 < route_count rs → route_at rs k ≡ Some q → route_at rs (k + 1) ≡ Some r → Before q r
  next k q r h here there =
      let back : k + 1 - 1 ≡ k = omega arith in
      let prior : route_prior rs (k + 1) ≡ Some q = cond-false (eqb (k + 1) 0) None (route_at rs (k + 1 - 1)) (ne_eqb (k + 1) 0 (λ e. omega arith)) ∙ ap (route_at rs) back ∙ here in
      let good : route_good n ls (route_prior rs (k + 1)) (Some r) ≡ true = subst (λ o. route_good n ls (route_prior rs (k + 1)) o ≡ true) there (routed (k + 1) h) in
      let p = good_parts n ls (route_prior rs (k + 1)) r good in
      above_before q r (subst (λ o. route_above o r ≡ true) prior p.above)

  -- and before each further on
  further : (d k : ℕ) (q r : Route) → k + 1 + d < route_count rs → route_at rs k ≡ Some q → route_at rs (k + 1 + d) ≡ Some r → Before q r
  further zero k q r h here there = let e : k + 1 ≡ k + 1 + 0 = omega arith in next k q r (omega arith) here (ap (route_at rs) e ∙ there)
  further (suc d) k q r h here there =
      let (m, mid, _) = at_place (k + 1 + d) (omega arith) in
      let e : k + 1 + d + 1 ≡ k + 1 + suc d = omega arith in
      below_more (ends q) (ends m) (ends r) (further d k q m (omega arith) here mid) (next (k + 1 + d) m r (omega arith) mid (ap (route_at rs) e ∙ there))

  -- the records ascend
  pub ordered : (j k : ℕ) (q r : Route) → j < k → k < route_count rs → route_at rs j ≡ Some q → route_at rs k ≡ Some r → Before q r
  ordered j k q r low h here there =
      let e : j + 1 + (k - (j + 1)) ≡ k = omega arith in
      further (k - (j + 1)) j q r (omega arith) here (ap (route_at rs) e ∙ there)

  -- the search for a record's pair finds the record: those before it are of other pairs
  pub seek_found : (k : ℕ) (r : Route) → k < route_count rs → route_at rs k ≡ Some r → seek rs r.from r.to 0 (route_count rs) ≡ Some (route_links r)
  seek_found k r h here =
      seek_first rs r.from r.to 0 (route_count rs) k r h (ap (λ i. chosen r.from r.to (route_at rs i)) (zero-add k) ∙ ap (chosen r.from r.to) here ∙ chosen_here r.from r.to r refl refl)
      (λ j l.
      let (q, there, _) = at_place j (omega arith) in
      ap (λ i. chosen r.from r.to (route_at rs i)) (zero-add j) ∙ ap (chosen r.from r.to) there ∙ chosen_other r.from r.to q (below_apart (ends q) (ends r) (ordered j k q r l h there here)))

  -- the search for a pair without a record finds none
  pub seek_absent : (a b : ℕ) → ((k : ℕ) (r : Route) → k < route_count rs → route_at rs k ≡ Some r → r.from ≡ a → r.to ≡ b → ⊥) → seek rs a b 0 (route_count rs) ≡ None
  seek_absent a b absent =
      seek_nothing rs a b 0 (route_count rs) (λ j h.
      let (q, there, _) = at_place j h in
      ap (λ i. chosen a b (route_at rs i)) (zero-add j) ∙ ap (chosen a b) there ∙ chosen_other a b q (absent j q h there))

  -- the route of a record's pair
  route_known : (k : ℕ) → k < route_count rs → (r : Route) × (route_at rs k ≡ Some r) × (listed_route n rs r.from r.to ≡ Some (route_links r))
  route_known k h =
      let (r, here, p) = at_place k h in
      (r, here, route_found n rs r.from r.to (Some (route_links r)) p.leaves p.enters p.apart (sym (seek_found k r h here)))

  -- no route without a record
  route_none : (a b : ℕ) → (a ≡ b → ⊥) → ((k : ℕ) (r : Route) → route_at rs k ≡ Some r → r.from ≡ a → r.to ≡ b → ⊥) → listed_route n rs a b ≡ None
  route_none a b apart absent =
      let t = ltb a n && ltb b n in
      let found = cond (eqb a b) (Some []) (seek rs a b 0 (route_count rs)) in
      ⊎_elim
      (λ (yes' : t ≡ true). cond-true t found None yes' ∙ cond-false (eqb a b) (Some []) (seek rs a b 0 (route_count rs)) (ne_eqb a b apart) ∙ seek_absent a b (λ k r h. absent k r))
      (λ (no' : t ≡ false). cond-false t found None no')
      (cases_Bool t)

-- a description without faults is of its records
faultless : (s : Description) → links_fault s.nodes s.links ≡ None → routes_fault s.nodes s.links s.routes ≡ None → OfRecords s
faultless s nl nr =
    let routed = routes_good s.nodes s.links s.routes nr in
    record {
      sizes = (refl, refl, refl);
      linked = λ l h.
          let (x, here) = some_link s.nodes (link_at s.links l) (links_good s.nodes s.links nl l h) in
          (x, here, ap (option_map (λ y. (y.from, y.to))) here);
      routed = route_known s.nodes s.links s.routes routed;
      others = route_none s.nodes s.links s.routes routed;
    }

-- a section that is read is the one that stands there
cut_read : (size limit : ℕ) (file : List ℕ) (p : List ℕ × List ℕ) → section_read size limit file ≡ Ok p → cut_of size file ≡ Ok p
cut_read size limit file p = go (too_many limit (count_of file)) (cut_of size file)
  where
    go : (b : Bool) (r : Result (List ℕ × List ℕ) ℕ) → cond b (Err Many) (within Short r) ≡ Ok p → r ≡ Ok p
    go true r e = cc
    go false (Ok q) e = cc
    go false (Err k) e = cc

-- and so is a head
head_found : (file : List ℕ) (p : FileHead × List ℕ) → listed_head file ≡ Ok p → head_read file ≡ Ok p
head_found file p = go (head_read file)
  where
    kinds : (k : FabricKind) (q : FileHead × List ℕ) → head_of_kind k q ≡ Ok p → ◌≡◌ {A = Result (FileHead × List ℕ) HeadFault} (Ok q) (Ok p)
    kinds MeshKind q e = cc
    kinds ListedKind q e = fits (head_fits q.0) e
      where
        fits : (b : Bool) → cond b (Ok q) (Err Limits) ≡ Ok p → ◌≡◌ {A = Result (FileHead × List ℕ) HeadFault} (Ok q) (Ok p)
        fits true e = e
        fits false e = cc

    go : (r : Result (FileHead × List ℕ) HeadFault) → (r >>= (λ q. head_of_kind q.0.kind q)) ≡ Ok p → r ≡ Ok p
    go (Err f) e = cc
    go (Ok q) e = kinds q.0.kind q e

from_file : (file : List ℕ) (d : Description) (rest : List ℕ) → Parts file d rest → FromFile file d rest
from_file file d rest p =
    record {
      head = p.head;
      body = p.body;
      tail = p.tail;
      begins = head_found file (p.head, p.body) p.of_head;
      nodes = sym p.same_nodes;
      delay = sym p.same_delay;
      links = cut_read 2 128 p.body (d.links, p.tail) p.of_links;
      routes = cut_read 16 256 p.tail (d.routes, rest) p.of_routes;
    }

-- so is what a file gives
pub set_records : SetRecords
set_records file d rest read = let p = parts file (d, rest) read in (from_file file d rest p, faultless d p.linked p.routed)
