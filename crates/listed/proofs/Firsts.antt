-- The first fault among records, and what follows where there is none.
use Rattle.std.proofs.Common.{◌≡◌, ℕ, zero, suc, ◌+◌, ◌-◌, ◌<◌, Bool, true, false, cond, ◌&&◌, List, [], ◌∷◌, Some, None, Ok, Err, Option, Result, Break, subst, sym, refl, ap, ◌∙◌, add-zero, zero-add, arith}
use denote.Param.Members.{Mut}
use Rattle.std.proofs.lemmas.Bool.{and_from, and_parts}
use Rattle.std.proofs.iter.Yields.{nat_range_steps}
use Rattle.std.specs.declared.ops.Range.{Range}
use Rattle.std.specs.Fn.{Called}
use Rattle.std.specs.Result.{result_from_control_flow, IsErr, IsErrAnd}
use Rattle.std.specs.Iterator.{Yields, TryForEachTurn, TryCallsOnEach}
use Rattle.std.specs.List.{FoldsTo}
use Rattle.std.specs.Option.{MatchOption, option_or}
use Rattle.listed.specs.declared.faults.SetFault.TheVariants.{Link, Route, Chain, Order}
use Rattle.records.specs.declared.record.Route.{Route as RouteRecord}
use Rattle.listed.specs.Records.{link_count, link_at, link_good, route_count, route_at, route_prior, route_shape, route_names, route_leads, route_above, route_good, LinksGood, RoutesGood}
use Rattle.refusals.specs.Told.{checked}
use Rattle.listed.specs.Description.{first_fault, link_fault, record_fault, route_fault, links_fault, routes_fault}

module _ {E : Type 0} (f : ℕ → Option E) where
  -- one turn of a walk over n records
  first_more : (k n : ℕ) → k < n → first_fault f k (n - k) ≡ option_or (f k) (first_fault f (k + 1) (n - (k + 1)))
  first_more k n h = let e : n - k ≡ suc (n - (k + 1)) = omega arith in rw e

  -- a record with a fault ends the walk
  first_here : (k n : ℕ) (e : E) → k < n → f k ≡ Some e → first_fault f k (n - k) ≡ Some e
  first_here k n e h here = first_more k n h ∙ ap (λ o. option_or o (first_fault f (k + 1) (n - (k + 1)))) here

  -- a record without a fault is passed
  first_pass : (k n : ℕ) → k < n → f k ≡ None → first_fault f k (n - k) ≡ first_fault f (k + 1) (n - (k + 1))
  first_pass k n h here = first_more k n h ∙ ap (λ o. option_or o (first_fault f (k + 1) (n - (k + 1)))) here

  -- a check of record k that refuses ends the walk with its fault
  check_here : (k n : ℕ) (e : E) → k < n → checked (f k) ≡ Err e → Err e ≡ checked (first_fault f k (n - k))
  check_here k n e h refuses = ends (f k) refl refuses where
    ends : (o : Option E) → f k ≡ o → checked o ≡ Err e → Err e ≡ checked (first_fault f k (n - k))
    ends None is r = cc
    ends (Some x) is r = sym r ∙ ap checked (sym (first_here k n x h is))

  -- a check that passes leads on to the next
  check_pass : (k n : ℕ) → k < n → checked (f k) ≡ Ok tt → first_fault f k (n - k) ≡ first_fault f (k + 1) (n - (k + 1))
  check_pass k n h passes = on (f k) refl passes where
    on : (o : Option E) → f k ≡ o → checked o ≡ Ok tt → first_fault f k (n - k) ≡ first_fault f (k + 1) (n - (k + 1))
    on None is r = first_pass k n h is
    on (Some x) is r = cc

  -- of two without a fault noption_or has one
  front_none : (o p : Option E) → option_or o p ≡ None → (o ≡ None) × (p ≡ None)
  front_none None p e = (refl, e)
  front_none (Some x) p e = cc

  -- where no fault was found, no record has one
  first_none : (k m : ℕ) → first_fault f k m ≡ None → (i : ℕ) → i < m → f (k + i) ≡ None
  first_none k zero e i h = absurd (omega arith)
  first_none k (suc m) e zero h = ap f (add-zero k) ∙ (front_none (f k) (first_fault f (k + 1) m) e).0
  first_none k (suc m) e (suc i) h =
      let s : k + suc i ≡ k + 1 + i = omega arith in
      ap f s ∙ first_none (k + 1) m (front_none (f k) (first_fault f (k + 1) m) e).1 i (omega arith)

-- `?` makes of an error that needs no conversion the same error
residual : {E : Type 0} (r : Result (Unit {0}) E) (e : E) → IsErr r × IsErrAnd r (λ x. x ≡ e) → r ≡ Err e
residual (Ok x) e h = absurd h.1
residual (Err x) e h = ap Err h.1

-- `try_for_each` over the places below n answers the first fault, where the closure answers the check of its place
module _ {E F : Type 0} (fault : ℕ → Option E) (g : Mut F (ℕ × Unit {0}) (Result (Unit {0}) E)) (f : F)
    (calls : (i : ℕ) (v : Result (Unit {0}) E) (q : F) → Called g f (i, tt) v q → (q ≡ f) × (v ≡ checked (fault i))) where
  walked : (xs : List ℕ) (o : Option ℕ) (s t u : Range ℕ) (j : F) (r : Result (Unit {0}) E) → Yields nat_range_steps s xs t → nat_range_steps t o u
      → FoldsTo (TryForEachTurn g (λ v b. v ≡ result_from_control_flow b)) f xs j
      → MatchOption o (r ≡ Ok tt) (λ i. (v : Result (Unit {0}) E) × (h : F) × (x : _) × Called g j (i, tt) v h × (v ≡ result_from_control_flow (Break x)) × (IsErr r × IsErrAnd r (λ e. e ≡ x.0)))
      → r ≡ checked (first_fault fault s.start (s.end - s.start))
  walked [] None s t u j r y n c m =
      let e : s.end - s.start ≡ 0 = omega (arith, ap (λ (k : Range ℕ). k.start) y, ap (λ (k : Range ℕ). k.end) y, n.1.0) in
      m ∙ sym (ap (λ k. checked (first_fault fault s.start k)) e)
  walked [] (Some i) s t u j r y n c m =
      let here : i ≡ s.start = n.1.1 ∙ sym (ap (λ (k : Range ℕ). k.start) y) in
      let more : s.start < s.end = omega (arith, ap (λ (k : Range ℕ). k.start) y, ap (λ (k : Range ℕ). k.end) y, n.1.0) in
      let call = (calls i m.0 m.1 (subst (λ (p : F). Called g p (i, tt) m.0 m.1) (sym c) m.3)).1 in
      let refuses : checked (fault s.start) ≡ Err m.2.0 = ap (λ k. checked (fault k)) (sym here) ∙ sym call ∙ m.4 in
      residual r m.2.0 m.5 ∙ check_here fault s.start s.end m.2.0 more refuses
  walked (i ∷ xs) o s t u j r y n c m =
      let next = y.1 in
      let turn = c.1 in
      let call = calls i turn.0 c.0 turn.1 in
      let left : y.0.end - y.0.start ≡ s.end - (s.start + 1) = omega (arith, next.0, next.1.2) in
      let passes : checked (fault s.start) ≡ Ok tt = ap (λ k. checked (fault k)) (sym next.1.1) ∙ sym call.1 ∙ turn.2 in
      walked xs o y.0 t u j r y.2 n (subst (λ (p : F). FoldsTo (TryForEachTurn g (λ v b. v ≡ result_from_control_flow b)) p xs j) call.0 c.2) m
      ∙ ap (λ k. checked (first_fault fault k (y.0.end - y.0.start))) next.1.2
      ∙ ap (λ k. checked (first_fault fault (s.start + 1) k)) left
      ∙ sym (ap checked (check_pass fault s.start s.end (omega (arith, next.1.0)) passes))

  pub first_of_range : (n : ℕ) (s u : Range ℕ) (r : Result (Unit {0}) E) → s.start ≡ 0 → s.end ≡ n
      → TryCallsOnEach nat_range_steps g (λ v b. v ≡ result_from_control_flow b) (λ x q. IsErr q × IsErrAnd q (λ e. e ≡ x.0)) s f r u → r ≡ checked (first_fault fault 0 n)
  first_of_range n s u r begin all d =
      let left : s.end - s.start ≡ n = omega arith in
      walked d.0 d.1 s d.3.0 u d.2 r d.3.1 d.3.2 d.4 d.5
      ∙ ap (λ k. checked (first_fault fault k (s.end - s.start))) begin
      ∙ ap (λ k. checked (first_fault fault 0 k)) left

-- a test that had to come out true
passed : {E : Type 0} (t : Bool) (o : Option E) (e : E) → cond t o (Some e) ≡ None → (t ≡ true) × (o ≡ None)
passed true o e h = (refl, h)
passed false o e h = cc

-- without a fault each link record is good
pub links_good : (n : ℕ) (ls : List ℕ) → links_fault n ls ≡ None → LinksGood n ls
links_good n ls none l h =
    let here = first_none (link_fault n ls) 0 (link_count ls) none l h in
    (passed (link_good n (link_at ls l)) None (Link l) (ap (link_fault n ls) (sym (zero-add l)) ∙ here)).0

-- a route record without a fault is good
record_good : (n : ℕ) (ls : List ℕ) (prior : Option RouteRecord) (k : ℕ) (o : Option RouteRecord) → record_fault n ls prior k o ≡ None → route_good n ls prior o ≡ true
record_good n ls prior k None here = cc
record_good n ls prior k (Some r) here =
    let order = cond (route_above prior r) None (Some (Order k)) in
    let p = passed (route_shape n r && route_names (link_count ls) r) (cond (route_leads ls r) order (Some (Chain k))) (Route k) here in
    let q = passed (route_leads ls r) order (Chain k) p.1 in
    let t = passed (route_above prior r) None (Order k) q.1 in
    let s = and_parts (route_shape n r) (route_names (link_count ls) r) p.0 in
    and_from _ _ s.0 (and_from _ _ s.1 (and_from _ _ q.0 t.0))

-- without a fault each route record is good
pub routes_good : (n : ℕ) (ls rs : List ℕ) → routes_fault n ls rs ≡ None → RoutesGood n ls rs
routes_good n ls rs none k h =
    record_good n ls (route_prior rs k) k (route_at rs k) (ap (route_fault n ls rs) (sym (zero-add k)) ∙ first_none (route_fault n ls rs) 0 (route_count rs) none k h)
