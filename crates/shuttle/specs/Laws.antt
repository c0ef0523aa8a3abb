-- Working. The proof that the shuttle keeps the laws of a fabric.
use Rattle.std.specs.Prelude.{◌≡◌, ℕ, zero, suc, ◌+◌, ◌%◌, ◌<◌, ◌≤◌, Bool, true, false, cond, ◌&&◌, ◌⊎◌, List, [], ◌∷◌, length, Some, None, ◌==◌, ◌≢◌, nat_lt, refl}
use Rattle.std.proofs.Common.{sym, ap, subst, ◌∙◌, inl, inr, arith, lit≤}
use Rattle.std.specs.List.{range_with_len}
use Rattle.std.proofs.lemmas.List.FromFn.{length-range_with_len, get_or-range_with_len}
use Rattle.std.proofs.lemmas.Bool.{and_from, and_parts, cases_eq, cond-false, cond-true, eq-eqb, eqb-true, lt-ltb, ltb-true, ne_eqb}
use Rattle.fabric.specs.Network.{Chain, Once, Lawful}
use Rattle.shuttle.specs.Shuttle.{leads, shuttle_link, shuttle_network, shuttle_route}

-- which of three tests an answer came from
chosen : {X : Type 0} (p q s : Bool) (x y z v : X) → cond p (Some x) (cond q (Some y) (cond s (Some z) None)) ≡ Some v
    → ((p ≡ true) × (x ≡ v)) ⊎ (((q ≡ true) × (y ≡ v)) ⊎ ((s ≡ true) × (z ≡ v)))
chosen true q s x y z v e = inl (refl, cc)
chosen false true s x y z v e = inr (inl (refl, cc))
chosen false false true x y z v e = inr (inr (refl, cc))
chosen false false false x y z v e = let n : ◌≡◌ {A = ℕ} 0 1 = cc in absurd (omega arith)

pub record Stays (a b : ℕ) (r : List ℕ) : Type 0 where
  pub same : a ≡ b
  pub few : a < 3
  pub none : [] ≡ r

pub record Goes (a b : ℕ) (r : List ℕ) (to : ℕ) (ls : List ℕ) : Type 0 where
  pub start : a ≡ 0
  pub end : b ≡ to
  pub links : ls ≡ r

-- the three kinds of routes
abbrev pub Route : (a b : ℕ) → List ℕ → Type 0
Route a b r = Stays a b r ⊎ (Goes a b r 1 (0 ∷ []) ⊎ Goes a b r 2 (range_with_len 0 64))

pub routes : (a b : ℕ) (r : List ℕ) → shuttle_route a b ≡ Some r → Route a b r
routes a b r e = go (chosen (a == b && nat_lt a 3) (a == 0 && b == 1) (a == 0 && b == 2) [] (0 ∷ []) (range_with_len 0 64) r e)
  where
    parts : (to : ℕ) (ls : List ℕ) → (a == 0 && b == to) ≡ true → ls ≡ r → Goes a b r to ls
    parts to ls t s = let p = and_parts (a == 0) (b == to) t in record { start = eqb-true a 0 p.0; end = eqb-true b to p.1; links = s }

    go : (((a == b && nat_lt a 3) ≡ true) × ([] ≡ r)) ⊎ ((((a == 0 && b == 1) ≡ true) × ((0 ∷ []) ≡ r)) ⊎ (((a == 0 && b == 2) ≡ true) × (range_with_len 0 64 ≡ r)))
        → Route a b r
    go (inl (t, s)) = let p = and_parts (a == b) (nat_lt a 3) t in inl (record { same = eqb-true a b p.0; few = ltb-true a 3 p.1; none = s })
    go (inr (inl (t, s))) = inr (inl (parts 1 (0 ∷ []) t s))
    go (inr (inr (t, s))) = inr (inr (parts 2 (range_with_len 0 64) t s))

-- the pair of nodes of a link
pair : (a b c d : ℕ) → a ≡ c → b ≡ d → leads a b ≡ leads c d
pair a b c d p q = ap (λ n. leads n b) p ∙ ap (leads c) q

-- a link below the last leads from the node of its parity to the other
link_at : (k : ℕ) → k < 63 → shuttle_link k ≡ leads (k % 2) ((k + 1) % 2)
link_at k lt = cond-true (nat_lt k 63) _ _ (lt-ltb k 63 lt) ∙ go (cases_eq (k % 2) 0)
  where
    go : (k % 2 ≡ 0) ⊎ (k % 2 ≢ 0) → cond (k % 2 == 0) (leads 0 1) (leads 1 0) ≡ leads (k % 2) ((k + 1) % 2)
    go (inl e) = cond-true (k % 2 == 0) _ _ (eq-eqb (k % 2) 0 e) ∙ pair 0 1 (k % 2) ((k + 1) % 2) (omega arith) (omega arith)
    go (inr n) = cond-false (k % 2 == 0) _ _ (ne_eqb (k % 2) 0 n) ∙ pair 1 0 (k % 2) ((k + 1) % 2) (omega arith) (omega arith)

-- the links from k on lead from the node of k's parity to node 2
climb : (n k : ℕ) → k + suc n ≡ 64 → Chain shuttle_link (k % 2) (range_with_len k (suc n)) 2
climb zero k e = let is : 63 ≡ k = omega arith in subst (λ j. Chain shuttle_link (j % 2) (range_with_len j 1) 2) is (2, refl, refl)
climb (suc n) k e = ((k + 1) % 2, link_at k (omega arith), climb n (k + 1) (omega arith))

-- a route's links lead from its source to its destination
chain : (a b : ℕ) (r : List ℕ) → Route a b r → Chain shuttle_link a r b
chain a b r (inl s) = subst (λ ls. Chain shuttle_link a ls b) s.none s.same
chain a b r (inr (inl s)) =
    subst (λ ls. Chain shuttle_link a ls b) s.links
    (subst (λ n. Chain shuttle_link n (0 ∷ []) b) (sym s.start) (subst (Chain shuttle_link 0 (0 ∷ [])) (sym s.end) (1, refl, refl)))
chain a b r (inr (inr s)) =
    subst (λ ls. Chain shuttle_link a ls b) s.links
    (subst (λ n. Chain shuttle_link n (range_with_len 0 64) b) (sym s.start) (subst (Chain shuttle_link 0 (range_with_len 0 64)) (sym s.end) (climb 63 0 refl)))

-- counted links are all different
counted_once : (n : ℕ) → Once (range_with_len 0 n)
counted_once n i j lt in_range same =
    let l = length-range_with_len 0 n in
    let p = get_or-range_with_len 0 n i 0 (omega arith) in
    let q = get_or-range_with_len 0 n j 0 (omega arith) in
    omega arith

once : (a b : ℕ) (r : List ℕ) → Route a b r → Once r
once a b r (inl s) = subst Once s.none (counted_once 0)
once a b r (inr (inl s)) = subst Once s.links (counted_once 1)
once a b r (inr (inr s)) = subst Once s.links (counted_once 64)

short : (a b : ℕ) (r : List ℕ) → Route a b r → length r ≤ 64
short a b r (inl s) = subst (λ ls. length ls ≤ 64) s.none (lit≤ tt)
short a b r (inr (inl s)) = subst (λ ls. length ls ≤ 64) s.links (lit≤ tt)
short a b r (inr (inr s)) = subst (λ ls. length ls ≤ 64) s.links (lit≤ tt)

inside : (a b : ℕ) (r : List ℕ) → Route a b r → (a < 3) × (b < 3)
inside a b r (inl s) = let p = s.same in let q = s.few in (q, omega arith)
inside a b r (inr (inl s)) = let p = s.start in let q = s.end in (omega arith, omega arith)
inside a b r (inr (inr s)) = let p = s.start in let q = s.end in (omega arith, omega arith)

-- the two nodes of an answered link
ends : (l a b : ℕ) → shuttle_link l ≡ leads a b → (l < 64) × (a < 3) × (b < 3) × (a ≢ b)
ends l a b e = go (nat_lt l 63) refl (l % 2 == 0) (l == 63) refl e
  where
    fits : (c d : ℕ) → c < 3 → d < 3 → (c ≢ d) → l < 64 → leads c d ≡ leads a b → (l < 64) × (a < 3) × (b < 3) × (a ≢ b)
    fits c d p q n lt s = let t : ◌≡◌ {A = ℕ × ℕ} (c, d) (a, b) = cc in let x : c ≡ a = ap (λ z. z.0) t in let y : d ≡ b = ap (λ z. z.1) t in (lt, omega arith, omega arith, λ z. n (x ∙ z ∙ sym y))

    go : (p : Bool) → nat_lt l 63 ≡ p → (q s : Bool) → (l == 63) ≡ s → cond p (cond q (leads 0 1) (leads 1 0)) (cond s (leads 1 2) None) ≡ leads a b
        → (l < 64) × (a < 3) × (b < 3) × (a ≢ b)
    go true t true s u is = let lt = ltb-true l 63 t in fits 0 1 (omega arith) (omega arith) (λ z. omega arith) (omega arith) is
    go true t false s u is = let lt = ltb-true l 63 t in fits 1 0 (omega arith) (omega arith) (λ z. omega arith) (omega arith) is
    go false t q true u is = let same = eqb-true l 63 u in fits 1 2 (omega arith) (omega arith) (λ z. omega arith) (omega arith) is
    go false t q false u is = let n : ◌≡◌ {A = ℕ} 0 1 = cc in absurd (omega arith)

-- the laws and limits of the shuttle
pub shuttle_lawful : Lawful 64 shuttle_network
shuttle_lawful = record {
  some_node = lit≤ tt;
  few_nodes = lit≤ tt;
  few_links = lit≤ tt;
  low_delay = lit≤ tt;
  ends = ends;
  inside = λ a b r e. inside a b r (routes a b r e);
  chain = λ a b r e. chain a b r (routes a b r e);
  once = λ a b r e. once a b r (routes a b r e);
  short = λ a b r e. short a b r (routes a b r e);
  stay = λ a lt. cond-true (a == a && nat_lt a 3) _ _ (and_from _ _ (eq-eqb a a refl) (lt-ltb a 3 lt));
}
