-- A search that leaps over numbers of which the test fails finds what the search by each number finds.
use Rattle.std.proofs.Common.{◌≡◌, ℕ, ◌+◌, ◌-◌, ◌<◌, ◌≤◌, max, Bool, true, false, ◌⊎◌, Some, None, Option, sym, refl, ap, ◌∙◌, subst, inl, inr, arith}
use Rattle.std.proofs.lemmas.Bool.{both_ways, cases_lt, cases_order}
use Rattle.holds.specs.Search.{first_from}
use Rattle.holds.proofs.Search.{Found, first_found}

-- the test fails of each number below v
abbrev pub Passed : (ℕ → Bool) → ℕ → Type 0
Passed test v = (m : ℕ) → m < v → test m ≡ false

-- from v on it fails for the length of the wait, or without a wait of all numbers, as far as they fit 32 bits
abbrev pub FailsFrom : (ℕ → Bool) → ℕ → Option ℕ → Type 0
FailsFrom test v None = (n : ℕ) → v + n < 4294967296 → test (v + n) ≡ false
FailsFrom test v (Some w) = (n : ℕ) → n < w → v + n < 4294967296 → test (v + n) ≡ false

module _ (test : ℕ → Bool) (fuel : ℕ) where
  -- the first number that passes
  pub search_found : (v : ℕ) → v < fuel → Passed test v → test v ≡ true → Some v ≡ first_from test fuel 0
  search_found v lt passed here = sym (go (first_from test fuel 0) (first_found test fuel 0))
    where
      go : (o : Option ℕ) → Found test fuel 0 o → o ≡ Some v
      go None f = absurd (both_ways (test v) (f v (omega arith) (omega arith)) here)
      go (Some r) (a, b, c, f) = ap Some (order (cases_order r v))
        where
          order : (r ≡ v) ⊎ ((r < v) ⊎ (v < r)) → r ≡ v
          order (inl e) = e
          order (inr (inl l)) = absurd (both_ways (test r) (passed r l) c)
          order (inr (inr l)) = absurd (both_ways (test v) (f v (omega arith) l) here)

  -- none passes
  pub search_none : Passed test fuel → None ≡ first_from test fuel 0
  search_none passed = sym (go (first_from test fuel 0) (first_found test fuel 0))
    where
      go : (o : Option ℕ) → Found test fuel 0 o → o ≡ None
      go None f = refl
      go (Some r) (a, b, c, f) = absurd (both_ways (test r) (passed r (omega arith)) c)

module _ (test : ℕ → Bool) (v : ℕ) (passed : Passed test v) where
  at_or_past : (m : ℕ) → ((n : ℕ) → m ≡ v + n → test (v + n) ≡ false) → test m ≡ false
  at_or_past m f = go (cases_lt m v)
    where
      go : (m < v) ⊎ (v ≤ m) → test m ≡ false
      go (inl l) = passed m l
      go (inr l) = let e : m ≡ v + (m - v) = omega arith in subst (λ (x : ℕ). test x ≡ false) (sym e) (f (m - v) e)

  -- a leap over those of which it fails, by one at the least
  pub leap : (w : ℕ) → test v ≡ false → FailsFrom test v (Some w) → (m : ℕ) → m < v + max w 1 → m < 4294967296 → test m ≡ false
  leap w here fails m below fits = at_or_past m (λ n e. go n e (cases_lt n w))
    where
      go : (n : ℕ) → m ≡ v + n → (n < w) ⊎ (w ≤ n) → test (v + n) ≡ false
      go n e (inl l) = fails n l (omega arith)
      go n e (inr l) = let same : v + n ≡ v = omega arith in subst (λ (x : ℕ). test x ≡ false) (sym same) here

  -- it fails of all that follow
  pub leap_all : FailsFrom test v None → (m : ℕ) → m < 4294967296 → test m ≡ false
  leap_all fails m fits = at_or_past m (λ n e. fails n (omega arith))

-- tests that agree on a stretch find the same first
pub first_same : (f g : ℕ → Bool) (fuel : ℕ) → ((v : ℕ) → v < fuel → f v ≡ g v) → first_from f fuel 0 ≡ first_from g fuel 0
first_same f g fuel same = go (first_from g fuel 0) (first_found g fuel 0)
  where
    go : (o : Option ℕ) → Found g fuel 0 o → first_from f fuel 0 ≡ o
    go None h = sym (search_none f fuel (λ m l. same m l ∙ h m (omega arith) (omega arith)))
    go (Some r) (a, b, c, h) = sym (search_found f fuel r (omega arith) (λ m l. same m (omega arith) ∙ h m (omega arith) l) (same r (omega arith) ∙ c))
