-- What a search over a stretch of numbers finds.
use Rattle.std.proofs.Common.{◌≡◌, ℕ, zero, suc, ◌+◌, ◌<◌, ◌≤◌, Bool, true, false, ◌⊎◌, Some, None, Option, refl, inl, inr, arith}
use Rattle.std.proofs.lemmas.Bool.{cases_eq}
use Rattle.holds.specs.Search.{first_from}

-- the first of the stretch that passes, or none does
abbrev pub Found : (ℕ → Bool) → ℕ → ℕ → Option ℕ → Type 0
Found test fuel n None = (m : ℕ) → n ≤ m → m < n + fuel → test m ≡ false
Found test fuel n (Some r) = (n ≤ r) × (r < n + fuel) × (test r ≡ true) × ((m : ℕ) → n ≤ m → m < r → test m ≡ false)

-- one number more at the front
pass : (test : ℕ → Bool) (n : ℕ) (e : test n ≡ false) (P : ℕ → Type 0) → ((m : ℕ) → n + 1 ≤ m → P m → test m ≡ false) → (m : ℕ) → n ≤ m → P m → test m ≡ false
pass test n e P later m l p = go (cases_eq m n)
  where
    go : (m ≡ n) ⊎ (m ≡ n → ⊥) → test m ≡ false
    go (inl k) = rw k e
    go (inr k) = later m (omega arith) p

more : (test : ℕ → Bool) (fuel n : ℕ) → test n ≡ false → (o : Option ℕ) → Found test fuel (n + 1) o → Found test (suc fuel) n o
more test fuel n e None f = λ m l r. pass test n e (λ x. x < n + suc fuel) (λ x a b. f x a (omega arith)) m l r
more test fuel n e (Some r) (a, b, c, f) = (omega arith, omega arith, c, λ m l k. pass test n e (λ x. x < r) f m l k)

-- by the numbers in turn
pub first_found : (test : ℕ → Bool) (fuel n : ℕ) → Found test fuel n (first_from test fuel n)
unfolding first_from
first_found test zero n = λ m l r. absurd (omega arith)
first_found test (suc fuel) n = go (test n) refl (first_found test fuel (n + 1))
  where
    go : (b : Bool) → test n ≡ b → Found test fuel (n + 1) (first_from test fuel (n + 1))
        → Found test (suc fuel) n (elim b [ true ↦ Some n | false ↦ first_from test fuel (n + 1) ])
    go true e rest = (omega arith, omega arith, e, λ m l k. absurd (omega arith))
    go false e rest = more test fuel n e (first_from test fuel (n + 1)) rest
