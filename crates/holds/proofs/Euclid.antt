-- Euclid's algorithm gives the greatest common divisor, and Bezout's equation over the naturals.
use Rattle.std.proofs.Common.{◌≡◌, ℕ, zero, suc, ◌+◌, ◌*◌, ◌/◌, ◌%◌, ◌<◌, ◌≤◌, ◌⊎◌, sym, refl, ap, ◌∙◌, subst, inl, inr, not-suc-le-zero, mod-lt, zero-lt-suc, mul_assoc, suc-mul, add-mul, eq-zero-or-pos, div-add-mod', zero-mul, mul-add, mul_right_comm, le-mul_of_pos_right, arith}
use native.Mathlib.Nat.{le_dest}
use Rattle.std.specs.Int.{IsGcd}
use Rattle.std.proofs.lemmas.Nat.Gcd.{IsGcd-from_zero, IsGcd-from_mod}
use Rattle.holds.specs.Gcd.{euclid, gcd}

-- the remainder is below the fuel that is left
below : (a b f : ℕ) → suc b ≤ suc f → a % suc b ≤ f
below a b f h = omega (arith, mod-lt a (zero-lt-suc b))

-- any fuel that is enough gives one answer
enough : (f f' a b : ℕ) → b ≤ f → b ≤ f' → euclid f a b ≡ euclid f' a b
unfolding euclid
enough zero zero a b h k = refl
enough zero (suc f') a zero h k = refl
enough zero (suc f') a (suc b) h k = absurd (not-suc-le-zero h)
enough (suc f) zero a zero h k = refl
enough (suc f) zero a (suc b) h k = absurd (not-suc-le-zero k)
enough (suc f) (suc f') a zero h k = refl
enough (suc f) (suc f') a (suc b) h k = enough f f' (suc b) (a % suc b) (below a b f h) (below a b f' k)

euclid_zero : (f a : ℕ) → euclid f a 0 ≡ a
unfolding euclid
euclid_zero zero a = refl
euclid_zero (suc f) a = refl

pub gcd_zero : (a : ℕ) → gcd a 0 ≡ a
unfolding gcd
gcd_zero a = euclid_zero 0 a

-- the step of the algorithm
pub gcd_step : (a b : ℕ) → 0 < b → gcd a b ≡ gcd b (a % b)
unfolding gcd euclid
gcd_step a zero h = absurd (not-suc-le-zero h)
gcd_step a (suc b) h = enough b (a % suc b) (suc b) (a % suc b) (below a b b (omega arith)) (omega arith)

-- ---- divisors

-- each step keeps the common divisors
euclid_is : (f a b : ℕ) → b ≤ f → IsGcd a b (euclid f a b)
unfolding euclid
euclid_is zero a zero h = IsGcd-from_zero a 0 refl
euclid_is zero a (suc b) h = absurd (not-suc-le-zero h)
euclid_is (suc f) a zero h = IsGcd-from_zero a 0 refl
euclid_is (suc f) a (suc b) h =
    IsGcd-from_mod a (suc b) (euclid f (suc b) (a % suc b)) (euclid_is f (suc b) (a % suc b) (below a b f h))

pub gcd_is_greatest : (a b : ℕ) → IsGcd a b (gcd a b)
unfolding gcd
gcd_is_greatest a b = euclid_is b a b (omega arith)

-- ---- Bezout

-- some multiple of a is g above some multiple of b
abbrev pub Bezout : ℕ → ℕ → ℕ → Type 0
Bezout g a b = (u : ℕ) × (v : ℕ) × (u * a ≡ v * b + g)

-- the equation with the two numbers exchanged
pub bezout_swap : (g a b : ℕ) → 0 < a → 0 < b → Bezout g a b → Bezout g b a
bezout_swap g a b ha hb (u, v, e) =
    (x.0, y.0, omega (arith, e, left, right, mul_right_comm (u + v) a b))
  where
    x : (x : ℕ) × (v + x ≡ (u + v) * a)
    x = le_dest (omega (arith, le-mul_of_pos_right (u + v) ha))

    y : (y : ℕ) × (u + y ≡ (u + v) * b)
    y = le_dest (omega (arith, le-mul_of_pos_right (u + v) hb))

    left : v * b + x.0 * b ≡ (u + v) * a * b
    left = sym (add-mul v x.0 b) ∙ ap (λ (n : ℕ). n * b) x.1

    right : u * a + y.0 * a ≡ (u + v) * b * a
    right = sym (add-mul u y.0 a) ∙ ap (λ (n : ℕ). n * a) y.1

-- the last step: b divides a
bezout_last : (a b : ℕ) → 0 < a → a % b ≡ 0 → Bezout b a b
bezout_last a b h e = go (a / b) (div-add-mod' a b)
  where
    go : (q : ℕ) → q * b + a % b ≡ a → Bezout b a b
    go zero k = absurd (omega (arith, zero-mul b))
    go (suc q) k = (1, q, omega (arith, suc-mul q b))

-- one step more
bezout_more : (g a b : ℕ) → 0 < b → 0 < a % b → Bezout g b (a % b) → Bezout g a b
bezout_more g a b hb hr before = go (bezout_swap g b (a % b) hb hr before)
  where
    go : Bezout g (a % b) b → Bezout g a b
    go (x, y, e) = (
      x,
      x * (a / b) + y,
      let split : x * a ≡ x * ((a / b) * b) + x * (a % b) = ap (λ (n : ℕ). x * n) (sym (div-add-mod' a b)) ∙ mul-add x ((a / b) * b) (a % b) in
          omega (arith, e, mul_assoc x (a / b) b, add-mul (x * (a / b)) y b),
    )

-- the equation is carried back through the steps
euclid_bezout : (f a b : ℕ) → b ≤ f → 0 < a → 0 < b → Bezout (euclid f a b) a b
unfolding euclid
euclid_bezout zero a b h ha hb = absurd (omega arith)
euclid_bezout (suc f) a zero h ha hb = absurd (not-suc-le-zero hb)
euclid_bezout (suc f) a (suc b) h ha hb =
    go (eq-zero-or-pos (a % suc b)) (euclid_bezout f (suc b) (a % suc b) (below a b f h) hb)
  where
    go : (a % suc b ≡ 0) ⊎ (0 < a % suc b)
        → (0 < a % suc b → Bezout (euclid f (suc b) (a % suc b)) (suc b) (a % suc b))
        → Bezout (euclid f (suc b) (a % suc b)) a (suc b)
    go (inl e) before =
        subst (λ (g : ℕ). Bezout g a (suc b)) (sym (ap (λ (r : ℕ). euclid f (suc b) r) e ∙ euclid_zero f (suc b)))
        (bezout_last a (suc b) ha e)
    go (inr p) before = bezout_more (euclid f (suc b) (a % suc b)) a (suc b) hb p (before p)

pub gcd_bezout : (a b : ℕ) → 0 < a → 0 < b → Bezout (gcd a b) a b
unfolding gcd
gcd_bezout a b ha hb = euclid_bezout b a b (omega arith) ha hb
