-- Residues, and where two arithmetic progressions meet.
use Rattle.std.proofs.Common.{◌≡◌, ℕ, ◌+◌, ◌-◌, ◌*◌, ◌/◌, ◌%◌, ◌<◌, pos, ◌-ℤ◌, sym, refl, ap, ◌∙◌, mod-lt, mod-eq_of_lt, mul_assoc, add-mul, div-add-mod', mul-add, arith}
use native.Mathlib.Nat.{add-mod-mod, add-mul-mod_self_right, mod-eq-zero_of_dvd, pos_of_dvd_of_pos}
use Rattle.holds.specs.Gcd.{gcd}
use Rattle.std.specs.Int.{◌∣◌, int_rem_euclid}
use Rattle.std.proofs.lemmas.Int.{ints, int_rem_euclid_is}
use Rattle.holds.specs.Span.{gap}
use Rattle.holds.proofs.Euclid.{Bezout, gcd_is_greatest, gcd_bezout, bezout_swap}

-- numbers that multiples of g make equal have one residue
pub mod_shift : (x y i j g : ℕ) → x + i * g ≡ y + j * g → x % g ≡ y % g
mod_shift x y i j g e = sym (add-mul-mod_self_right x i g) ∙ ap (λ (n : ℕ). n % g) e ∙ add-mul-mod_self_right y j g

-- an equal summand is taken away from both, by adding what is missing to a multiple of g
pub mod_cancel : (a x y g : ℕ) → 0 < g → (a + x) % g ≡ (a + y) % g → x % g ≡ y % g
mod_cancel a x y g h e = sym (lift x) ∙ ap (λ (n : ℕ). (g - a % g + n) % g) e ∙ lift y
  where
    level : (n : ℕ) → g - a % g + (a + n) ≡ n + (a / g + 1) * g
    level n = omega (arith, mod-lt a h, div-add-mod' a g, add-mul (a / g) 1 g)

    lift : (n : ℕ) → (g - a % g + (a + n) % g) % g ≡ n % g
    lift n = add-mod-mod (g - a % g) (a + n) g ∙ ap (λ (m : ℕ). m % g) (level n) ∙ add-mul-mod_self_right n (a / g + 1) g

-- ---- (b - a) mod g

pub gap_below : (a b g : ℕ) → 0 < g → gap a b g < g
unfolding gap
gap_below a b g h = mod-lt (b + (g - a % g)) h

-- the gap leads from a to b
pub gap_from : (a b g : ℕ) → 0 < g → (a + gap a b g) % g ≡ b % g
unfolding gap
gap_from a b g h =
    add-mod-mod a (b + (g - a % g)) g ∙ ap (λ (n : ℕ). n % g) level ∙ add-mul-mod_self_right b (a / g + 1) g
  where
    level : a + (b + (g - a % g)) ≡ b + (a / g + 1) * g
    level = omega (arith, mod-lt a h, div-add-mod' a g, add-mul (a / g) 1 g)

-- and nothing else below g does
pub gap_only : (a b g d : ℕ) → 0 < g → d < g → (a + d) % g ≡ b % g → d ≡ gap a b g
gap_only a b g d h l e =
    sym (mod-eq_of_lt l) ∙ mod_cancel a d (gap a b g) g h (e ∙ sym (gap_from a b g h)) ∙ mod-eq_of_lt (gap_below a b g h)

pub gap_is_difference : (a b g : ℕ) → 0 < g → int_rem_euclid (pos b -ℤ pos a) (pos g) ≡ pos (gap a b g)
unfolding gap
gap_is_difference a b g h =
    int_rem_euclid_is (pos b -ℤ pos a) (pos g) g (a / g + 1) (b + (g - a % g)) h refl
    (omega (arith, ints, mod-lt a h, div-add-mod' a g, add-mul (a / g) 1 g))

-- ---- progressions

-- a number as often as its divisor goes into it
pub whole : (d n : ℕ) → d ∣ n → n / d * d ≡ n
whole d n h = omega (arith, div-add-mod' n d, mod-eq-zero_of_dvd _ h)

pub gcd_positive : (p q : ℕ) → 0 < p → 0 < gcd p q
gcd_positive p q h = pos_of_dvd_of_pos (gcd_is_greatest p q).0 h

-- Bezout's equations, as often as g goes into x and y
join : (p q g x y : ℕ) → Bezout g p q → Bezout g q p → x % g ≡ y % g → (k : ℕ) × (j : ℕ) × (x + k * p ≡ y + j * q)
join p q g x y (u, v, e) (u', v', e') same = (
  x / g * v' + y / g * u,
  x / g * u' + y / g * v,
  omega (
    arith,
    same,
    div-add-mod' x g,
    div-add-mod' y g,
    down,
    up,
    add-mul (x / g * v') (y / g * u) p,
    mul_assoc (x / g) v' p,
    mul_assoc (y / g) u p,
    add-mul (x / g * u') (y / g * v) q,
    mul_assoc (x / g) u' q,
    mul_assoc (y / g) v q,
  ),
)
  where
    down : y / g * (u * p) ≡ y / g * (v * q) + y / g * g
    down = ap (λ (n : ℕ). y / g * n) e ∙ mul-add (y / g) (v * q) g

    up : x / g * (u' * q) ≡ x / g * (v' * p) + x / g * g
    up = ap (λ (n : ℕ). x / g * n) e' ∙ mul-add (x / g) (v' * p) g

-- x, x + p, x + 2p .. and y, y + q, y + 2q .. meet where x and y have one residue to the gcd
pub meeting_runs : (p q x y : ℕ) → 0 < p → 0 < q → x % gcd p q ≡ y % gcd p q → (k : ℕ) × (j : ℕ) × (x + k * p ≡ y + j * q)
meeting_runs p q x y hp hq same =
    join p q (gcd p q) x y (gcd_bezout p q hp hq) (bezout_swap (gcd p q) p q hp hq (gcd_bezout p q hp hq)) same

-- and only there
pub runs_agree : (p q x y k j : ℕ) → x + k * p ≡ y + j * q → x % gcd p q ≡ y % gcd p q
runs_agree p q x y k j e =
    let g = gcd p q in
    let a = whole g p (gcd_is_greatest p q).0 in
    let b = whole g q (gcd_is_greatest p q).1 in
    mod_shift x y (k * (p / g)) (j * (q / g)) g
    (omega (arith, e, ap (λ (z : ℕ). k * z) a, ap (λ (z : ℕ). j * z) b, mul_assoc k (p / g) g, mul_assoc j (q / g) g))

-- a gap modulo the divisor of two periods is below it, and it is not 0
pub ruleset gap_in_gcd = (gap_below, gcd_positive)
