-- Euclid's step on a walk around a circle: the same landings, counted by rounds.
use Rattle.std.proofs.Common.{◌≡◌, ℕ, zero, suc, ◌+◌, ◌-◌, ◌*◌, ◌/◌, ◌%◌, ◌<◌, ◌≤◌, min, ◌⊎◌, Some, None, sym, ap, ◌∙◌, subst, inl, inr, mul-le-mul_right, mod-lt, mul_assoc, suc-mul, mul_comm, add-mul, mul-le-mul_left, mul-zero, div-add-mod', zero-mul, mul-suc, mul-add, mul_right_comm, arith}
use native.Mathlib.Nat.{mod-le, mod-add-mod, add-mul-mod_self_right, le_dest}
use Rattle.std.proofs.lemmas.Bool.{cases_lt}
use Rattle.holds.specs.Walk.{Carried, Lands, Least, Room, Round}

pub lands_round : (r a m w j : ℕ) → Lands r a m w j → Round r a m w j ((r + j * a) / m)
lands_round r a m w j h =
    let split : (r + j * a) / m * m + (r + j * a) % m ≡ r + j * a = div-add-mod' (r + j * a) m in
    (omega arith, omega arith)

pub round_lands : (r a m w j k : ℕ) → Round r a m w j k → Lands r a m w j
round_lands r a m w j k (lo, hi) =
    let same : (r + j * a) % m ≡ (r + j * a - k * m) % m
    = ap (λ (n : ℕ). n % m) (omega arith) ∙ add-mul-mod_self_right (r + j * a - k * m) k m in
    omega (arith, mod-le (r + j * a - k * m) m)

pub quotient_le : (q t a : ℕ) → q * a < t * a + a → q ≤ t
quotient_le q t a h = go (cases_lt t q)
  where
    go : (t < q) ⊎ (q ≤ t) → q ≤ t
    go (inl l) = absurd (omega (arith, suc-mul t a, mul-le-mul_right {m = suc t} {n = q} a l))
    go (inr l) = l

-- ---- one step of Euclid's algorithm

module _ (r a m w v x : ℕ) (below : r < m) (out : w ≤ r) (some : 0 < a) (small : v ≡ min w a) (start : x + r + 1 ≡ m + v) where
  split_x : x / a * a + x % a ≡ x
  split_x = div-add-mod' x a

  split_m : (t : ℕ) → t * m ≡ t * (m / a) * a + t * (m % a)
  split_m t = ap (λ (n : ℕ). t * n) (sym (div-add-mod' m a)) ∙ mul-add t (m / a * a) (m % a) ∙ ap (λ (n : ℕ). n + t * (m % a)) (sym (mul_assoc t (m / a) a))

  -- the number of the step before t rounds of the new walk and k of its own
  abbrev pub before : ℕ → ℕ → ℕ
  before t k = k + x / a + t * (m / a)

  before_times : (t k : ℕ) → before t k * a ≡ k * a + x / a * a + t * (m / a) * a
  before_times t k = add-mul (k + x / a) (t * (m / a)) a ∙ ap (λ (n : ℕ). n + t * (m / a) * a) (add-mul k (x / a) a)

  -- a landing of the new walk is one of the old
  round_back : (t k : ℕ) → Round (x % a) (m % a) a v t k → Round r a m w (before t k) (suc t)
  round_back t k (lo, hi) =
      (omega (arith, split_x, split_m t, before_times t k, suc-mul t m), omega (arith, split_x, split_m t, before_times t k, suc-mul t m))

  abbrev Onward : ℕ → ℕ → Type 0
  Onward s n = (t : ℕ) × (k : ℕ) × Round (x % a) (m % a) a v t k × (before t k ≤ s) × (suc t ≤ n)

  -- and each of the old comes no sooner than one of the new
  round_on : (s n : ℕ) → Round r a m w s n → Onward s n
  round_on s zero (lo, hi) = absurd (omega (arith, zero-mul m))
  round_on s (suc t) (lo, hi) = go (cases_lt a w)
    where
      go : (a < w) ⊎ (w ≤ a) → Onward s (suc t)
      go (inl wide) = (
        0,
        0,
        (omega (arith, zero-mul a), omega (arith, zero-mul a, zero-mul (m % a), mod-lt x some)),
        omega (arith, zero-mul (m / a), quotient_le (x / a) s a (omega (arith, split_x, suc-mul t m))),
        omega arith,
      )
      go (inr narrow) = least (le_dest (quotient_le (before t 0) s a (omega (arith, split_x, split_m t, before_times t 0, zero-mul a, suc-mul t m))))
        where
          least : (k : ℕ) × (before t 0 + k ≡ s) → Onward s (suc t)
          least (k, e) =
              let times : before t k * a ≡ s * a = ap (λ (n : ℕ). n * a) (omega arith) in (
                t,
                k,
                (omega (arith, split_x, split_m t, before_times t k, suc-mul t m), omega (arith, split_x, split_m t, before_times t k, suc-mul t m)),
                omega arith,
                omega arith,
              )

-- ---- the walk in hand against the first one

pub carried_first : (r a m w : ℕ) → Carried r a m w r a m w 1 0 0
carried_first r a m w =
    record {
      sound = λ t k h. subst (λ (n : ℕ). Lands r a m w n) (omega arith) (round_lands r a m w t k h);
      complete = λ j h. (j, (r + j * a) / m, lands_round r a m w j h, omega arith);
    }

index : (A B C q d t k : ℕ) → (A * q + B) * t + A * k + (C + (A * d + B)) ≡ A * (k + d + t * q) + B * suc t + C
index A B C q d t k =
    omega (arith, add-mul (A * q) B t, mul-add A (k + d) (t * q), mul-add A k d, mul_right_comm A q t, mul_assoc A t q, mul-suc B t)

-- a turn of the algorithm keeps it
pub carried_more : (r₀ a₀ m₀ w₀ r a m w A B C v x : ℕ) → r < m → w ≤ r → 0 < a → v ≡ min w a → x + r + 1 ≡ m + v
    → Carried r₀ a₀ m₀ w₀ r a m w A B C
    → Carried r₀ a₀ m₀ w₀ (x % a) (m % a) a v (A * (m / a) + B) A (C + (A * (x / a) + B))
carried_more r₀ a₀ m₀ w₀ r a m w A B C v x below out some small start h =
    record {
      sound = λ t k s.
          subst (λ (n : ℕ). Lands r₀ a₀ m₀ w₀ n) (sym (index A B C (m / a) (x / a) t k))
          (h.sound (before r a m w v x below out some small start t k) (suc t) (round_back r a m w v x below out some small start t k s));
      complete = λ j l. on j (h.complete j l);
    }
  where
    on : (j : ℕ) → (s : ℕ) × (n : ℕ) × Round r a m w s n × (A * s + B * n + C ≤ j)
        → (t : ℕ) × (k : ℕ) × Round (x % a) (m % a) a v t k × ((A * (m / a) + B) * t + A * k + (C + (A * (x / a) + B)) ≤ j)
    on j (s, n, o, l) = last (round_on r a m w v x below out some small start s n o)
      where
        last : (t : ℕ) × (k : ℕ) × Round (x % a) (m % a) a v t k × (k + x / a + t * (m / a) ≤ s) × (suc t ≤ n)
            → (t : ℕ) × (k : ℕ) × Round (x % a) (m % a) a v t k × ((A * (m / a) + B) * t + A * k + (C + (A * (x / a) + B)) ≤ j)
        last (t, k, o', p, q) = (
          t,
          k,
          o',
          omega (arith, index A B C (m / a) (x / a) t k, mul-le-mul_left {m = k + x / a + t * (m / a)} {n = s} A p, mul-le-mul_left {m = suc t} {n = n} B q),
        )

-- where the walk in hand lands at once, the count is the least landing
pub carried_lands : (r₀ a₀ m₀ w₀ r a m w A B C : ℕ) → Carried r₀ a₀ m₀ w₀ r a m w A B C → r < w → Least (Lands r₀ a₀ m₀ w₀) (Some C)
carried_lands r₀ a₀ m₀ w₀ r a m w A B C h l = (
  subst (λ (n : ℕ). Lands r₀ a₀ m₀ w₀ n) (omega (arith, mul-zero A, mul-zero B)) (h.sound 0 0 (omega (arith, zero-mul m), omega (arith, zero-mul m, zero-mul a))),
  λ i k. omega (arith, (h.complete i k).3),
)

-- and where it stands still outside, there is none
pub carried_never : (r₀ a₀ m₀ w₀ r a m w A B C : ℕ) → Carried r₀ a₀ m₀ w₀ r a m w A B C → r < m → w ≤ r → a ≡ 0 → Least (Lands r₀ a₀ m₀ w₀) None
carried_never r₀ a₀ m₀ w₀ r a m w A B C h below out e = λ j l. go (h.complete j l)
  where
    never : (t k : ℕ) → t * a ≡ 0 → Round r a m w t k → ⊥
    never t zero z (lo, hi) = omega (arith, zero-mul m)
    never t (suc k) z (lo, hi) = omega (arith, suc-mul k m)

    go : {j : ℕ} → (t : ℕ) × (k : ℕ) × Round r a m w t k × (A * t + B * k + C ≤ j) → ⊥
    go (t, k, o, p) = never t k (ap (λ (n : ℕ). t * n) e ∙ mul-zero t) o

-- ---- the numbers stay small

pub room_first : (n r a m : ℕ) → r < m → a < m → m ≤ n → Room n r a m 1 0 0
room_first n r a m h k l = record { at = h; step = k; size = omega arith; some = omega arith; order = omega arith; whole = omega arith; count = omega arith }

-- a turn keeps them
module _ (m₀ r a m A B C x : ℕ) (some : 0 < a) (short : x < m) (h : Room m₀ r a m A B C) where
  step_le : A * (x / a) ≤ A * (m / a)
  step_le =
      mul-le-mul_left {m = x / a} {n = m / a} A
      (quotient_le (x / a) (m / a) a (omega (arith, div-add-mod' x a, div-add-mod' m a, mod-lt m some)))

  grows : A ≤ A * (m / a)
  grows = go (m / a) (div-add-mod' m a)
    where
      go : (q : ℕ) → q * a + m % a ≡ m → A ≤ A * q
      go zero e = absurd (omega (arith, zero-mul a, mod-lt m some, h.step))
      go (suc q) e = omega (arith, mul-suc A q)

  whole_more : (A * (m / a) + B) * a + A * (m % a) ≤ m₀
  whole_more =
      omega (arith, add-mul (A * (m / a)) B a, mul_assoc A (m / a) a, mul-add A (m / a * a) (m % a), ap (λ (n : ℕ). A * n) (div-add-mod' m a), h.whole)

  pub room_more : Room m₀ (x % a) (m % a) a (A * (m / a) + B) A (C + (A * (x / a) + B))
  room_more =
      record {
        at = mod-lt x some;
        step = mod-lt m some;
        size = omega (arith, h.step, h.size);
        some = omega (arith, grows, h.some);
        order = omega (arith, grows);
        whole = whole_more;
        count = omega (arith, step_le, grows, h.count);
      }

-- ---- a least landing

-- the walk comes round again after m steps
pub least_below : (r a m w j : ℕ) → 0 < m → Least (Lands r a m w) (Some j) → j < m
least_below r a m w j some (here, least) = go (cases_lt j m)
  where
    go : (j < m) ⊎ (m ≤ j) → j < m
    go (inl l) = l
    go (inr l) = absurd (sooner (le_dest l))
      where
        sooner : (i : ℕ) × (m + i ≡ j) → ⊥
        sooner (i, e) =
            let same : (r + j * a) % m ≡ (r + i * a) % m
            = ap (λ (n : ℕ). n % m) (omega (arith, ap (λ (n : ℕ). n * a) e, add-mul m i a, mul_comm m a)) ∙ add-mul-mod_self_right (r + i * a) a m in
            omega (arith, least i (omega arith))

-- start and step may be reduced to the size
reduced : (x p m j : ℕ) → (x + j * p) % m ≡ (x % m + j * (p % m)) % m
reduced x p m j =
    ap (λ (n : ℕ). n % m) (omega (arith, ap (λ (n : ℕ). j * n) (div-add-mod' p m), mul-add j (p / m * m) (p % m), mul_assoc j (p / m) m))
    ∙ add-mul-mod_self_right (x + j * (p % m)) (j * (p / m)) m ∙ sym (mod-add-mod x m (j * (p % m)))

pub lands_reduced : (x p m w j : ℕ) → Lands x p m w j → Lands (x % m) (p % m) m w j
lands_reduced x p m w j h = omega (arith, reduced x p m j)

pub lands_whole : (x p m w j : ℕ) → Lands (x % m) (p % m) m w j → Lands x p m w j
lands_whole x p m w j h = omega (arith, reduced x p m j)
