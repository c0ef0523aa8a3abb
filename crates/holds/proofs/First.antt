-- The bounded search finds the first meeting over all time.
use Rattle.std.proofs.Common.{◌≡◌, ℕ, ◌+◌, ◌-◌, ◌*◌, ◌/◌, ◌%◌, ◌<◌, ◌≤◌, max, Some, None, Decides, Option, refl, ap, ◌∙◌, ⊎_elim, mod-lt, mul_assoc, mul_comm, le_antisymm, mul-pos, div-add-mod', arith}
use Rattle.std.proofs.lemmas.Bool.Decides.{Decides-and}
use Rattle.std.proofs.lemmas.Bool.{cases_lt, both_ways}
use Rattle.holds.specs.Span.{Span, Proper, Busy, Meet, busy}
use Rattle.holds.specs.Search.{first_from}
use Rattle.holds.specs.First.{both, first, IsFirst}
use Rattle.holds.proofs.Busy.{busy_tells, busy_earlier, busy_begun}
use Rattle.holds.proofs.Search.{Found, first_found}

-- an instant in both, of the stretch that is searched, and not past n
abbrev pub Near : Span → Span → ℕ → Type 0
Near h1 h2 n =
    (m : ℕ) × (m ≤ n) × (max h1.start h2.start ≤ m) × (m < max h1.start h2.start + h1.period * h2.period) × Busy h1 m × Busy h2 m

module _ (h1 h2 : Span) (p1 : Proper h1) (p2 : Proper h2) where
  -- a meeting is brought back into the stretch that is searched
  pub near : (n : ℕ) → Busy h1 n → Busy h2 n → Near h1 h2 n
  near n b1 b2 = (
    base + t % whole,
    omega (arith, split, later),
    omega arith,
    omega (arith, short),
    busy_earlier h1 n (base + t % whole) (t / whole * h2.period) p1 (omega arith) (omega (arith, split, later, turn1)) b1,
    busy_earlier h2 n (base + t % whole) (t / whole * h1.period) p2 (omega arith) (omega (arith, split, later, turn2)) b2,
  )
    where
      base : ℕ
      base = max h1.start h2.start

      whole : ℕ
      whole = h1.period * h2.period

      t : ℕ
      t = n - base

      later : base ≤ n
      later = omega (arith, busy_begun h1 n b1, busy_begun h2 n b2)

      split : t / whole * whole + t % whole ≡ t
      split = div-add-mod' t whole

      short : t % whole < whole
      short = mod-lt t (mul-pos (omega (arith, p1)) (omega (arith, p2)))

      turn1 : t / whole * h2.period * h1.period ≡ t / whole * whole
      turn1 = mul_assoc (t / whole) h2.period h1.period ∙ ap (λ (x : ℕ). t / whole * x) (mul_comm h2.period h1.period)

      turn2 : t / whole * h1.period * h2.period ≡ t / whole * whole
      turn2 = mul_assoc (t / whole) h1.period h2.period

  -- so holds that meet, meet there
  pub meeting_bound : Meet h1 h2 → (n : ℕ) × (n < max h1.start h2.start + h1.period * h2.period) × Busy h1 n × Busy h2 n
  meeting_bound (n, b1, b2) = go (near n b1 b2)
    where
      go : Near h1 h2 n → (m : ℕ) × (m < max h1.start h2.start + h1.period * h2.period) × Busy h1 m × Busy h2 m
      go (m, a, b, c, d, e) = (m, c, d, e)

  -- the test of the search
  both_tells : (n : ℕ) → Decides (both h1 h2 n) (Busy h1 n × Busy h2 n)
  both_tells n = Decides-and (busy h1 n) (busy h2 n) (busy_tells h1 n p1) (busy_tells h2 n p2)

  -- what the search finds is the first of all time, since an earlier or a missed meeting would be brought back into the stretch
  pub first_is : IsFirst h1 h2 (first h1 h2)
  unfolding first
  first_is = go (first_from (both h1 h2) (h1.period * h2.period) (max h1.start h2.start))
      (first_found (both h1 h2) (h1.period * h2.period) (max h1.start h2.start))
    where
      go : (o : Option ℕ) → Found (both h1 h2) (h1.period * h2.period) (max h1.start h2.start) o → IsFirst h1 h2 o
      go None f = λ t. never t.0 (near t.0 t.1 t.2)
        where
          never : (n : ℕ) → Near h1 h2 n → ⊥
          never n (m, a, b, c, d, e) = both_ways (both h1 h2 m) (f m b c) ((both_tells m).1 (d, e))
      go (Some n) (a, b, c, f) = (((both_tells n).0 c).0, ((both_tells n).0 c).1, least)
        where
          least : (m : ℕ) → Busy h1 m → Busy h2 m → n ≤ m
          least m b1 b2 =
              ⊎_elim
              (λ l. absurd (both_ways (both h1 h2 m) (f m (omega (arith, busy_begun h1 m b1, busy_begun h2 m b2)) l) ((both_tells m).1 (b1, b2))))
              (λ l. l)
              (cases_lt m n)

-- there is one first instant
pub first_only : (h1 h2 : Span) (o o' : Option ℕ) → IsFirst h1 h2 o → IsFirst h1 h2 o' → o ≡ o'
first_only h1 h2 None None a b = refl
first_only h1 h2 None (Some n) a b = absurd (a (n, b.0, b.1))
first_only h1 h2 (Some m) None a b = absurd (b (m, a.0, a.1))
first_only h1 h2 (Some m) (Some n) a b = ap Some (le_antisymm (a.2 n b.0 b.1) (b.2 m a.0 a.1))
