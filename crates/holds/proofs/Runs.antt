-- The first meeting of two holds, by the first run of one that meets a run of the other.
use Rattle.std.proofs.Common.{◌≡◌, ℕ, zero, suc, ◌+◌, ◌-◌, ◌*◌, ◌/◌, ◌%◌, ◌<◌, ◌≤◌, max, ◌⊎◌, Some, None, sym, refl, ap, ◌∙◌, inl, inr, mul-le-mul_right, mod-lt, suc-mul, add-mul, mul-le-mul, div-add-mod', zero-mul, arith}
use native.Mathlib.Nat.{le_dest}
use Rattle.std.proofs.lemmas.Bool.{cases_lt}
use Rattle.holds.specs.Limits.{latest, longest}
use Rattle.holds.specs.Span.{Span, Proper, Busy}
use Rattle.holds.specs.First.{IsFirst}
use Rattle.holds.specs.Walk.{EndsAfter, Lands, Least, Round}
use Rattle.holds.proofs.Walk.{quotient_le, lands_round, round_lands, lands_reduced, lands_whole}

-- past the end of run 0, whole periods are counted from there
pub ends_later : (h : Span) (n : ℕ) → Proper h → h.start + h.width ≤ n
    → EndsAfter h n (h.start + ((n - (h.start + h.width)) / h.period + 1) * h.period)
ends_later h n p l =
    record {
      run = (d / h.period + 1, refl);
      ends = omega (arith, split, short, add-mul (d / h.period) 1 h.period);
      least = λ k b. omega (arith, mul-le-mul_right {m = d / h.period + 1} {n = k} h.period (beyond k b));
    }
  where
    d : ℕ
    d = n - (h.start + h.width)

    split : d / h.period * h.period + d % h.period ≡ d
    split = div-add-mod' d h.period

    short : d % h.period < h.period
    short = mod-lt d (omega (arith, p))

    beyond : (k : ℕ) → n < h.start + k * h.period + h.width → d / h.period + 1 ≤ k
    beyond zero b = absurd (omega arith)
    beyond (suc k) b = omega (arith, quotient_le (d / h.period) k h.period (omega (arith, split, suc-mul k h.period)))

-- the run starts no more than a period after the instant, since the run before it ended by then
pub ends_near : (h : Span) (n t : ℕ) → Proper h → EndsAfter h n t → t ≤ max h.start (n + h.period)
ends_near h n t p e = go e.run
  where
    go : (k : ℕ) × (t ≡ h.start + k * h.period) → t ≤ max h.start (n + h.period)
    go (zero, s) = omega (arith, zero-mul h.period)
    go (suc k, s) = on (cases_lt n (h.start + k * h.period + h.width))
      where
        on : (n < h.start + k * h.period + h.width) ⊎ (h.start + k * h.period + h.width ≤ n) → t ≤ max h.start (n + h.period)
        on (inl l) = absurd (omega (arith, p, suc-mul k h.period, e.least k l))
        on (inr l) = omega (arith, suc-mul k h.period)

-- begin is the start of the first run of h1 that ends after h2 begins, its last instant is x after that, and w is the width in which a run of
-- h1 meets one of h2
module _ (h1 h2 : Span) (p1 : Proper h1) (p2 : Proper h2) (begin x w : ℕ) (b : EndsAfter h1 h2.start begin)
    (ahead : x + h2.start + 1 ≡ begin + h1.width) (wide : w + 1 ≡ h1.width + h2.width) where
  -- run i of h1, counted from begin, meets some run of h2
  abbrev pub Meets : ℕ → Type 0
  Meets i = Lands (x % h2.period) (h1.period % h2.period) h2.period w i

  -- an instant of both lies in a run of h1 that meets one of h2
  both_meets : (n : ℕ) → Busy h1 n → Busy h2 n → (i : ℕ) × Meets i × (begin + i * h1.period ≤ n)
  both_meets n (k, (lo, hi)) (l, (lo', hi')) = go b.run
    where
      go : (q : ℕ) × (begin ≡ h1.start + q * h1.period) → (i : ℕ) × Meets i × (begin + i * h1.period ≤ n)
      go (q, e) = on (le_dest (quotient_le q k h1.period (omega (arith, b.least k (omega arith), p1))))
        where
          on : (i : ℕ) × (q + i ≡ k) → (i : ℕ) × Meets i × (begin + i * h1.period ≤ n)
          on (i, s) =
              let run : k * h1.period ≡ q * h1.period + i * h1.period = ap (λ (m : ℕ). m * h1.period) (sym s) ∙ add-mul q i h1.period in (
                i,
                lands_reduced x h1.period h2.period w i
                    (round_lands x h1.period h2.period w i l (omega (arith, p1, p2), omega (arith, p1, p2))),
                omega arith,
              )

  -- so without such a run the holds never meet
  pub never_meet : Least Meets None → IsFirst h1 h2 None
  never_meet f = λ t. go (both_meets t.0 t.1 t.2)
    where
      go : {n : ℕ} → (i : ℕ) × Meets i × (begin + i * h1.period ≤ n) → ⊥
      go (i, m, l) = f i m

  -- and the first such run meets first where it and the first run of h2 that ends after its start have both begun
  pub meet_first : (j t : ℕ) → Least Meets (Some j) → EndsAfter h2 (begin + j * h1.period) t → IsFirst h1 h2 (Some (max (begin + j * h1.period) t))
  meet_first j t (here, least) e = (in1 b.run, in2 e.run, λ n b1 b2. first n b1 b2)
    where
      run : ℕ
      run = begin + j * h1.period

      round : Round x h1.period h2.period w j ((x + j * h1.period) / h2.period)
      round =
          lands_round x h1.period h2.period w j
          (lands_whole x h1.period h2.period w j here)

      early : t < run + h1.width
      early = omega (arith, round, p1, p2, e.least ((x + j * h1.period) / h2.period) (omega (arith, round, p1, p2)))

      in1 : (q : ℕ) × (begin ≡ h1.start + q * h1.period) → Busy h1 (max run t)
      in1 (q, s) = (q + j, (omega (arith, add-mul q j h1.period), omega (arith, add-mul q j h1.period, early, p1)))

      in2 : (q : ℕ) × (t ≡ h2.start + q * h2.period) → Busy h2 (max run t)
      in2 (q, s) = (q, (omega arith, omega (arith, e.ends, p2)))

      first : (n : ℕ) → Busy h1 n → Busy h2 n → max run t ≤ n
      first n b1 (l, (lo, hi)) = go (both_meets n b1 (l, (lo, hi)))
        where
          go : (i : ℕ) × Meets i × (begin + i * h1.period ≤ n) → max run t ≤ n
          go (i, m, le) =
              let sooner : run ≤ n = omega (arith, mul-le-mul_right {m = j} {n = i} h1.period (least i m)) in
              omega (arith, e.least l (omega arith))

-- ---- the sums fit

pub begin_fits : (h : Span) (n t : ℕ) → Proper h → n ≤ latest → h.start ≤ latest → h.period ≤ longest
    → EndsAfter h n t → t ≤ latest + longest
begin_fits h n t p l s q e = omega (arith, ends_near h n t p e)

pub run_fits : (j p m : ℕ) → j < m → p ≤ longest → m ≤ longest → j * p ≤ longest * longest
run_fits j p m l q r = omega (arith, mul-le-mul {n₁ = j} {m₁ = p} {n₂ = longest} {m₂ = longest} (omega arith) q)
