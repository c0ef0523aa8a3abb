-- The test `busy` decides whether some run holds an instant.
use Rattle.std.proofs.Common.{◌≡◌, ℕ, suc, ◌+◌, ◌-◌, ◌*◌, ◌/◌, ◌%◌, ◌<◌, ◌≤◌, Bool, true, false, cond, ltb, leb, ◌⊎◌, Some, None, Decides, Option, refl, sym, subst, ap, ◌∙◌, inl, inr, mul-le-mul_right, suc-mul, div-add-mod', arith}
use native.Mathlib.Nat.{add-mul-mod_self_right}
use lib.Arith.{digits_mod}
use Rattle.holds.specs.Run.{RunAt, run}
use Rattle.std.proofs.lemmas.Bool.Decides.{Decides-and, Decides-like, Decides-ltb}
use Rattle.std.proofs.lemmas.Bool.{leb-true, le-leb, cases_order}
use Rattle.holds.specs.Span.{Span, Proper, RunHolds, Busy, busy}

-- the instant is not before the start, and early in its period
abbrev pub In : Span → ℕ → Type 0
In h n = (h.start ≤ n) × ((n - h.start) % h.period < h.width)

pub in_busy : (h : Span) (n : ℕ) → In h n → Busy h n
in_busy h n (l, r) =
    let split : (n - h.start) / h.period * h.period + (n - h.start) % h.period ≡ n - h.start = div-add-mod' (n - h.start) h.period in
    ((n - h.start) / h.period, (omega arith, omega arith))

pub busy_in : (h : Span) (n : ℕ) → Proper h → Busy h n → In h n
busy_in h n p (k, (a, b)) =
    let below : n - (h.start + k * h.period) < h.period = omega (arith, p) in
    let same : (n - h.start) % h.period ≡ n - (h.start + k * h.period)
    = ap (λ (m : ℕ). m % h.period) (omega arith) ∙ digits_mod k below in
    (omega arith, omega arith)

-- so the test is exact
pub busy_tells : (h : Span) (n : ℕ) → Proper h → Decides (busy h n) (Busy h n)
unfolding busy
busy_tells h n p =
    Decides-like (busy h n) (in_busy h n) (busy_in h n p)
    (Decides-and (leb h.start n) (ltb ((n - h.start) % h.period) h.width)
    (leb-true h.start n, le-leb h.start n) (Decides-ltb ((n - h.start) % h.period) h.width))

-- whole periods earlier, but not before the start
pub busy_earlier : (h : Span) (n m q : ℕ) → Proper h → h.start ≤ m → n ≡ m + q * h.period → Busy h n → Busy h m
busy_earlier h n m q p l e b =
    let before : (n - h.start) % h.period < h.width = (busy_in h n p b).1 in
    let same : (n - h.start) % h.period ≡ (m - h.start) % h.period
    = ap (λ (x : ℕ). x % h.period) (omega arith) ∙ add-mul-mod_self_right (m - h.start) q h.period in
    in_busy h m (l, omega arith)

pub busy_begun : (h : Span) (n : ℕ) → Busy h n → h.start ≤ n
busy_begun h n (k, (a, b)) = omega arith

-- ---- the run that holds an instant

-- two runs that hold one instant are one
pub run_only : (h : Span) (n k j : ℕ) → Proper h → RunHolds h k n → RunHolds h j n → j ≡ k
run_only h n k j p (a, b) (a', b') = go (cases_order j k)
  where
    go : (j ≡ k) ⊎ ((j < k) ⊎ (k < j)) → j ≡ k
    go (inl e) = e
    go (inr (inl l)) = absurd (omega (arith, p, suc-mul j h.period, mul-le-mul_right {m = suc j} {n = k} h.period l))
    go (inr (inr l)) = absurd (omega (arith, p, suc-mul k h.period, mul-le-mul_right {m = suc k} {n = j} h.period l))

-- the run is the number of whole periods since the start
pub run_is : (h : Span) (n : ℕ) (o : Option ℕ) → Proper h → o ≡ run h n → RunAt h n o
unfolding in_busy busy
run_is h n o p e = subst (RunAt h n) (sym e) (go (busy h n) (busy_tells h n p))
  where
    k : ℕ
    k = (n - h.start) / h.period

    go : (t : Bool) → Decides t (Busy h n) → RunAt h n (cond t (Some k) None)
    go true d =
        let here = (in_busy h n (busy_in h n p (d.0 refl))).1 in
        (here, λ j t. run_only h n k j p here t)
    go false d = λ b. let wrong = d.1 b in cc
