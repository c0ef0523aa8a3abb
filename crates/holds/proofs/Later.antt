-- How long a hold is put off until it is clear: the distance grows with it, and turns around at the divisor of the periods.
use Rattle.std.proofs.Common.{◌≡◌, ℕ, ◌+◌, ◌-◌, ◌%◌, ◌<◌, ◌≤◌, ◌⊎◌, Some, None, sym, ap, ◌∙◌, inl, inr, mod-lt, mod-eq_of_lt, arith}
use native.Mathlib.Nat.{mod-add-mod, add-mod-mod, add-mod_right}
use Rattle.std.proofs.lemmas.Bool.{cases_lt}
use Rattle.holds.specs.Span.{Span, Proper, Meet, common, distance, gap, later}
use Rattle.holds.specs.Walk.{Least}
use Rattle.holds.proofs.Pair.{pair_test}
use Rattle.holds.proofs.Residue.{gap_below, gap_from, gap_only, gcd_positive}

-- the distance to a later start
gap_put_off : (a b g x : ℕ) → 0 < g → gap a (b + x) g ≡ (gap a b g + x) % g
gap_put_off a b g x h = sym (gap_only a (b + x) g ((gap a b g + x) % g) h (mod-lt (gap a b g + x) h) same)
  where
    same : (a + (gap a b g + x) % g) % g ≡ (b + x) % g
    same =
        add-mod-mod a (gap a b g + x) g ∙ ap (λ (n : ℕ). n % g) (omega arith) ∙ sym (mod-add-mod (a + gap a b g) g x)
        ∙ ap (λ (n : ℕ). (n + x) % g) (gap_from a b g h) ∙ mod-add-mod b g x

module _ (own held : Span) (po : Proper own) (ph : Proper held) (g d : ℕ) (eg : g ≡ common held own) (ed : d ≡ gap held.start own.start g) where
  -- put off by x instants, the two share no instant
  abbrev Free : ℕ → Type 0
  Free x = Meet held (later x own) → ⊥

  some : 0 < g
  some = omega (arith, gcd_positive held.period own.period (omega (arith, ph.some, ph.fits)))

  below : d < g
  below = omega (arith, gap_below held.start own.start g some)

  put_off : (x : ℕ) → distance held (later x own) ≡ (d + x) % g
  put_off x =
      ap (λ (n : ℕ). gap held.start (own.start + x) n) (sym eg) ∙ gap_put_off held.start own.start g x some
      ∙ ap (λ (n : ℕ). (n + x) % g) (sym ed)

  later_proper : (x : ℕ) → Proper (later x own)
  later_proper x = record { some = po.some; fits = po.fits }

  -- by the pair test, at a place of the circle
  free_at : (x y : ℕ) → (d + x) % g ≡ y → held.width ≤ y → y + own.width ≤ g → Free x
  free_at x y e l r = (pair_test held (later x own) ph (later_proper x)).0 (omega (arith, put_off x), omega (arith, put_off x))

  free_tells : (x : ℕ) → Free x → (held.width ≤ (d + x) % g) × ((d + x) % g + own.width ≤ g)
  free_tells x f =
      let c = (pair_test held (later x own) ph (later_proper x)).1 f in
      (omega (arith, c.0, put_off x), omega (arith, c.1, put_off x))

  -- before the circle turns around, and in the round after
  same_round : (x : ℕ) → d + x < g → (d + x) % g ≡ d + x
  same_round x l = mod-eq_of_lt l

  next_round : (x : ℕ) → g ≤ d + x → d + x < g + g → (d + x) % g ≡ d + x - g
  next_round x l r =
      let back : d + x - g < g = omega arith in
      ap (λ (n : ℕ). n % g) (omega arith) ∙ add-mod_right (d + x - g) g ∙ mod-eq_of_lt back

  -- the two widths leave no room
  pub wait_never : g < held.width + own.width → Least Free None
  wait_never l = λ x f. let t = free_tells x f in omega (arith, t.0, t.1)

  -- at once
  pub wait_none : held.width ≤ d → d + own.width ≤ g → Least Free (Some 0)
  wait_none l r = (free_at 0 d (ap (λ (n : ℕ). n % g) (omega arith) ∙ mod-eq_of_lt below) l r, λ i f. omega arith)

  -- until the end of the held run
  pub wait_end : held.width + own.width ≤ g → d < held.width → Least Free (Some (held.width - d))
  wait_end l r = (free_at (held.width - d) held.width there (omega arith) (omega arith), least)
    where
      there : (d + (held.width - d)) % g ≡ held.width
      there = same_round (held.width - d) (omega (arith, po.some)) ∙ omega arith

      least : (i : ℕ) → Free i → held.width - d ≤ i
      least i f = go (cases_lt i (held.width - d))
        where
          go : (i < held.width - d) ⊎ (held.width - d ≤ i) → held.width - d ≤ i
          go (inl s) = absurd (omega (arith, (free_tells i f).0, same_round i (omega arith)))
          go (inr s) = s

  -- until the end of the next held run
  pub wait_next : held.width + own.width ≤ g → held.width ≤ d → g < d + own.width → Least Free (Some (g - d + held.width))
  wait_next l s r = (free_at (g - d + held.width) held.width there (omega arith) (omega arith), least)
    where
      there : (d + (g - d + held.width)) % g ≡ held.width
      there = next_round (g - d + held.width) (omega (arith, below)) (omega (arith, below, po.some)) ∙ omega (arith, below)

      least : (i : ℕ) → Free i → g - d + held.width ≤ i
      least i f = go (cases_lt i (g - d + held.width)) (cases_lt (d + i) g)
        where
          go : (i < g - d + held.width) ⊎ (g - d + held.width ≤ i) → (d + i < g) ⊎ (g ≤ d + i) → g - d + held.width ≤ i
          go (inr k) t = k
          go (inl k) (inl t) = absurd (omega (arith, (free_tells i f).1, same_round i t))
          go (inl k) (inr t) = absurd (omega (arith, below, (free_tells i f).0, next_round i t (omega (arith, below))))
