-- The pair test is exact: it passes where no instant lies in both holds, and nowhere else.
use Rattle.std.proofs.Common.{◌≡◌, ℕ, ◌+◌, ◌-◌, ◌*◌, ◌%◌, ◌<◌, ◌≤◌, Bool, leb, ◌⊎◌, ◌↔◌, Decides, sym, ap, ◌∙◌, inl, inr, ⊎_elim, mod-eq_of_lt, arith}
use native.Mathlib.Nat.{mod-add-mod, add-mod_right}
use Rattle.std.proofs.lemmas.Bool.Decides.{Decides-like}
use Rattle.std.proofs.lemmas.Bool.{cases_lt, leb-true, le-leb}
use Rattle.holds.specs.Span.{Span, Proper, Meet, gap, common, distance, Clear}
use Rattle.holds.proofs.Residue.{mod_cancel, gap_below, gap_from, gcd_positive, meeting_runs, runs_agree}

-- what the gap does to a later instant
gap_later : (a b g y : ℕ) → 0 < g → (b + y) % g ≡ (a + (gap a b g + y)) % g
gap_later a b g y h =
    sym (mod-add-mod b g y) ∙ ap (λ (n : ℕ). (n + y) % g) (sym (gap_from a b g h)) ∙ mod-add-mod (a + gap a b g) g y
    ∙ ap (λ (n : ℕ). n % g) (omega arith)

module _ (h1 h2 : Span) (p1 : Proper h1) (p2 : Proper h2) where
  positive : 0 < common h1 h2
  positive = gcd_positive h1.period h2.period (omega (arith, p1.some, p1.fits))

  -- in one instant of both, the places inside the two runs have residues that the test keeps apart
  pub clear_apart : Clear h1 h2 → Meet h1 h2 → ⊥
  clear_apart (l, r) (n, (k, (a, b)), (j, (a', b'))) =
      omega (arith, sym (mod-eq_of_lt lx) ∙ shifted ∙ mod-eq_of_lt ly)
    where
      x : ℕ
      x = n - (h1.start + k * h1.period)

      y : ℕ
      y = n - (h2.start + j * h2.period)

      lx : x < common h1 h2
      lx = omega arith

      ly : distance h1 h2 + y < common h1 h2
      ly = omega arith

      agree : (h1.start + x) % common h1 h2 ≡ (h2.start + y) % common h1 h2
      agree = runs_agree h1.period h2.period (h1.start + x) (h2.start + y) k j (omega arith)

      shifted : x % common h1 h2 ≡ (distance h1 h2 + y) % common h1 h2
      shifted =
          mod_cancel h1.start x (distance h1 h2 + y) (common h1 h2) positive
          (agree ∙ gap_later h1.start h2.start (common h1 h2) y positive)

  -- a run of h2 starts inside a run of h1
  meet_second : distance h1 h2 < h1.width → Meet h1 h2
  meet_second l =
      go (meeting_runs h1.period h2.period (h1.start + distance h1 h2) h2.start (omega (arith, p1)) (omega (arith, p2))
      (gap_from h1.start h2.start (common h1 h2) positive))
    where
      go : (k : ℕ) × (j : ℕ) × (h1.start + distance h1 h2 + k * h1.period ≡ h2.start + j * h2.period) → Meet h1 h2
      go (k, j, e) = (h2.start + j * h2.period, (k, (omega arith, omega arith)), (j, (omega arith, omega (arith, p2))))

  -- a run of h1 starts inside a run of h2
  meet_first : common h1 h2 < distance h1 h2 + h2.width → Meet h1 h2
  meet_first l =
      go (meeting_runs h1.period h2.period h1.start (h2.start + (common h1 h2 - distance h1 h2)) (omega (arith, p1)) (omega (arith, p2)) same)
    where
      below : distance h1 h2 < common h1 h2
      below = gap_below h1.start h2.start (common h1 h2) positive

      same : h1.start % common h1 h2 ≡ (h2.start + (common h1 h2 - distance h1 h2)) % common h1 h2
      same =
          sym (add-mod_right h1.start (common h1 h2))
          ∙ ap (λ (n : ℕ). (h1.start + n) % common h1 h2) (omega (arith, below))
          ∙ sym (gap_later h1.start h2.start (common h1 h2) (common h1 h2 - distance h1 h2) positive)

      go : (k : ℕ) × (j : ℕ) × (h1.start + k * h1.period ≡ h2.start + (common h1 h2 - distance h1 h2) + j * h2.period) → Meet h1 h2
      go (k, j, e) = (h1.start + k * h1.period, (k, (omega arith, omega (arith, p1))), (j, (omega arith, omega arith)))

  pub clear_or_meet : Clear h1 h2 ⊎ Meet h1 h2
  clear_or_meet = go (cases_lt (distance h1 h2) h1.width) (cases_lt (common h1 h2) (distance h1 h2 + h2.width))
    where
      go : (distance h1 h2 < h1.width) ⊎ (h1.width ≤ distance h1 h2)
          → (common h1 h2 < distance h1 h2 + h2.width) ⊎ (distance h1 h2 + h2.width ≤ common h1 h2)
          → Clear h1 h2 ⊎ Meet h1 h2
      go (inl l) r = inr (meet_second l)
      go (inr l) (inl r) = inr (meet_first r)
      go (inr l) (inr r) = inl (l, r)

  pub pair_test : Clear h1 h2 ↔ (Meet h1 h2 → ⊥)
  pair_test = (clear_apart, λ never. ⊎_elim (λ c. c) (λ m. absurd (never m)) clear_or_meet)

-- ---- the two tests of the code, at a number g that is the gcd and a number d that is the distance

-- once the first has passed, the second decides
pub decided_then : (h1 h2 : Span) (g d x : ℕ) → g ≡ common h1 h2 → d ≡ gap h1.start h2.start g → h1.width ≤ d → x ≡ d + h2.width
    → Decides (leb x g) (Clear h1 h2)
decided_then h1 h2 g d x e s l k =
    let same : d ≡ distance h1 h2 = s ∙ ap (λ (n : ℕ). gap h1.start h2.start n) e in
    (λ t. (omega arith, omega (arith, leb-true x g t)), λ c. le-leb x g (omega (arith, c)))

-- and the first alone decides where it fails
pub decided_else : (h1 h2 : Span) (g d x : ℕ) → g ≡ common h1 h2 → d ≡ gap h1.start h2.start g → d < h1.width → d < x
    → Decides (leb x d) (Clear h1 h2)
decided_else h1 h2 g d x e s l k =
    let same : d ≡ distance h1 h2 = s ∙ ap (λ (n : ℕ). gap h1.start h2.start n) e in
    (λ t. absurd (omega (arith, leb-true x d t)), λ c. absurd (omega (arith, c)))

-- an answer of the formula is one of the instants
pub decided_apart : (h1 h2 : Span) (r : Bool) → Proper h1 → Proper h2 → Decides r (Clear h1 h2) → Decides r (Meet h1 h2 → ⊥)
decided_apart h1 h2 r p1 p2 d = Decides-like r (pair_test h1 h2 p1 p2).0 (pair_test h1 h2 p1 p2).1 d
