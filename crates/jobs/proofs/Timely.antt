-- A delay costs its length of slack.
use Rattle.std.proofs.Common.{◌≡◌, ℕ, ◌+◌, ◌≤◌, Bool, true, false, cond, ◌&&◌, ltb, leb, ℤ, pos, ◌-ℤ◌, Some, None, Option, refl, ap, arith}
use Rattle.std.proofs.lemmas.Int.{ints}
use Rattle.std.proofs.lemmas.Bool.{le-leb}
use Rattle.std.specs.Prelude.{int_lt, is_none}
use Rattle.holds.specs.Held.{flowing}
use Rattle.holds.specs.Limits.{latest, longest}
use Rattle.holds.specs.Slack.{Flow}
use Rattle.holds.specs.Span.{Span}
use Rattle.jobs.specs.Slacks.{lateness, slack_of}

-- what is late with a delay, by the slack without it
abbrev pub LateBy : ℕ → Option ℤ → Option ℤ → Type 0
LateBy v None o = lateness o ≡ None
LateBy v (Some z) o = (int_lt z (pos v) ≡ true → is_none (lateness o) ≡ false) × (int_lt z (pos v) ≡ false → lateness o ≡ None)

-- what arrives later by v has less slack by v
less : (x a v : ℕ) → LateBy v (Some (pos x -ℤ pos a)) (Some (pos x -ℤ pos (a + v)))
less x a v = (λ h. grind (arith, ints, h), λ h. grind (arith, ints, h))

module _ (by p : ℕ) (reader : Option Span) (a v : ℕ) (fits : a + v ≤ latest) where
  abbrev rest : Bool
  rest = leb by latest && (ltb 0 p && leb p longest)

  abbrev at : ℕ → Flow
  at x = record { arrival = x; due = by; period = p }

  flowing_at : (x : ℕ) → x ≤ latest → flowing x by p ≡ cond rest (Some (at x)) None
  flowing_at x k = ap (λ t. cond (t && rest) (Some (at x)) None) (le-leb x latest k)

  -- a slack that is none with no delay is none with any, and one that is z is z less the delay
  pub after_delay : LateBy v (slack_of (flowing a by p) reader) (slack_of (flowing (a + v) by p) reader)
  after_delay = rw (flowing_at a (omega (arith, fits)), flowing_at (a + v) fits) (go rest reader)
    where
      go : (t : Bool) (o : Option Span) → LateBy v (slack_of (cond t (Some (at a)) None) o) (slack_of (cond t (Some (at (a + v))) None) o)
      go false o = refl
      go true None = refl
      go true (Some r) = less _ a v
