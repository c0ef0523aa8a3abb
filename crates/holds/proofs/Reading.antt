-- The least time from a packet's period to the run that reads it.
use Rattle.std.proofs.Common.{◌≡◌, ℕ, suc, ◌+◌, ◌-◌, ◌*◌, ◌/◌, ◌%◌, ◌<◌, ◌≤◌, ◌⊎◌, ℤ, pos, ◌-ℤ◌, ◌≤ℤ◌, sym, refl, ap, ◌∙◌, inl, inr, mul-le-mul_right, mod-lt, mod-eq_of_lt, suc-mul, div-add-mod', arith}
use native.Mathlib.Nat.{mod-le, add-mul-mod_self_right, mod-mod}
use Rattle.std.proofs.lemmas.Int.{ints}
use Rattle.std.proofs.lemmas.Bool.{cases_lt}
use Rattle.std.specs.Int.{◌∣◌}
use Rattle.holds.specs.Gcd.{gcd}
use Rattle.holds.specs.Slack.{Flow, ReadAt, LeastRead, SlackIs, LeastSlack, least_slack}
use Rattle.holds.specs.Span.{Span, gap}
use Rattle.holds.proofs.Residue.{gap_below, gap_from, gap_only, gcd_positive, meeting_runs, runs_agree, mod_cancel, whole}

-- the reader's run is the time from its first start to the due instant, in periods, rounded up
pub always_read : (f : Flow) (r : Span) (k : ℕ) → 0 < r.period → (t : ℕ) × ReadAt f r k t
always_read f r k h =
    (r.start + turns * r.period, record { run = (turns, refl); after = omega (arith, split, short); earliest = early })
  where
    late : ℕ
    late = f.due + k * f.period - r.start

    turns : ℕ
    turns = (late + (r.period - 1)) / r.period

    split : turns * r.period + (late + (r.period - 1)) % r.period ≡ late + (r.period - 1)
    split = div-add-mod' (late + (r.period - 1)) r.period

    short : (late + (r.period - 1)) % r.period < r.period
    short = mod-lt (late + (r.period - 1)) h

    early : (j : ℕ) → f.due + k * f.period ≤ r.start + j * r.period → r.start + turns * r.period ≤ r.start + j * r.period
    early j l = go (cases_lt j turns)
      where
        go : (j < turns) ⊎ (turns ≤ j) → r.start + turns * r.period ≤ r.start + j * r.period
        go (inl m) = absurd (omega (arith, split, h, suc-mul j r.period, mul-le-mul_right {m = suc j} {n = turns} r.period m))
        go (inr m) = omega (arith, mul-le-mul_right {m = turns} {n = j} r.period m)

module _ (f : Flow) (r : Span) (hf : 0 < f.period) (hr : 0 < r.period) where
  -- the greatest common divisor of both periods
  abbrev pub shared : ℕ
  shared = gcd f.period r.period

  -- the least time from a due instant to a start of the reader
  abbrev pub wait : ℕ
  wait = gap f.due r.start shared

  positive : 0 < shared
  positive = gcd_positive f.period r.period hf

  -- no packet is read sooner, since starts and due instants differ by the gap to a multiple of the divisor
  sooner : (k t : ℕ) → ReadAt f r k t → k * f.period + (f.due + wait) ≤ t
  sooner k t a = omega (arith, a.after, least)
    where
      x : ℕ
      x = t - (f.due + k * f.period)

      agree : (f.due + x) % shared ≡ r.start % shared
      agree = runs_agree f.period r.period (f.due + x) r.start k a.run.0 (omega (arith, a.after, a.run.1))

      same : x % shared ≡ wait
      same =
          mod_cancel f.due x wait shared positive (agree ∙ sym (gap_from f.due r.start shared positive))
          ∙ mod-eq_of_lt (gap_below f.due r.start shared positive)

      least : wait ≤ x
      least = omega (arith, same, mod-le x shared)

  -- and some packet is read so soon, since the two progressions meet
  pub least_read : LeastRead f r (f.due + wait)
  least_read =
      record {
        reached = go (meeting_runs f.period r.period (f.due + wait) r.start hf hr (gap_from f.due r.start shared positive));
        bound = sooner;
      }
    where
      go : (k : ℕ) × (j : ℕ) × (f.due + wait + k * f.period ≡ r.start + j * r.period)
          → (k : ℕ) × (t : ℕ) × ReadAt f r k t × (t ≡ k * f.period + (f.due + wait))
      go (k, j, e) = close (always_read f r k hr)
        where
          close : (t : ℕ) × ReadAt f r k t → (k : ℕ) × (t : ℕ) × ReadAt f r k t × (t ≡ k * f.period + (f.due + wait))
          close (t, a) = (k, t, a, omega (arith, e, sooner k t a, a.earliest j (omega (arith, e))))

  -- a slack is that time less the arrival
  pub slack_is_least : LeastSlack f r (least_slack f r)
  slack_is_least = go least_read
    where
      go : LeastRead f r (f.due + wait) → LeastSlack f r (least_slack f r)
      go least = record { reached = reach least.reached; bound = λ k w s. below k w s.0 s.2 (least.bound k s.0 s.1) }
        where
          reach : (k : ℕ) × (t : ℕ) × ReadAt f r k t × (t ≡ k * f.period + (f.due + wait)) → (k : ℕ) × SlackIs f r k (least_slack f r)
          reach (k, t, a, e) = (k, (t, a, omega (arith, ints)))

          below : (k : ℕ) (w : ℤ) (t : ℕ) → w ≡ pos t -ℤ pos (f.arrival + k * f.period) → k * f.period + (f.due + wait) ≤ t
              → least_slack f r ≤ℤ w
          below k w t e l = omega (arith, ints)

  -- a due instant that the divisor divides does not change the residue
  pub least_whole : shared ∣ f.due → least_slack f r ≡ pos (f.due + r.start % shared) -ℤ pos f.arrival
  least_whole d = ap (λ (v : ℕ). pos (f.due + v) -ℤ pos f.arrival) (sym same)
    where
      m : ℕ
      m = f.due / shared

      e : m * shared ≡ f.due
      e = whole shared f.due d

      same : r.start % shared ≡ wait
      same =
          gap_only f.due r.start shared (r.start % shared) positive (mod-lt r.start positive)
          (ap (λ (n : ℕ). n % shared) (omega (arith, e)) ∙ add-mul-mod_self_right (r.start % shared) m shared ∙ mod-mod r.start shared)
