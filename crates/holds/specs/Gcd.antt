-- Rule. The greatest common divisor, by Euclid's algorithm, and what it is.
use Rattle.std.specs.Prelude.{◌≡◌, ℕ, zero, suc, ◌*◌, ◌/◌, ◌%◌}
use Rattle.std.specs.Int.{◌∣◌, IsGcd}

-- Euclid's algorithm in at most `fuel` steps
unfoldable pub euclid : ℕ → ℕ → ℕ → ℕ
euclid zero a b = a
euclid (suc fuel) a zero = a
euclid (suc fuel) a (suc b) = euclid fuel (suc b) (a % suc b)

-- b steps are enough, since the remainder falls with each
unfoldable pub gcd : ℕ → ℕ → ℕ
gcd a b = euclid b a b

-- what a number divides is a multiple of it, by the quotient
abbrev pub QuotientWhole : Type 0
QuotientWhole = (d n : ℕ) → d ∣ n → n ≡ n / d * d

-- Euclid's algorithm finds it: it divides both, and every divisor of both divides it
abbrev pub GcdIsGreatest : Type 0
GcdIsGreatest = (a b : ℕ) → IsGcd a b (gcd a b)
