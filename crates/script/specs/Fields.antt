-- Rule. The parts of a script line.
--   after           what follows a fixed front
--   number, field   a decimal number that fills a text, or that stands before a space
--   unhexed         the bytes that pairs of hexadecimal digits write
use Rattle.std.specs.Prelude.{ℕ, ◌+◌, ◌*◌, Bool, false, cond, ◌&&◌, List, [], ◌∷◌, take, drop, position, Some, None, Option, ◌==◌, nat_le, nat_lt}
use Rattle.std.specs.Option.{option_and_then, option_map}
use Rattle.std.specs.Str.Parse.{digits_value}
use Rattle.std.specs.Char.{digit_value}
use Rattle.std.specs.Str.{all_ascii_digits}

infixl 10 ◌>>=◌
abbrev pub ◌>>=◌ : {A B : Type 0} → Option A → (A → Option B) → Option B
o >>= f = option_and_then f o

-- what follows a fixed front
abbrev pub after : List ℕ → List ℕ → Option (List ℕ)
after [] text = Some text
after (f ∷ front) [] = None
after (f ∷ front) (b ∷ text) = cond (f == b) (after front text) None

-- one or more decimal digits
abbrev pub numeral : List ℕ → Bool
numeral [] = false
numeral (d ∷ ds) = all_ascii_digits (d ∷ ds)

-- the number that decimal digits write, if it is at most `most`
abbrev pub number : ℕ → List ℕ → Option ℕ
number most ds = cond (numeral ds && nat_le (digits_value 10 ds) most) (Some (digits_value 10 ds)) None

-- the number that fills a text up to a place, and what follows the byte there
abbrev pub number_before : ℕ → List ℕ → ℕ → Option (ℕ × List ℕ)
number_before most text end = option_map (λ n. (n, drop (end + 1) text)) (number most (take end text))

-- the number before the first space, and what follows that space
abbrev pub field : ℕ → List ℕ → Option (ℕ × List ℕ)
field most text = do
  end ← position (λ b. b == 32) text
  number_before most text end

-- the byte that two hexadecimal digits write, in front of what follows
abbrev pub pair : ℕ → ℕ → Option (List ℕ) → Option (List ℕ)
pair high low rest =
    cond (nat_lt (digit_value high) 16 && nat_lt (digit_value low) 16)
    (option_map (λ bs. (digit_value high * 16 + digit_value low) ∷ bs) rest)
    None

-- the bytes that pairs of hexadecimal digits write
abbrev pub unhexed : List ℕ → Option (List ℕ)
unhexed [] = Some []
unhexed (high ∷ []) = None
unhexed (high ∷ (low ∷ rest)) = pair high low (unhexed rest)
