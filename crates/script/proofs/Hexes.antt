-- Bytes written in hexadecimal one after the other.
use Rattle.std.proofs.Common.{◌≡◌, ℕ, ◌+◌, ◌/◌, ◌%◌, ◌<◌, true, List, [], ◌∷◌, ◌++◌, length, get_or, take, sym, refl, ap, ◌∙◌}
use Rattle.std.proofs.lemmas.List.{take_more}
use Rattle.std.specs.Fmt.{digit_glyph}
use Rattle.script.specs.Lines.{hex}

hex_append : (xs ys : List ℕ) → hex (xs ++ ys) ≡ hex xs ++ hex ys
hex_append [] ys = refl
hex_append (x ∷ xs) ys = ap (λ l. digit_glyph true (x / 16) ∷ (digit_glyph true (x % 16) ∷ l)) (hex_append xs ys)

-- one byte more is two digits more
pub hex_more : (bs : List ℕ) (i : ℕ) (d : ℕ) → i < length bs → hex (take i bs) ++ (digit_glyph true (get_or bs i d / 16) ∷ (digit_glyph true (get_or bs i d % 16) ∷ [])) ≡ hex (take (i + 1) bs)
hex_more bs i d h = sym (ap hex (take_more bs i d h) ∙ hex_append (take i bs) (get_or bs i d ∷ []))
