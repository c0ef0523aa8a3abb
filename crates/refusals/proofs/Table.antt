-- The table of words: each word comes back from its padded form.
use Rattle.std.proofs.Common.{◌≡◌, ℕ, zero, suc, ◌-◌, ◌≤◌, true, List, [], ◌∷◌, ◌++◌, length, get_or, take, map, codes, refl, ap, ◌∙◌, ⊎_elim, not-suc-le-zero, arith}
use Rattle.std.specs.Char.{is_ascii_whitespace}
use Rattle.std.specs.List.{All, list_all, suffix_len}
use Rattle.std.specs.Str.{IsTrimAsciiEnd, IsUtf8, bytes_eq, chars, is_utf8}
use lib.Utf8.{encode}
use Rattle.std.proofs.lemmas.Bool.Decides.{Decides-by_and}
use Rattle.std.proofs.lemmas.List.{get_or-map, get_or_past}
use Rattle.std.proofs.lemmas.List.Elements.{All-get_or}
use Rattle.std.proofs.lemmas.Bool.{cases_lt}
use Rattle.std.proofs.lemmas.Slice.Eq.{bytes_eq-Decides}
use Rattle.std.proofs.lemmas.Str.{IsUtf8-from_is_utf8}
use Rattle.std.proofs.lemmas.Str.Ascii.{trim_ascii_end_is}
use Rattle.refusals.specs.Words.{words, word_of}

-- a word with spaces up to eight bytes, as the table keeps it
abbrev pub padded_to8 : List ℕ → List ℕ
padded_to8 w = take 8 (w ++ codes "        ")

-- the bytes before the spaces at the end
abbrev trimmed : List ℕ → List ℕ
trimmed s = take (length s - suffix_len is_ascii_whitespace s) s

-- each word comes back from its padded form, by a test that computes
each_unpads : All (λ w. trimmed (padded_to8 w) ≡ w) words
each_unpads = (Decides-by_and _ _ (list_all (λ w. bytes_eq (trimmed (padded_to8 w)) w)) (λ w. bytes_eq-Decides (trimmed (padded_to8 w)) w) refl (λ _ _. refl) words).0 refl

-- the word of a number counted from 1, found in the list of words counted from 0
word_at : (n : ℕ) → 1 ≤ n → get_or words (n - 1) [] ≡ word_of n
word_at zero h = absurd (not-suc-le-zero h)
word_at (suc k) h = let e : suc k - 1 ≡ k = omega arith in ap (λ i. get_or words i []) e

-- the entry of each refusal is its word, padded, and trimmed it is the word
pub unpadded : (n : ℕ) (s : List ℕ) → 1 ≤ n → n ≤ 27 → IsTrimAsciiEnd (get_or (map padded_to8 words) (n - 1) []) s → s ≡ word_of n
unpadded n s low high trim =
    trim_ascii_end_is _ s trim
    ∙ ap trimmed (get_or-map padded_to8 words (n - 1) [] [] (omega arith))
    ∙ All-get_or (λ w. trimmed (padded_to8 w) ≡ w) words (n - 1) [] (omega arith) each_unpads
    ∙ word_at n low

-- each word is text, and so are no bytes
each_text : All (λ w. is_utf8 w ≡ true) ([] ∷ words)
unfolding is_utf8 chars encode
each_text = (Decides-by_and is_utf8 (λ w. is_utf8 w ≡ true) (list_all is_utf8) (λ w. (λ e. e, λ e. e)) refl (λ _ _. refl) ([] ∷ words)).0 refl

pub word_is_text : (n : ℕ) → IsUtf8 (word_of n)
unfolding is_utf8 chars encode
word_is_text n = IsUtf8-from_is_utf8 _ (⊎_elim
    (λ lt. All-get_or (λ w. is_utf8 w ≡ true) ([] ∷ words) n [] lt each_text)
    (λ le. ap is_utf8 (get_or_past ([] ∷ words) n [] le))
    (cases_lt n 28))
