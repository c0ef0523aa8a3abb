use Rattle.std.proofs.Common.{◌≡◌, [], ◌∷◌, sym, ap, arith}
use Rattle.std.proofs.lemmas.List.{get_or_past}
use Rattle.refusals.specs.Words.{words, word_of}
use Rattle.refusals.proofs.Table.{unpadded}
use Rattle.refusals.proofs.words.word.Goals.{in_default-via-then-number-lt1, in_default-via-else-number-lt1+else-number-lt28}
use Rattle.refusals.proofs.words.word.Goals as goal

-- the part of the entry before the padding is the word
pub returns-in-1-to-27-clause-value : goal.returns-in-1-to-27-clause-value
returns-in-1-to-27-clause-value c = unpadded c.args.number _ (omega arith) (omega arith) c.trim_ascii_end.ensures.value

-- 0 stands before the first word, and a number above 27 past the last
pub returns-in_default-clause-value : goal.returns-in_default-clause-value
returns-in_default-clause-value c = elim c.in_default.branch [
  | in_default-via-then-number-lt1 w ↦ let e : c.args.number ≡ 0 = omega arith in ap word_of (sym e)
  | in_default-via-else-number-lt1+else-number-lt28 w ↦ sym (get_or_past ([] ∷ words) c.args.number [] (omega arith))
]
