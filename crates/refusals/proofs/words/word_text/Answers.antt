use Rattle.std.proofs.Common.{rules}
use Rattle.std.specs.Str.{IsUtf8}
use Rattle.refusals.proofs.Table.{word_is_text}
use Rattle.refusals.proofs.words.word_text.Goals as goal

-- a word is text, so reading it as text gives the word
pub returns : goal.returns
returns c = let text : IsUtf8 c.word.result.now = rw c.word.ensures.value (word_is_text c.args.number) in search rules
