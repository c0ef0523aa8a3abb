-- Meaning. The text of each reply: a word in upper case, and its values after single spaces.
--   answer_text     what a call answers
--   reply_text      what a line is answered
use Rattle.std.specs.Prelude.{◌≡◌, ℕ, List, ◌++◌, length, Some, None, Ok, Err, vec_items, codes, decimal, Option, Result}
use Rattle.std.specs.Fmt.{signed_decimal}
use Rattle.refusals.specs.Lines.{line_text, refused_text, told_text}
use Rattle.refusals.specs.Told.{buffer_told}
use Rattle.refusals.specs.declared.refusal.Refusal.{Refusal}
use Rattle.refusals.specs.declared.refusal.Told.{Told}
use Rattle.jobs.specs.Numbers.{task_told, message_told, placing_told, drop_told, place_told}
use Rattle.plan.specs.Told.{load_told}
use Rattle.replay.specs.Calls.{Said, giving}
use Rattle.replay.specs.declared.calls.Answer.TheVariants as answer
use Rattle.script.specs.Lines.{hex}
use Rattle.script.specs.declared.reply.Reply.{Reply}
use Rattle.script.specs.declared.reply.Reply.TheVariants as reply

-- a refusal with section and record is the verdict line of the same refusal, but for its newline
abbrev pub ToldAsVerdicts : Type 0
ToldAsVerdicts = (t : Told) → line_text (Err t) ≡ told_text t ++ codes "\n"

-- a word, a number, and another
abbrev pub two : List ℕ → ℕ → ℕ → List ℕ
two word a b = word ++ (decimal a ++ (codes " " ++ decimal b))

-- the text of what is taken, or the refusal
abbrev pub text_of : {T E : Type 0} → (T → List ℕ) → (E → Refusal) → Result T E → List ℕ
text_of taken refusal (Ok x) = taken x
text_of taken refusal (Err e) = refused_text (refusal e)

abbrev pub held_text : Option (ℕ × ℕ) → List ℕ
held_text (Some p) = two (codes "HELD ") p.0 p.1
held_text None = codes "FREE"

-- the length and the bytes
abbrev pub written_text : List ℕ → List ℕ
written_text bytes = codes "WRITTEN " ++ (decimal (length bytes) ++ (codes " " ++ hex bytes))

abbrev pub answer_text : Said → List ℕ
answer_text (answer.TaskOffered r) = text_of (λ _. codes "TAKEN") task_told r
answer_text (answer.MessageOffered r) = text_of (λ _. codes "TAKEN") message_told r
answer_text (answer.TaskPlaced r) = text_of (λ phase. codes "PLACED " ++ decimal phase) (placing_told task_told) r
answer_text (answer.MessagePlaced r) = text_of (λ delay. codes "PLACED " ++ decimal delay) (placing_told message_told) r
answer_text (answer.Dropped r) = text_of (λ _. codes "DROPPED") drop_told r
answer_text (answer.Loaded (Ok counts)) = two (codes "LOADED ") counts.tasks counts.messages
answer_text (answer.Loaded (Err e)) = told_text (load_told e)
answer_text (answer.Slack r) = text_of (λ least. codes "SLACK " ++ signed_decimal least) drop_told r
answer_text (answer.Holder r) = text_of held_text place_told r
answer_text (answer.Written r) = text_of written_text buffer_told r

abbrev pub reply_text : Reply → List ℕ
reply_text reply.Unread = codes "UNREAD"
reply_text (reply.Ready nodes links) = two (codes "READY ") nodes links
reply_text (reply.Refused r) = refused_text r
reply_text (reply.Told t) = told_text t
reply_text (reply.Answer a) = answer_text (giving vec_items a)
