-- Meaning. What a script prints: each line that is not blank, with what it is answered.
--   Session, begun       the setting of the plan and the jobs that it holds; a new plan
--   anew, after_line     the session after a line
--   reply_to             what a line is answered, as text
--   answered, line_printed, printed    a line with its answer, a line or nothing, and lines in turn
--   transcript_text      the whole
use Rattle.std.specs.Prelude.{ℕ, List, [], ◌∷◌, ◌++◌, Some, None, codes, Option, ◌==◌}
use Rattle.std.specs.List.{slice_split}
use Rattle.std.specs.Result.{result_ok}
use Rattle.fabric.specs.Network.{Network}
use Rattle.jobs.specs.Jobs.{Jobs, Setting, created_on, nothing}
use Rattle.replay.specs.Calls.{ask}
use Rattle.script.specs.Fabrics.{fabric_reply, listed_made, mesh_made}
use Rattle.script.specs.Readings.{Reading, blank, calling, listed_fabric, mesh_fabric, read_line, unread}
use Rattle.script.specs.Replies.{answer_text, reply_text}
use Rattle.script.specs.declared.reply.Reply.TheVariants as reply

-- what the plan was created with, and the jobs that it holds
pub record Session : Type 0 where
  pub setting : Setting
  pub jobs : Jobs

-- a new plan over a network
abbrev pub begun : Network → Session
begun net = record { setting = created_on net; jobs = nothing }

-- a new plan where a fabric is made
abbrev pub anew : Session → Option Network → Session
anew s None = s
anew s (Some net) = begun net

-- a call leaves held what it says, a fabric that is taken begins a new plan, and any other line leaves all as it is
abbrev pub after_line : Session → Reading → Session
after_line s (calling a) = record { setting = s.setting; jobs = (ask s.setting s.jobs a).1 }
after_line s (mesh_fabric x y delay) = anew s (result_ok (mesh_made x y delay))
after_line s (listed_fabric file) = anew s (result_ok (listed_made file))
after_line s other = s

-- a blank line is answered nothing
abbrev pub reply_to : Session → Reading → Option (List ℕ)
reply_to s blank = None
reply_to s unread = Some (reply_text reply.Unread)
reply_to s (mesh_fabric x y delay) = Some (reply_text (fabric_reply (mesh_made x y delay)))
reply_to s (listed_fabric file) = Some (reply_text (fabric_reply (listed_made file)))
reply_to s (calling a) = Some (answer_text (ask s.setting s.jobs a).0)

-- a line as it came, with its answer
abbrev pub answered : List ℕ → List ℕ → List ℕ
answered text answer = text ++ (codes ": " ++ (answer ++ codes "\n"))

abbrev pub line_printed : List ℕ → Option (List ℕ) → List ℕ
line_printed text None = []
line_printed text (Some answer) = answered text answer

-- lines in turn, each in the session that those before it leave
abbrev pub printed : Session → List (List ℕ) → List ℕ
printed s [] = []
printed s (text ∷ texts) = line_printed text (reply_to s (read_line text)) ++ printed (after_line s (read_line text)) texts

-- the lines of a script are what stands between its newlines; they begin with a new plan over a network
abbrev pub transcript_text : Network → List ℕ → List ℕ
transcript_text net script = printed (begun net) (slice_split (λ b. b == 10) script)
