-- Meaning. A script in stretches: lines of which none makes a fabric, which do what the list of the calls among them does.
--   made_by, Stretch            the network that a line makes, and lines of which none makes one
--   after_lines, call_replies   the session after lines in turn, and the replies to the calls among them
--   list_replies                what the list of these calls answers, as text
--   printed_with                what lines print where the calls among them have the replies of a list
--   AsList, StretchesAsLists    a stretch does what the list of its calls does
--   NewStretches                and on a new plan what is promised of every list of calls is promised of that list
--   FabricsBegin, TextsSplit    a fabric line begins a new plan, and what a script prints splits at every line
use Rattle.std.specs.Prelude.{◌≡◌, ℕ, List, [], ◌∷◌, ◌++◌, map, drop, Some, None, Option, option_to_list}
use Rattle.std.specs.List.{AllByRecursion, slice_get}
use Rattle.std.specs.Result.{result_ok}
use Rattle.fabric.specs.Network.{IsFabric, Network}
use Rattle.jobs.specs.Jobs.{created_on}
use Rattle.replay.specs.Calls.{answers, held}
use Rattle.replay.specs.Promise.{Promise}
use Rattle.script.specs.Fabrics.{listed_made, mesh_made}
use Rattle.script.specs.Readings.{Reading, asks, calling, listed_fabric, mesh_fabric, read_line}
use Rattle.script.specs.Replies.{answer_text}
use Rattle.script.specs.Transcripts.{Session, after_line, begun, line_printed, printed, reply_to}

-- the network of a fabric line that is taken
abbrev pub made_by : Reading → Option Network
made_by (mesh_fabric x y delay) = result_ok (mesh_made x y delay)
made_by (listed_fabric file) = result_ok (listed_made file)
made_by other = None

-- lines of which none makes a fabric
abbrev pub Stretch : List (List ℕ) → Type 0
Stretch = AllByRecursion (λ text. made_by (read_line text) ≡ None)

-- the session after lines in turn
abbrev pub after_lines : Session → List (List ℕ) → Session
after_lines s [] = s
after_lines s (text ∷ texts) = after_lines (after_line s (read_line text)) texts

-- the reply to a line that is a call
abbrev pub call_reply : Session → Reading → List (List ℕ)
call_reply s (calling a) = option_to_list (reply_to s (calling a))
call_reply s other = []

-- the replies to the calls among lines, each in the session that the lines before it leave
abbrev pub call_replies : Session → List (List ℕ) → List (List ℕ)
call_replies s [] = []
call_replies s (text ∷ texts) = call_reply s (read_line text) ++ call_replies (after_line s (read_line text)) texts

-- what the calls among lines answer as one list on the plan of a session
abbrev pub list_replies : Session → List (List ℕ) → List (List ℕ)
list_replies s texts = map answer_text (answers s.setting s.jobs (asks (map read_line texts)))

-- the reply to a line, to a call the first of a list, and what is left of that list
abbrev pub next_reply : Session → List (List ℕ) → Reading → Option (List ℕ)
next_reply s replies (calling a) = slice_get replies 0
next_reply s replies other = reply_to s other

abbrev pub replies_left : List (List ℕ) → Reading → List (List ℕ)
replies_left replies (calling a) = drop 1 replies
replies_left replies other = replies

-- what lines print, the calls among them with the replies of a list in turn, and all others with what they are answered in one session
abbrev pub printed_with : Session → List (List ℕ) → List (List ℕ) → List ℕ
printed_with s replies [] = []
printed_with s replies (text ∷ texts) = line_printed text (next_reply s replies (read_line text)) ++ printed_with s (replies_left replies (read_line text)) texts

-- the plan stays the same and holds what the list of the calls leaves held; each call is answered what the list answers it, and is printed with that
pub record AsList (s : Session) (texts : List (List ℕ)) : Type 0 where
  pub alike : (after_lines s texts).setting ≡ s.setting
  pub holds : (after_lines s texts).jobs ≡ held s.setting s.jobs (asks (map read_line texts))
  pub replies : call_replies s texts ≡ list_replies s texts
  pub shown : printed s texts ≡ printed_with s (list_replies s texts) texts

abbrev pub StretchesAsLists : Type 0
StretchesAsLists = (s : Session) (texts : List (List ℕ)) → Stretch texts → AsList s texts

-- for every network that keeps the laws, and every stretch
abbrev pub NewStretches : Type 0
NewStretches =
    (net : Network) → IsFabric net → (texts : List (List ℕ)) → Stretch texts
    → AsList (begun net) texts × Promise (created_on net) (asks (map read_line texts))

-- a line that makes a fabric begins a new plan over it, and its network keeps the laws
abbrev pub FabricsBegin : Type 0
FabricsBegin = (s : Session) (text : List ℕ) (net : Network) → made_by (read_line text) ≡ Some net → (after_line s (read_line text) ≡ begun net) × IsFabric net

-- the lines after any of a script print what they print in the session that those before them leave
abbrev pub TextsSplit : Type 0
TextsSplit = (s : Session) (xs ys : List (List ℕ)) → printed s (xs ++ ys) ≡ printed s xs ++ printed (after_lines s xs) ys
