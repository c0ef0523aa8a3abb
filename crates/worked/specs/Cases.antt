-- Meaning. What is worked by hand: calls, routes, plan files and refusals, with what was found; and words for calls, answers and bytes.
use Rattle.std.specs.Prelude.{◌≡◌, ℕ, List, [], ◌∷◌, ◌++◌, map, ℤ, Some, None, Ok, Err, Option, ◌⊎◌}
use Rattle.std.proofs.Common.{inl, inr}
use Rattle.fabric.specs.Grid.{grid}
use Rattle.jobs.specs.declared.fault.TaskFault.TheVariants as task_fault
use Rattle.jobs.specs.declared.fault.MessageFault.TheVariants as message_fault
use Rattle.jobs.specs.declared.fault.PlacingFault.TheVariants as placing
use Rattle.jobs.specs.declared.fault.DropFault.TheVariants as drop_fault
use Rattle.jobs.specs.Holding.{no_place as no_such_place}
use Rattle.jobs.specs.Jobs.{Setting, created_on, nothing}
use Rattle.jobs.specs.Places.{core, link}
use Rattle.refusals.specs.Lines.{line_text, refused_text, told_text, too_short}
use Rattle.refusals.specs.declared.refusal.Refusal.{Refusal}
use Rattle.refusals.specs.declared.refusal.Told.{Told}
use Rattle.verdict.specs.Told.{verdict_line}
use Rattle.verdict.specs.Verdict.{verdict_of}
use Rattle.replay.specs.declared.calls.Answer.TheVariants as answer
use Rattle.replay.specs.declared.calls.Call.TheVariants as call
use Rattle.replay.specs.Calls.{Ask, Said, answer_told, answers}

-- calls on a new plan with their answers in order, the route between two nodes, a plan file with its verdict line, or an answer with what
-- is printed of what it refuses
pub data Case : Type 0 where
  calling : Setting → List Ask → List Said → Case
  routing : Setting → (from to : ℕ) → List ℕ → Case
  judging : (file line : List ℕ) → Case
  telling : Said → (words : List ℕ) → Case

-- the text of a refusal, and nothing of an answer that refuses nothing
abbrev pub refusal_text : Option (Refusal ⊎ Told) → List ℕ
refusal_text None = []
refusal_text (Some (inl r)) = refused_text r
refusal_text (Some (inr t)) = told_text t

-- what a case asks for: answers, a route, or text
pub data Found : Type 0 where
  said : List Said → Found
  route : Option (List ℕ) → Found
  text : List ℕ → Found

-- what the definitions give for a case
abbrev pub given : Case → Found
given (calling g asks told) = said (answers g nothing asks)
given (routing g a b links) = route (g.network.route a b)
given (judging file line) = text (line_text (verdict_line (verdict_of file)))
given (telling r words) = text (refusal_text (answer_told r))

-- what was found by hand
abbrev pub by_hand : Case → Found
by_hand (calling g asks told) = said told
by_hand (routing g a b links) = route (Some links)
by_hand (judging file line) = text line
by_hand (telling r words) = text words

-- the two are the same for all cases of a list
abbrev pub Give : List Case → Type 0
Give cs = map given cs ≡ map by_hand cs

-- a mesh of so many columns and rows with a hop delay
abbrev pub mesh : ℕ → ℕ → ℕ → Setting
mesh x y delay = created_on (grid x y delay)

-- jobs by name, core or tasks, and times
abbrev pub task : (name core period phase width : ℕ) → Ask
task n c p f w = call.OfferTask (record { name = n; core = c; period = p; phase = f; width = w })

abbrev pub message : (name source destination kind delay width : ℕ) → Ask
message n s d k delay w = call.OfferMessage (record { name = n; source = s; destination = d; kind = k; delay = delay; width = w })

abbrev pub open_task : (name core period width : ℕ) → Ask
open_task n c p w = call.PlaceTask (record { name = n; core = c; period = p; width = w })

abbrev pub open_message : (name source destination kind width : ℕ) → Ask
open_message n s d k w = call.PlaceMessage (record { name = n; source = s; destination = d; kind = k; width = w })

-- answers
abbrev pub task_taken : Said
task_taken = answer.TaskOffered (Ok tt)

abbrev pub message_taken : Said
message_taken = answer.MessageOffered (Ok tt)

abbrev pub task_meets : (instant held place : ℕ) → Said
task_meets n h p = answer.TaskOffered (Err (task_fault.Meets (record { instant = n; held = h; place = core p })))

abbrev pub message_meets : (instant held place : ℕ) → Said
message_meets n h p = answer.MessageOffered (Err (message_fault.Meets (record { instant = n; held = h; place = link p })))

abbrev pub all_loaded : (tasks messages : ℕ) → Said
all_loaded t m = answer.Loaded (Ok (record { tasks = t; messages = m }))

abbrev pub late : ℤ → Said
late v = answer.MessageOffered (Err (message_fault.Late v))

abbrev pub written : List ℕ → Said
written bytes = answer.Written (Ok bytes)

abbrev pub no_room : Said
no_room = answer.Written (Err too_short)

abbrev pub task_placed : ℕ → Said
task_placed phase = answer.TaskPlaced (Ok phase)

abbrev pub message_placed : ℕ → Said
message_placed delay = answer.MessagePlaced (Ok delay)

abbrev pub no_phase : Said
no_phase = answer.TaskPlaced (Err placing.NoFit)

abbrev pub no_delay : Said
no_delay = answer.MessagePlaced (Err placing.NoFit)

abbrev pub slack : ℤ → Said
slack v = answer.Slack (Ok v)

abbrev pub no_place : Said
no_place = answer.Holder (Err no_such_place)

abbrev pub unknown : Said
unknown = answer.Dropped (Err drop_fault.Unknown)

abbrev pub in_use : Said
in_use = answer.Dropped (Err drop_fault.InUse)

abbrev pub has : (name run : ℕ) → Said
has n k = answer.Holder (Ok (Some (n, k)))

abbrev pub free : Said
free = answer.Holder (Ok None)

abbrev pub dropped : Said
dropped = answer.Dropped (Ok tt)

-- records as bytes, where no number is over 255
abbrev pub task_bytes : (name core period phase width : ℕ) → List ℕ
task_bytes n c p f w = 0 ∷ n ∷ c ∷ 0 ∷ 0 ∷ 0 ∷ 0 ∷ p ∷ 0 ∷ 0 ∷ 0 ∷ f ∷ 0 ∷ 0 ∷ 0 ∷ w ∷ []

abbrev pub message_bytes : (name source destination kind delay width : ℕ) → List ℕ
message_bytes n s d k delay w = 0 ∷ n ∷ 0 ∷ s ∷ 0 ∷ d ∷ k ∷ 0 ∷ 0 ∷ 0 ∷ 0 ∷ delay ∷ 0 ∷ 0 ∷ 0 ∷ w ∷ []

-- the section of two tasks on two nodes, and a job part with a message between them with a delay
abbrev pub two_tasks : List ℕ
two_tasks = 0 ∷ 2 ∷ task_bytes 1 0 20 0 4 ++ task_bytes 2 1 20 15 5

abbrev pub two_nodes : ℕ → List ℕ
two_nodes delay = two_tasks ++ 0 ∷ 1 ∷ message_bytes 1 1 2 0 delay 2

-- a file of a mesh of so many columns and rows with hop delay 3
abbrev pub mesh_file : (x y : ℕ) → List ℕ → List ℕ
mesh_file x y part = 1 ∷ 1 ∷ x ∷ y ∷ 3 ∷ 0 ∷ 0 ∷ 0 ∷ 0 ∷ 0 ∷ part

-- the whole file of two nodes
abbrev pub two_nodes_file : ℕ → List ℕ
two_nodes_file delay = mesh_file 2 1 (two_nodes delay)
