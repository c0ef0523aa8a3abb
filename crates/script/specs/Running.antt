-- Rule. Lines run on a plan in hand: its session, and what is printed from the line on that makes another fabric.
--   session          a plan, by what it was created with and what it holds
--   next_session     the session after a line
--   next_printed     what the lines after a fabric line print
--   Printed, Onward   what running lines from a place on adds to a text, and where it ends
use Rattle.std.specs.Prelude.{◌≡◌, ℕ, ◌<◌, ◌≤◌, List, [], ◌++◌, drop, map, Some, None, Option, MatchOption}
use Rattle.std.specs.Borrow.{Bor}
use Rattle.std.specs.Option.{option_map}
use Rattle.fabric.specs.declared.Fabric.{Ghosts}
use Rattle.fabric.specs.Network.{Network}
use Rattle.plan.specs.Held.{jobs, setting}
use Rattle.plan.specs.declared.plan.Plan.{Plan}
use Rattle.script.specs.Fabrics.{made_network}
use Rattle.script.specs.Transcripts.{Session, anew, begun, printed}
use Rattle.script.specs.declared.fabrics.Made.{Made}

abbrev pub session : {F : Type 0} {B : Ghosts F} → Plan F B → Session
session p = record { setting = setting p; jobs = jobs p }

-- a new plan where a line makes a fabric, and else the plan in hand
abbrev pub next_session : Session → Option Made → Session
next_session s made = anew s (option_map made_network made)

abbrev pub texts_of : List (Bor (List ℕ)) → List (List ℕ)
texts_of = map (λ text. text.now)

abbrev pub next_printed : List (Bor (List ℕ)) → Option (Made × ℕ) → List ℕ
next_printed texts None = []
next_printed texts (Some next) = printed (begun (made_network next.0)) (texts_of (drop next.1 texts))

-- what stands before is gone on with by what the lines from a place on print over a network, up to where another fabric is made
abbrev pub Printed : (before after : List ℕ) → Network → List (Bor (List ℕ)) → ℕ → Option (Made × ℕ) → Type 0
Printed before after net texts from next = after ++ next_printed texts next ≡ before ++ printed (begun net) (texts_of (drop from texts))

-- a fabric is made by one of the lines from a place on
abbrev pub Onward : ℕ → ℕ → Option (Made × ℕ) → Type 0
Onward from lines next = MatchOption next (Unit {0}) (λ n. (from < n.1) × (n.1 ≤ lines))
