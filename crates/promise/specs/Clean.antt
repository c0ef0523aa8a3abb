-- Meaning. What a clean plan is, by the instants of unbounded time.
--   Uses        a run or packet has a place at an instant
--   OnTime      every packet has arrived when the run that must read it starts
--   InTime      what it says of the packets on a trip
--   Safe        no two runs or packets have one place at one instant, and every packet is on time
--   TaskMade, MessageMade, Distinct    what Made says of a job and of names
--   Made        every held job is within its limits, its parts are there, and names are distinct
--   Clean       both
use Rattle.std.specs.Prelude.{◌≡◌, ℕ, ◌+◌, ◌*◌, ◌<◌, ◌≤◌, List, Some}
use Rattle.std.specs.List.{slice_get}
use Rattle.holds.specs.Slack.{ReadAt}
use Rattle.holds.specs.Span.{RunHolds}
use Rattle.records.specs.declared.record.Task.{Task}
use Rattle.records.specs.declared.record.Message.{Message}
use Rattle.fabric.specs.Network.{Network}
use Rattle.jobs.specs.declared.job.Job.{Job}
use Rattle.jobs.specs.declared.place.Place.{Place}
use Rattle.jobs.specs.Claims.{Claim, claims}
use Rattle.jobs.specs.Jobs.{In, IsHeld, Jobs, Setting, message_name, task_name}
use Rattle.jobs.specs.Timing.{run_number, task_span}
use Rattle.jobs.specs.Trips.{Trip, message_flow, trip_of}

-- run k of a job has the place at the instant n: it claims the place, and that run of the claim has the instant
pub record Uses (g : Setting) (js : Jobs) (x : Job) (k : ℕ) (place : Place) (n : ℕ) : Type 0 where
  pub claim : Claim
  pub claimed : In claim (claims g js.tasks x)
  pub there : claim.place ≡ place
  pub turn : ℕ
  pub run : k ≡ run_number x turn
  pub holds : RunHolds claim.span turn n

-- for every packet there is a run of the destination, the earliest that starts at or after the due instant, by whose start it has arrived
abbrev pub InTime : Network → Trip → Message → Type 0
InTime net t m =
    (k : ℕ) → (n : ℕ) × ReadAt (message_flow net t m) (task_span t.destination) k n
    × ((message_flow net t m).arrival + k * (message_flow net t m).period ≤ n)

-- a message has its tasks and its route, and its packets are on time
pub record OnTime (g : Setting) (ts : List Task) (m : Message) : Type 0 where
  pub trip : Trip
  pub going : trip_of g ts m ≡ Some trip
  pub in_time : InTime g.network trip m

-- at no instant of all time do two runs have one place: if both have it, they are the same run of the same job, two packets of one
-- message and two runs of one task included; and every held message is on time
pub record Safe (g : Setting) (js : Jobs) : Type 0 where
  pub apart : (x y : Job) → IsHeld js x → IsHeld js y → (k j : ℕ) (place : Place) (n : ℕ) → Uses g js x k place n → Uses g js y j place n → (x ≡ y) × (k ≡ j)
  pub on_time : (m : Message) → In m js.messages → OnTime g js.tasks m

-- ---- well made

-- a task: a name that is not 0, a core of the fabric, a period from 1 to 65,536, a width of at least 1, and phase and width
-- together at most the period
pub record TaskMade (g : Setting) (t : Task) : Type 0 where
  pub named : 0 < t.name
  pub on_core : t.core < g.network.nodes
  pub short : t.period ≤ 65536
  pub some : 1 ≤ t.width
  pub fits : t.phase + t.width ≤ t.period

-- a message: a name that is not 0, both tasks held with a route between them, kind 0 or 1, a delay below the source's period and a
-- width from 1 to that period
pub record MessageMade (g : Setting) (ts : List Task) (m : Message) : Type 0 where
  pub named : 0 < m.name
  pub trip : Trip
  pub going : trip_of g ts m ≡ Some trip
  pub kind : m.kind < 2
  pub delay : m.delay < trip.source.period
  pub some : 1 ≤ m.width
  pub fits : m.width ≤ trip.source.period

-- no two places of a list have the same name
abbrev pub Distinct : {X : Type 0} → (X → ℕ) → List X → Type 0
Distinct {X} name xs = (i j : ℕ) (x y : X) → slice_get xs i ≡ Some x → slice_get xs j ≡ Some y → name x ≡ name y → i ≡ j

-- each held job is well made, and names are distinct
pub record Made (g : Setting) (js : Jobs) : Type 0 where
  pub tasks : (t : Task) → In t js.tasks → TaskMade g t
  pub messages : (m : Message) → In m js.messages → MessageMade g js.tasks m
  pub task_names : Distinct task_name js.tasks
  pub message_names : Distinct message_name js.messages

-- ---- clean

pub record Clean (g : Setting) (js : Jobs) : Type 0 where
  pub made : Made g js
  pub safe : Safe g js
