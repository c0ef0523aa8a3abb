-- Working. What routings stand for, the tasks that a message names on one, what the code hands on of an offered message, and a held job
-- of any kind.
use Rattle.std.specs.Prelude.{◌≡◌, ℕ, List, map, Some, None, Option, MatchOption}
use Rattle.fabric.specs.Network.{Network}
use Rattle.records.specs.declared.record.Task.{Task}
use Rattle.records.specs.declared.record.Message.{Message}
use Rattle.jobs.specs.declared.open.OpenMessage.{OpenMessage}
use Rattle.jobs.specs.declared.routing.Ends.{Ends}
use Rattle.jobs.specs.declared.routing.Routing.{Routing}
use Rattle.jobs.specs.declared.way.Way.{Way}
use Rattle.jobs.specs.Jobs.{Jobs, Setting, created_on, task_named}
use Rattle.jobs.specs.Meetings.{HeldJob, held_message}
use Rattle.jobs.specs.Open.{message_at}
use Rattle.jobs.specs.Placings.{first_free_delay}
use Rattle.jobs.specs.Takes.{Take}
use Rattle.jobs.specs.Trips.{Trip}
use Rattle.jobs.specs.Ways.{IsWay}
use Rattle.jobs.specs.declared.way.Admitted.{Admitted}

-- a source and a destination, where there are both
abbrev pub both_ends : Option Task → Option Task → Option Ends
both_ends None d = None
both_ends (Some s) None = None
both_ends (Some s) (Some d) = Some (record { source = s; destination = d })

-- the tasks that a message names, where both are among those held
abbrev pub ends_in : List Task → Message → Option Ends
ends_in ts m = both_ends (task_named ts m.source) (task_named ts m.destination)

-- the trip between two tasks along a route
abbrev pub trip_along : Ends → List ℕ → Trip
trip_along e r = record { source = e.source; destination = e.destination; route = r }

-- what a plan over a routing's fabric is created with, and messages held beside its tasks
abbrev pub setting_on : {F : Type 0} → (F → Network) → Routing F → Setting
setting_on meaning r = created_on (meaning r.fabric.now)

abbrev pub jobs_beside : {F : Type 0} → Routing F → List Message → Jobs
jobs_beside r ms = record { tasks = r.tasks.now; messages = ms }

abbrev pub held_beside : {F : Type 0} → (F → Network) → Routing F → List Message → List HeldJob
held_beside meaning r ms = map (held_message (setting_on meaning r) r.tasks.now) ms

-- the way between two tasks, or none where the network has no route
abbrev pub WayBetween : Network → Ends → Message → Option Way → Type 0
WayBetween net e m o = MatchOption o (net.route e.source.core e.destination.core ≡ None) (λ w. (r : List ℕ) × IsWay net (trip_along e r) m w)

-- what the code hands on of an offered message is its trip
pub record IsAdmitted (net : Network) (t : Trip) (m : Message) (a : Admitted) : Type 0 where
  pub source : a.ends.source ≡ t.source
  pub destination : a.ends.destination ≡ t.destination
  pub way : IsWay net t m a.way

-- the smallest delay at which a message is neither late nor meets any of those held beside the tasks, by its trip at delay 0
abbrev pub FindsDelay : {F : Type 0} → (F → Network) → Routing F → List Message → Admitted → OpenMessage → Option ℕ → Type 0
FindsDelay meaning r ms a m found =
    (t : Trip) → IsAdmitted (meaning r.fabric.now) t (message_at m 0) a
    → found ≡ first_free_delay (setting_on meaning r) (jobs_beside r ms) m t

-- a held job, by its name and what it takes
abbrev pub job_of : {X : Type 0} → (X → ℕ) → (X → List Take) → X → HeldJob
job_of name takes x = record { name = name x; takes = takes x }
