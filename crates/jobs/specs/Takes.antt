-- Rule. What jobs take: their claims, each as a hold where its numbers are a hold's.
use Rattle.std.specs.Prelude.{ℕ, List, [], ◌∷◌, map, Option}
use Rattle.holds.specs.Span.{Span}
use Rattle.holds.specs.Held.{spanned}
use Rattle.records.specs.declared.record.Task.{Task}
use Rattle.records.specs.declared.record.Message.{Message}
use Rattle.fabric.specs.Network.{Network}
use Rattle.jobs.specs.declared.job.Job.TheVariants as job
use Rattle.jobs.specs.declared.place.Place.{Place}
use Rattle.jobs.specs.Claims.{Claim, claims, link_claims, task_claim, trip_claims}
use Rattle.jobs.specs.Jobs.{Setting}
use Rattle.jobs.specs.Trips.{Trip}

-- a periodic hold of one place; none where the numbers are no hold's
pub record Take : Type 0 where
  pub place : Place
  pub hold : Option Span

abbrev pub take_of : Claim → Take
take_of c = record { place = c.place; hold = spanned c.span.start c.span.period c.span.width }

-- what a task takes
abbrev pub task_take : Task → Take
task_take t = take_of (task_claim t)

abbrev pub task_takes : Task → List Take
task_takes t = task_take t ∷ []

-- the hold of its core, where the numbers are a hold's
abbrev pub task_hold : Task → Option Span
task_hold t = spanned t.phase t.period t.width

-- what packets take that go along a route
abbrev pub route_takes : (net : Network) (route : List ℕ) (start period width : ℕ) → List Take
route_takes net route start period width = map take_of (link_claims net route start period width)

-- what the packets of a message take on its trip
abbrev pub packet_takes : Network → Trip → Message → List Take
packet_takes net t m = map take_of (trip_claims net t m)

-- the same among held tasks
abbrev pub message_takes : Setting → List Task → Message → List Take
message_takes g ts m = map take_of (claims g ts (job.Message m))
