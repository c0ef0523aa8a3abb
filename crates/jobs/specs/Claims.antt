-- Meaning. What a job claims: places, and for each the instants at which its runs or packets have it.
use Rattle.std.specs.Prelude.{ℕ, ◌+◌, List, [], ◌∷◌, Some, None, Option}
use Rattle.holds.specs.Span.{Span}
use Rattle.records.specs.declared.record.Task.{Task}
use Rattle.records.specs.declared.record.Message.{Message}
use Rattle.fabric.specs.Network.{Network}
use Rattle.jobs.specs.declared.job.Job.{Job}
use Rattle.jobs.specs.declared.job.Job.TheVariants as job
use Rattle.jobs.specs.declared.place.Place.{Place}
use Rattle.jobs.specs.Jobs.{Setting}
use Rattle.jobs.specs.Places.{core, link}
use Rattle.jobs.specs.Timing.{departure, link_delay, packet_period, task_span}
use Rattle.jobs.specs.Trips.{Trip, trip_of}

pub record Claim : Type 0 where
  pub place : Place
  pub span : Span

-- a task claims its core for its runs
abbrev pub task_claim : Task → Claim
task_claim t = record { place = core t.core; span = task_span t }

-- packets that are at the first of some links at start claim each of them for their width, and are at the next one its delay later
abbrev pub link_claims : (net : Network) (route : List ℕ) (start period width : ℕ) → List Claim
link_claims net [] start period width = []
link_claims net (l ∷ ls) start period width =
    record { place = link l; span = record { start = start; period = period; width = width } } ∷ link_claims net ls (start + link_delay net l) period width

-- a message on its trip claims the links of the route from its departure on
abbrev pub trip_claims : Network → Trip → Message → List Claim
trip_claims net t m = link_claims net t.route (departure t.source m) (packet_period t.source m) m.width

-- a message whose tasks are not both held, or that has no route, claims nothing
abbrev pub claims_on : Network → Message → Option Trip → List Claim
claims_on net m None = []
claims_on net m (Some t) = trip_claims net t m

-- what a job claims among held tasks
abbrev pub claims : Setting → List Task → Job → List Claim
claims g ts (job.Task t) = task_claim t ∷ []
claims g ts (job.Message m) = claims_on g.network m (trip_of g ts m)
