-- Meaning. What having a place comes to, in the numbers of tasks, messages and fabrics.
--   TaskUses       a task's run has its core, from its phase and k periods on, for its width
--   TripTasks      a message goes between the held tasks of its names
--   OnLink         a packet is on a link of its route
--   MessageUses    a message's packet has each link of its route, a hop delay after the link before
use Rattle.std.specs.Prelude.{◌≡◌, ℕ, ◌+◌, ◌*◌, ◌<◌, ◌≤◌, ◌↔◌, List, Some}
use Rattle.std.specs.List.{slice_get}
use Rattle.records.specs.declared.record.Task.{Task}
use Rattle.records.specs.declared.record.Message.{Message}
use Rattle.jobs.specs.declared.job.Job.TheVariants as job
use Rattle.jobs.specs.declared.place.Place.{Place}
use Rattle.jobs.specs.Jobs.{In, Jobs, Setting}
use Rattle.jobs.specs.Places.{core, link}
use Rattle.jobs.specs.Trips.{Trip, trip_of}
use Rattle.promise.specs.Clean.{Uses}

-- run k of a task has its core at the instants from its phase and k periods on, as many as its width, and no other place
abbrev pub TaskUses : Type 0
TaskUses =
    (g : Setting) (js : Jobs) (t : Task) (k : ℕ) (p : Place) (n : ℕ)
    → Uses g js (job.Task t) k p n ↔ ((p ≡ core t.core) × (t.phase + k * t.period ≤ n) × (n < t.phase + k * t.period + t.width))

-- packet k of a message is at n on the link at place i of the route: run k of the source has ended, the delay and i hop delays have passed,
-- and the width has not
pub record OnLink (g : Setting) (js : Jobs) (m : Message) (k : ℕ) (p : Place) (n : ℕ) : Type 0 where
  pub trip : Trip
  pub going : trip_of g js.tasks m ≡ Some trip
  pub i : ℕ
  pub number : ℕ
  pub along : slice_get trip.route i ≡ Some number
  pub place : p ≡ link number
  pub since : trip.source.phase + trip.source.width + m.delay + i * g.network.delay + k * trip.source.period ≤ n
  pub until : n < trip.source.phase + trip.source.width + m.delay + i * g.network.delay + k * trip.source.period + m.width

-- packet k of a message has a place exactly where it is on that link
abbrev pub MessageUses : Type 0
MessageUses = (g : Setting) (js : Jobs) (m : Message) (k : ℕ) (p : Place) (n : ℕ) → Uses g js (job.Message m) k p n ↔ OnLink g js m k p n

-- a message goes between held tasks of the names that it has, along the route that the fabric has between their cores
abbrev pub TripTasks : Type 0
TripTasks =
    (g : Setting) (ts : List Task) (m : Message) (t : Trip) → trip_of g ts m ≡ Some t
    → (In t.source ts × (t.source.name ≡ m.source)) × (In t.destination ts × (t.destination.name ≡ m.destination))
    × (g.network.route t.source.core t.destination.core ≡ Some t.route)
