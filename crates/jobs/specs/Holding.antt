-- Rule. Who holds a core or link at an instant; and that holder in the words of takes.
use Rattle.std.specs.Prelude.{◌≡◌, ℕ, true, cond, List, [], ◌∷◌, map, Some, None, Ok, Err, Option, Result, nat_le}
use Rattle.std.specs.List.{slice_get}
use Rattle.std.specs.Option.{option_and_then, option_map, option_or}
use Rattle.holds.specs.Run.{run}
use Rattle.holds.specs.Span.{RunHolds, Span}
use Rattle.fabric.specs.Network.{Network}
use Rattle.jobs.specs.declared.fault.PlaceFault.{PlaceFault}
use Rattle.jobs.specs.declared.place.PlaceKind.{PlaceKind}
use Rattle.jobs.specs.declared.place.PlaceKind.TheVariants as kind
use Rattle.jobs.specs.declared.place.Place.{Place}
use Rattle.jobs.specs.Jobs.{Setting, Jobs}
use Rattle.jobs.specs.Meetings.{HeldJob, held_message, held_task}
use Rattle.jobs.specs.Places.{core, link, same_place}
use Rattle.jobs.specs.Takes.{Take}

-- the run of a take that has the place p at the instant n
abbrev pub run_on : Place → ℕ → Take → Option ℕ
run_on p n t = cond (same_place p t.place) (option_and_then (λ h. run h n) t.hold) None

-- the first answer that f gives of a list
abbrev pub first_some : {X Y : Type 0} → (X → Option Y) → List X → Option Y
first_some f [] = None
first_some f (x ∷ xs) = option_or (f x) (first_some f xs)

-- the first run of some takes
abbrev pub first_run : Place → ℕ → List Take → Option ℕ
first_run p n ts = first_some (run_on p n) ts

-- a job's name and run
abbrev pub with_name : ℕ → Option ℕ → Option (ℕ × ℕ)
with_name name r = option_map (λ k. (name, k)) r

-- the first job that has the place at the instant, and its run there
abbrev pub holder_among : Place → ℕ → List HeldJob → Option (ℕ × ℕ)
holder_among p n js = first_some (λ j. with_name j.name (first_run p n j.takes)) js

-- how many places of a kind a network has
abbrev pub place_count : Network → PlaceKind → ℕ
place_count net kind.Core = net.nodes
place_count net kind.Link = net.links

-- the held jobs that take places of a kind
abbrev pub jobs_on : Setting → Jobs → PlaceKind → List HeldJob
jobs_on g js kind.Core = map held_task js.tasks
jobs_on g js kind.Link = map (held_message g js.tasks) js.messages

-- a number that is not below its count is no place
abbrev pub no_place : PlaceFault
no_place = record {}

abbrev pub holder : Setting → Jobs → Place → ℕ → Result (Option (ℕ × ℕ)) PlaceFault
holder g js p n = cond (nat_le (place_count g.network p.kind) p.number) (Err no_place) (Ok (holder_among p n (jobs_on g js p.kind)))

abbrev pub core_holder : Setting → Jobs → ℕ → ℕ → Result (Option (ℕ × ℕ)) PlaceFault
core_holder g js c n = holder g js (core c) n

abbrev pub link_holder : Setting → Jobs → ℕ → ℕ → Result (Option (ℕ × ℕ)) PlaceFault
link_holder g js l n = holder g js (link l) n

-- ---- in the words of takes

-- run k of a take has the place p at the instant n
abbrev pub Has : Place → ℕ → ℕ → Take → Type 0
Has p n k t = (same_place p t.place ≡ true) × ((h : Span) × (t.hold ≡ Some h) × RunHolds h k n)

-- run k of some job of this name has it
pub record Holding (js : List HeldJob) (p : Place) (n name k : ℕ) : Type 0 where
  pub job : HeldJob
  pub take : Take
  pub job_at : (i : ℕ) × (slice_get js i ≡ Some job)
  pub take_at : (i : ℕ) × (slice_get job.takes i ≡ Some take)
  pub named : job.name ≡ name
  pub has : Has p n k take

-- the job and run that are told have the place at the instant; where none is told, no run of any job has
abbrev pub HolderIs : List HeldJob → Place → ℕ → Option (ℕ × ℕ) → Type 0
HolderIs js p n None = (name k : ℕ) → Holding js p n name k → ⊥
HolderIs js p n (Some x) = Holding js p n x.0 x.1
