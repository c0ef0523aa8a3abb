-- Working. A job that is put off: how long it still meets one that is held, and which delays are in time.
use Rattle.std.specs.Prelude.{◌≡◌, ℕ, ◌<◌, ◌≤◌, Bool, false, List, is_none, map, ℤ, Some, None, Option}
use Rattle.std.specs.Option.{option_and_then, option_map}
use Rattle.std.specs.List.{slice_get}
use Rattle.holds.specs.Span.{later}
use Rattle.fabric.specs.Network.{Network}
use Rattle.jobs.specs.declared.place.Place.{Place}
use Rattle.jobs.specs.declared.stay.Stay.{Stay}
use Rattle.jobs.specs.Holding.{first_run, run_on}
use Rattle.jobs.specs.Meetings.{HeldJob, first_met, met}
use Rattle.jobs.specs.declared.open.OpenMessage.{OpenMessage}
use Rattle.jobs.specs.Open.{message_at}
use Rattle.jobs.specs.Slacks.{lateness, message_slack}
use Rattle.jobs.specs.Takes.{Take}
use Rattle.jobs.specs.Trips.{Trip}
use Rattle.jobs.specs.Ways.{stay_take}

-- a take put off by n instants
abbrev pub put_off : ℕ → Take → Take
put_off n t = record t { hold = option_map (later n) t.hold }

-- the test fails of each number below the wait; without a wait, of every number
abbrev pub Fails : (ℕ → Bool) → Option ℕ → Type 0
Fails test None = (n : ℕ) → test n ≡ false
Fails test (Some w) = (n : ℕ) → n < w → test n ≡ false

-- put off by less than the wait, x still meets y
abbrev pub StillMeets : Take → Take → Option ℕ → Type 0
StillMeets x y wait = (name : ℕ) → Fails (λ n. is_none (met name (put_off n x) y)) wait

-- put off by less than the wait, a job still meets one of those held
abbrev pub StillMet : List Take → List HeldJob → Option ℕ → Type 0
StillMet own held wait = Fails (λ n. is_none (first_met (map (put_off n) own) held)) wait

-- a stay, where there is one, is among some takes
abbrev pub Among : List Take → Option Stay → Type 0
Among ts None = Unit {0}
Among ts (Some s) = (i : ℕ) × (slice_get ts i ≡ Some (stay_take s))

-- a place is had at each instant by the runs of one stay alone, and where there is none, by no run
abbrev pub RunsBy : Place → List Take → Option Stay → Type 0
RunsBy p ts o = (n : ℕ) → first_run p n ts ≡ option_and_then (λ s. run_on p n (stay_take s)) o

-- the slack, where it is below 0, of a message with the delay v
abbrev pub late_at : Network → Trip → OpenMessage → ℕ → Option ℤ
late_at net t m v = lateness (message_slack net t (message_at m v))

-- the first n delays are in time, and all others below the source's period late
pub record DelaysInTime (net : Network) (t : Trip) (m : OpenMessage) (n : ℕ) : Type 0 where
  pub within : n ≤ t.source.period
  pub in_time : (v : ℕ) → v < n → late_at net t m v ≡ None
  pub late : (v : ℕ) → n ≤ v → v < t.source.period → is_none (late_at net t m v) ≡ false
