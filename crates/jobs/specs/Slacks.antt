-- Rule. The least slack of a message, its lateness, and the slack of a held message; and that slack in the words of the model.
use Rattle.std.specs.Prelude.{◌≡◌, ℕ, cond, List, ℤ, pos, Some, None, Option, Result, int_lt}
use Rattle.std.specs.Option.{ok_or, option_and_then}
use Rattle.holds.specs.Held.{flowing}
use Rattle.holds.specs.Slack.{Flow, LeastSlack, least_slack}
use Rattle.holds.specs.Span.{Span}
use Rattle.records.specs.Named.{named}
use Rattle.records.specs.declared.record.Task.{Task}
use Rattle.records.specs.declared.record.Message.{Message}
use Rattle.fabric.specs.Network.{Network}
use Rattle.jobs.specs.declared.fault.DropFault.{DropFault}
use Rattle.jobs.specs.declared.fault.DropFault.TheVariants.{Unknown}
use Rattle.jobs.specs.Jobs.{Setting, Jobs, message_name}
use Rattle.jobs.specs.Takes.{task_hold}
use Rattle.jobs.specs.Timing.{task_span}
use Rattle.jobs.specs.Trips.{Trip, message_flow, trip_of}

-- the least slack of packets that a reader reads; none where the numbers are outside the limits of the model
abbrev pub slack_of : Option Flow → Option Span → Option ℤ
slack_of None r = None
slack_of (Some f) None = None
slack_of (Some f) (Some r) = Some (least_slack f r)

abbrev pub flow_slack : Flow → Option Span → Option ℤ
flow_slack f reader = slack_of (flowing f.arrival f.due f.period) reader

-- the least slack of a message on its trip
abbrev pub message_slack : Network → Trip → Message → Option ℤ
message_slack net t m = flow_slack (message_flow net t m) (task_hold t.destination)

-- that slack where it is below 0
abbrev pub lateness : Option ℤ → Option ℤ
lateness None = None
lateness (Some v) = cond (int_lt v (pos 0)) (Some v) None

-- among held tasks
abbrev pub slack_among : Setting → List Task → Message → Option ℤ
slack_among g ts m = option_and_then (λ t. message_slack g.network t m) (trip_of g ts m)

-- the least slack of the held message of a name
abbrev pub slack_held : Setting → Jobs → ℕ → Option ℤ
slack_held g js n = option_and_then (slack_among g js.tasks) (named message_name n js.messages)

abbrev pub slack : Setting → Jobs → ℕ → Result ℤ DropFault
slack g js n = ok_or (slack_held g js n) Unknown

-- v is the slack of some packet of the held message of this name, and no packet of it has a smaller one
pub record HeldSlack (g : Setting) (js : Jobs) (n : ℕ) (v : ℤ) : Type 0 where
  pub message : Message
  pub trip : Trip
  pub held : named message_name n js.messages ≡ Some message
  pub going : trip_of g js.tasks message ≡ Some trip
  pub least : LeastSlack (message_flow g.network trip message) (task_span trip.destination) v
