-- Meaning. The trip of a message's packets: the tasks that it names, as they are held, and the route between their cores.
use Rattle.std.specs.Prelude.{ℕ, List, length, Some, None, Option}
use Rattle.std.specs.Option.{option_map}
use Rattle.holds.specs.Slack.{Flow}
use Rattle.records.specs.declared.record.Task.{Task}
use Rattle.records.specs.declared.record.Message.{Message}
use Rattle.fabric.specs.Network.{Network}
use Rattle.jobs.specs.Jobs.{Setting, task_named}
use Rattle.jobs.specs.Timing.{arrival, departure, due, packet_period, travel}

pub record Trip : Type 0 where
  pub source : Task
  pub destination : Task
  pub route : List ℕ

-- between two tasks, where there are both and the fabric has a route
abbrev pub trip_between : Network → Option Task → Option Task → Option Trip
trip_between net None d = None
trip_between net (Some s) None = None
trip_between net (Some s) (Some d) = option_map (λ r. record { source = s; destination = d; route = r }) (net.route s.core d.core)

-- of a message among held tasks
abbrev pub trip_of : Setting → List Task → Message → Option Trip
trip_of g ts m = trip_between g.network (task_named ts m.source) (task_named ts m.destination)

-- when the packets of a message on its trip arrive and are due
abbrev pub message_flow : Network → Trip → Message → Flow
message_flow net t m =
    record {
      arrival = arrival (departure t.source m) (length t.route) (travel net t.route) m.width;
      due = due m.kind t.source.period;
      period = packet_period t.source m;
    }
