-- Working. What stays and ways of the code stand for.
use Rattle.std.specs.Prelude.{◌≡◌, ℕ, List, [], length, ℤ, Some, None, Option, MatchOption}
use Rattle.std.specs.Option.{option_map}
use Rattle.fabric.specs.Network.{Network, route_place}
use Rattle.records.specs.declared.record.Task.{Task}
use Rattle.records.specs.declared.record.Message.{Message}
use Rattle.jobs.specs.declared.stay.Stay.{Stay}
use Rattle.jobs.specs.declared.way.Way.{Way}
use Rattle.holds.specs.Held.{span}
use Rattle.jobs.specs.Slacks.{flow_slack}
use Rattle.jobs.specs.Places.{link}
use Rattle.jobs.specs.Takes.{Take, route_takes, take_of, task_hold}
use Rattle.jobs.specs.Timing.{arrival, departure, due, packet_period, travel}
use Rattle.jobs.specs.Trips.{Trip}

-- what a stay takes
abbrev pub stay_take : Stay → Take
stay_take s = record { place = s.place; hold = option_map span s.hold }

-- what packets on a way take along a route, if there is one
abbrev pub on_route : Network → Option (List ℕ) → (start period width : ℕ) → List Take
on_route net None start period width = []
on_route net (Some r) start period width = route_takes net r start period width

abbrev pub way_takes : Network → Way → List Take
way_takes net w = on_route net (net.route w.from w.to) w.start w.period w.width

abbrev pub takes_on : Network → Option Way → List Take
takes_on net None = []
takes_on net (Some w) = way_takes net w

-- a stay is that of packets that are at the link at a place of their way from start on
pub record StaysOn (net : Network) (w : Way) (i start : ℕ) (s : Stay) : Type 0 where
  pub number : ℕ
  pub at : Some number ≡ route_place (net.route w.from w.to) i
  pub takes : stay_take s ≡ take_of (record { place = link number; span = record { start = start; period = w.period; width = w.width } })

-- the stay at a place, or none past the end of the route
abbrev pub StayAt : Network → Way → ℕ → ℕ → Option Stay → Type 0
StayAt net w i start o = MatchOption o (None ≡ route_place (net.route w.from w.to) i) (StaysOn net w i start)

-- the way of a message on its trip
pub record IsWay (net : Network) (t : Trip) (m : Message) (w : Way) : Type 0 where
  pub from : w.from ≡ t.source.core
  pub to : w.to ≡ t.destination.core
  pub along : net.route t.source.core t.destination.core ≡ Some t.route
  pub links : w.links ≡ length t.route
  pub travel : w.travel ≡ travel net t.route
  pub start : w.start ≡ departure t.source m
  pub period : w.period ≡ packet_period t.source m
  pub width : w.width ≡ m.width

-- the least slack of packets on a way, of a kind and a reader
abbrev pub way_slack : Way → ℕ → Task → Option ℤ
way_slack w kind d =
    flow_slack (record { arrival = arrival w.start w.links w.travel w.width; due = due kind w.period; period = w.period }) (task_hold d)
