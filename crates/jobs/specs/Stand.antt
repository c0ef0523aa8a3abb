-- Meaning. The words of time in the numbers of tasks, messages and fabrics; and within the limits of tasks and messages the rules pass
-- nothing over: every claim is a hold, and the least slack is the formula's.
--   TaskHolds, ClaimsRoute, PacketHolds   claims and holds
--   Goes                                  a message within its limits on a trip that the network has
--   TravelEven, FlowEven, SlackFormula    times in numbers
use Rattle.std.specs.Prelude.{◌≡◌, ℕ, ◌+◌, ◌*◌, ◌%◌, ◌≤◌, true, cond, List, length, pos, ◌-ℤ◌, ◌==◌, Some}
use Rattle.std.specs.List.{slice_get}
use Rattle.fabric.specs.Network.{IsFabric, Network}
use Rattle.holds.specs.Gcd.{gcd}
use Rattle.records.specs.declared.record.Task.{Task}
use Rattle.records.specs.declared.record.Message.{Message}
use Rattle.jobs.specs.Checks.{message_timely, task_timely}
use Rattle.jobs.specs.Claims.{Claim, trip_claims}
use Rattle.jobs.specs.Places.{link}
use Rattle.jobs.specs.Slacks.{message_slack}
use Rattle.jobs.specs.Takes.{packet_takes, task_hold}
use Rattle.jobs.specs.Timing.{departure, due, offset, packet_period, travel}
use Rattle.jobs.specs.Trips.{Trip, message_flow}

-- a task within its limits takes its core from its phase on, a period apart, for its width
abbrev pub TaskHolds : Type 0
TaskHolds = (t : Task) → task_timely t ≡ true → task_hold t ≡ Some (record { start = t.phase; period = t.period; width = t.width })

-- a message that is within its limits goes along its trip, whose route the network has
pub record Goes (net : Network) (t : Trip) (m : Message) : Type 0 where
  pub source : task_timely t.source ≡ true
  pub timely : message_timely t.source m ≡ true
  pub along : net.route t.source.core t.destination.core ≡ Some t.route

-- packets claim as many places as the route has links: the link at place i from the departure and the offset of the place on
abbrev pub ClaimsRoute : Type 0
ClaimsRoute =
    (net : Network) (t : Trip) (m : Message) → (length (trip_claims net t m) ≡ length t.route)
    × ((i l : ℕ) → slice_get t.route i ≡ Some l
    → slice_get (trip_claims net t m) i
    ≡ Some (record {
      place = link l;
      span = record { start = departure t.source m + offset net t.route i; period = packet_period t.source m; width = m.width };
    }))

-- and take each of the claims as it is
abbrev pub PacketHolds : Type 0
PacketHolds =
    (net : Network) → IsFabric net → (t : Trip) (m : Message) → Goes net t m
    → (i : ℕ) (c : Claim) → slice_get (trip_claims net t m) i ≡ Some c
    → slice_get (packet_takes net t m) i ≡ Some (record { place = c.place; hold = Some c.span })

-- every link takes as long: a route takes that for each of its links, and it is that for each link to a place of it
abbrev pub TravelEven : Type 0
TravelEven =
    (net : Network) (route : List ℕ) → (travel net route ≡ length route * net.delay)
    × ((i : ℕ) → i ≤ length route → offset net route i ≡ i * net.delay)

-- packet 0 leaves when run 0 of the source has ended and the delay has passed, and arrives past all links with its width, or when it leaves
-- where there is no link; it is due at 0, or by kind 1 a period of the source later; and so are all others, a period of the source apart
abbrev pub FlowEven : Type 0
FlowEven =
    (net : Network) (t : Trip) (m : Message) → message_flow net t m
    ≡ record {
      arrival = t.source.phase + t.source.width + m.delay + cond (length t.route == 0) 0 (length t.route * net.delay + m.width);
      due = cond (m.kind == 0) 0 t.source.period;
      period = t.source.period;
    }

-- read by a task within its limits, the least slack is c + (F of the destination mod g) less the arrival of packet 0, with c of the kind and g of both periods
abbrev pub SlackFormula : Type 0
SlackFormula =
    (net : Network) → IsFabric net → (t : Trip) (m : Message) → Goes net t m → task_timely t.destination ≡ true
    → message_slack net t m
    ≡ Some (pos (due m.kind t.source.period + t.destination.phase % gcd t.source.period t.destination.period) -ℤ pos (message_flow net t m).arrival)
