use Rattle.std.proofs.Common.{◌≡◌, ◌+◌, ◌*◌, ◌≤◌, map}
use Rattle.jobs.specs.Meetings.{earliest_from, meetings}
use Rattle.jobs.specs.Ways.{stay_take, way_takes}
use Rattle.jobs.proofs.Walks.{takes_from}
use Rattle.jobs.proofs.way.Way.nearest.Given as goal

-- the earliest so far, and the meetings with what packets have yet to take
abbrev pub invariant-loop-place : goal.invariant-loop-place
invariant-loop-place g l =
    let net = g.F.Fabric.meaning l.fabric in
    let own = map stay_take l.own in
    (l.start ≤ 17179869184 + 64 * l.place)
    × (earliest_from l.best (meetings l.name own (takes_from net l.self l.place l.start)) ≡ earliest_from l.fn.best (meetings l.name own (way_takes net l.self)))
