use Rattle.std.proofs.Common.{◌+◌, ◌*◌, ◌≤◌}
use Rattle.jobs.specs.Ways.{way_takes}
use Rattle.jobs.proofs.Walks.{Unseen, takes_from}
use Rattle.jobs.proofs.way.Way.stay_there.Given as goal

-- no stay so far is at the place
abbrev pub invariant-loop-link : goal.invariant-loop-link
invariant-loop-link g l =
    let net = g.F.Fabric.meaning l.fabric in
    (l.start ≤ 17179869184 + 64 * l.link) × Unseen l.place (takes_from net l.self l.link l.start) (way_takes net l.self)
