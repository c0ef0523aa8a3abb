use Rattle.std.proofs.Common.{◌≡◌, ◌+◌, ◌*◌, ◌≤◌, ◌++◌, map}
use Rattle.arrayvec.specs.ArrayVec.{array_vec_len}
use Rattle.jobs.specs.Ways.{stay_take, way_takes}
use Rattle.jobs.proofs.Walks.{takes_from}
use Rattle.jobs.proofs.way.Way.stays.Given as goal

-- the stays so far, and those that packets have yet to take
abbrev pub invariant-loop-place : goal.invariant-loop-place
invariant-loop-place g l =
    let net = g.F.Fabric.meaning l.fabric in
    (l.start ≤ 17179869184 + 64 * l.place)
    × (array_vec_len l.stays ≤ l.place)
    × (map stay_take l.stays.items ++ takes_from net l.self l.place l.start ≡ way_takes net l.self)
