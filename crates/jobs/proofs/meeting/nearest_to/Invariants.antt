use Rattle.std.proofs.Common.{◌≡◌, drop, map}
use Rattle.jobs.specs.Meetings.{earliest_from, met}
use Rattle.jobs.specs.Ways.{stay_take}
use Rattle.jobs.proofs.meeting.nearest_to.Given as goal

-- the earliest so far, and the meetings of the stays that are left
abbrev pub invariant-loop-stay : goal.invariant-loop-stay
invariant-loop-stay l =
    earliest_from l.best (map (λ x. met l.name x (stay_take l.held)) (map stay_take (drop l.stay-index l.own)))
    ≡ earliest_from l.fn.best (map (λ x. met l.name x (stay_take l.held)) (map stay_take l.own))
