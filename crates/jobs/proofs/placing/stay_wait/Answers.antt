use Rattle.std.proofs.Common.{◌≡◌, true, rules}
use Rattle.jobs.specs.Places.{same_place}
use Rattle.jobs.proofs.Waits.{stays_meet}
use Rattle.jobs.proofs.placing.stay_wait.Goals as goal

pub returns-in-Some-Some : goal.returns-in-Some-Some
returns-in-Some-Some c =
    let own = c.args.own.now in
    let held = c.args.held.now in
    let same : same_place own.place held.place ≡ true = search rules in
    stays_meet own.place held.place own.hold held.hold c.in-Some-Some.one c.in-Some-Some.other c.least_wait.result
    (search rules) (search rules) same c.least_wait.ensures
