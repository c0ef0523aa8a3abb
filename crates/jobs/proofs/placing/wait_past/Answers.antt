use Rattle.std.proofs.Common.{map}
use Rattle.jobs.specs.Ways.{stay_take}
use Rattle.jobs.proofs.Waits.{job_meets}
use Rattle.jobs.proofs.placing.wait_past.Goals as goal

pub returns : goal.returns
returns g c =
    let takes = g.J.Held.takes c.args.routing.now in
    job_meets g.J.Named.label takes c.args.held.now (map stay_take c.args.own.now) c.in-Some.job c.args.meeting.now.held
    c.in-Some-stay_at.one c.in-Some-stay_there.other c.stay_wait.result c.in-Some.ensures
    c.in-Some-stay_at.ensures c.in-Some-stay_there.ensures.among c.stay_wait.ensures
