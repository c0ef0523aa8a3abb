use Rattle.std.proofs.Common.{◌-◌}
use Rattle.jobs.specs.Jobs.{Jobs, created_on}
use Rattle.jobs.specs.Open.{message_at}
use Rattle.jobs.specs.Routings.{IsAdmitted}
use Rattle.jobs.specs.Trips.{Trip}
use Rattle.jobs.proofs.Delays.{free}
use Rattle.jobs.proofs.Searches.{Passed}
use Rattle.jobs.proofs.routing.Routing.first_delay.Given as goal

-- each smaller delay is refused
abbrev pub invariant-loop-delay : goal.invariant-loop-delay
invariant-loop-delay g l =
    let net = g.F.Fabric.meaning l.self.fabric.now in
    let js : Jobs = record { tasks = l.self.tasks.now; messages = l.held } in
    (t : Trip) → IsAdmitted net t (message_at l.m 0) l.at_once → Passed (free (created_on net) js t l.m) l.delay

abbrev pub decreases-loop-delay : goal.decreases-loop-delay
decreases-loop-delay g l = l.count - l.delay
