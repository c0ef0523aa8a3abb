use Rattle.std.proofs.Common.{◌≡◌, Ok, Err, rules}
use Rattle.jobs.specs.Holding.{core_holder, no_place}
use Rattle.jobs.specs.Places.{core}
use Rattle.jobs.specs.Numbers.{place_told}
use Rattle.plan.specs.Held.{jobs, setting}
use Rattle.plan.proofs.Stands.{holder_answer_of, says_of}
use Rattle.plan.proofs.plan.Plan.core_holder.Goals as goal

pub returns-then-core-nodes : goal.returns-then-core-nodes
returns-then-core-nodes g c =
    let p = c.args.self.now in
    let rule = core_holder (setting p) (jobs p) c.args.core c.args.instant in
    let answer : Err no_place ≡ rule = search rules in
    record { follows = says_of (Err no_place) place_told rule answer; promise = holder_answer_of p (core c.args.core) c.args.instant (Err no_place) answer }

pub returns : goal.returns
returns g c =
    let p = c.args.self.now in
    let rule = core_holder (setting p) (jobs p) c.args.core c.args.instant in
    let answer : Ok c.task_holder.result ≡ rule = search rules in
    record { follows = says_of (Ok c.task_holder.result) place_told rule answer; promise = holder_answer_of p (core c.args.core) c.args.instant (Ok c.task_holder.result) answer }
