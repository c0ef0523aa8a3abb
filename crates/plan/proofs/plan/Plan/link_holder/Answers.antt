use Rattle.std.proofs.Common.{◌≡◌, Ok, Err, rules}
use Rattle.jobs.specs.Holding.{link_holder, no_place}
use Rattle.jobs.specs.Places.{link}
use Rattle.jobs.specs.Numbers.{place_told}
use Rattle.plan.specs.Held.{jobs, setting}
use Rattle.plan.proofs.Stands.{holder_answer_of, says_of}
use Rattle.plan.proofs.plan.Plan.link_holder.Goals as goal

pub returns-then-link-link_numbers : goal.returns-then-link-link_numbers
returns-then-link-link_numbers g c =
    let p = c.args.self.now in
    let rule = link_holder (setting p) (jobs p) c.args.link c.args.instant in
    let answer : Err no_place ≡ rule = search rules in
    record { follows = says_of (Err no_place) place_told rule answer; promise = holder_answer_of p (link c.args.link) c.args.instant (Err no_place) answer }

pub returns : goal.returns
returns g c =
    let p = c.args.self.now in
    let rule = link_holder (setting p) (jobs p) c.args.link c.args.instant in
    let answer : Ok c.message_holder.result ≡ rule = search rules in
    record { follows = says_of (Ok c.message_holder.result) place_told rule answer; promise = holder_answer_of p (link c.args.link) c.args.instant (Ok c.message_holder.result) answer }
