use Rattle.std.proofs.Common.{◌≡◌, rules}
use Rattle.jobs.specs.Numbers.{drop_told}
use Rattle.jobs.specs.Slacks.{slack}
use Rattle.plan.specs.Held.{jobs, setting}
use Rattle.plan.proofs.Stands.{says_of, slack_told_of}
use Rattle.plan.proofs.plan.Plan.slack.Goals as goal

pub returns-in_err-m : goal.returns-in_err-m
returns-in_err-m g c =
    let p = c.args.self.now in
    let rule = slack (setting p) (jobs p) c.args.name in
    let r = c.from_residual.result in
    let answer : r ≡ rule = search rules in
    record { follows = says_of r drop_told rule answer; promise = slack_told_of p c.args.name r answer }

pub returns : goal.returns
returns g c =
    let p = c.args.self.now in
    let rule = slack (setting p) (jobs p) c.args.name in
    let r = c.ok_or-2.result in
    let answer : r ≡ rule = search rules in
    record { follows = says_of r drop_told rule answer; promise = slack_told_of p c.args.name r answer }
