use Rattle.std.proofs.Common.{◌≤◌, length, decimal, ap, arith, w64, rules}
use Rattle.std.proofs.lemmas.Int.{to_z-of_z}
use Rattle.refusals.specs.Lines.{detail_text}
use Rattle.refusals.specs.Written.{Puts}
use Rattle.refusals.proofs.Writing.{goes_on}
use Rattle.refusals.proofs.pen.Pen.put_detail.Goals as goal

-- a space, then the slack
pub returns-in-Slack-clause-puts : goal.returns-in-Slack-clause-puts
returns-in-Slack-clause-puts c =
    let fits : c.args.self.now.at ≤ length c.args.self.now.out.now = omega arith in
    let same = to_z-of_z w64 c.in-Slack.z (search rules) in
    rw (ap detail_text c.in-Slack.is) (goes_on fits c.put.ensures.puts (rw same at c.put_number.ensures.puts))

-- a space before each of the three numbers
pub returns-in-Meeting-clause-puts : goal.returns-in-Meeting-clause-puts
returns-in-Meeting-clause-puts c =
    let fits : c.args.self.now.at ≤ length c.args.self.now.out.now = omega arith in
    let m = c.in-Meeting.meeting in
    let instant : Puts c.put-in-Meeting.new.self c.put_number-in-Meeting.new.self (decimal m.instant) = search rules in
    let held : Puts c.put-in-Meeting-2.new.self c.put_number-in-Meeting-2.new.self (decimal m.held) = search rules in
    let place : Puts c.put-in-Meeting-3.new.self c.put_number-in-Meeting-3.new.self (decimal m.place) = search rules in
    let p = goes_on fits c.put-in-Meeting.ensures.puts instant in
    let p = goes_on fits (goes_on fits p c.put-in-Meeting-2.ensures.puts) held in
    let p = goes_on fits (goes_on fits p c.put-in-Meeting-3.ensures.puts) place in
    rw (ap detail_text c.in-Meeting.is) p
