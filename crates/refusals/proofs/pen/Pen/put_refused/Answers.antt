use Rattle.std.proofs.Common.{◌≤◌, length, arith}
use Rattle.refusals.proofs.Writing.{goes_on}
use Rattle.refusals.proofs.pen.Pen.put_refused.Goals as goal

-- each text goes on where the one before ended
pub returns-clause-puts : goal.returns-clause-puts
returns-clause-puts c =
    let fits : c.args.self.now.at ≤ length c.args.self.now.out.now = omega arith in
    let p = goes_on fits c.put.ensures.puts c.put_number.ensures.puts in
    let p = goes_on fits p c.put-2.ensures.puts in
    let p = goes_on fits p c.put_number-2.ensures.puts in
    let p = goes_on fits p c.put-3.ensures.puts in
    let p = goes_on fits p c.put_number-3.ensures.puts in
    let p = goes_on fits p c.put-4.ensures.puts in
    let p = goes_on fits p (rw c.word.ensures.value at c.put-5.ensures.puts) in
    let p = goes_on fits p c.put_detail.ensures.puts in
    goes_on fits p c.put-6.ensures.puts
