use Rattle.std.proofs.Common.{rules}
use Rattle.plan.specs.Held.{jobs}
use Rattle.replay.proofs.Pages.{page_written, told_length}
use Rattle.replay.proofs.dispatch.Goals as goal

-- no job part is longer than the page
pub returns-in-Write-clause-answer : goal.returns-in-Write-clause-answer
returns-in-Write-clause-answer g c =
    rw c.in-Write.is (told_length (jobs c.args.plan.now) c.in-Write.room c.min.result c.args.page.now c.write.ensures.bound (search rules) c.told-page c.write.ensures.follows.answer)

pub returns-in-Write-clause-page : goal.returns-in-Write-clause-page
returns-in-Write-clause-page g c =
    rw c.in-Write.is (page_written (jobs c.args.plan.now) c.in-Write.room c.min.result c.args.page.now c.write.ensures.bound (search rules) c.told-page c.write.ensures.buffer)
