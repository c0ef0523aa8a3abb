use Rattle.std.proofs.Common.{◌≡◌, false, length, subst, ◌<◌, ◌/◌, arith, rules}
use Rattle.records.specs.Sections.{section_fits}
use Rattle.records.proofs.Back.{too_long}
use Rattle.records.proofs.section.write_section.Given.{Over}
use Rattle.records.proofs.section.write_section.Goals as goal

-- fewer records fit than there are
short : (g : Over) (c : goal.Then-room-SIZE g) → section_fits g.R.Record.form c.args.records.now (length c.args.out.now) ≡ false
short g c =
    let room = c.in_ok-room.room in
    too_long g.R.Record.form g.R.Record.SIZE g.met.R.Record.long c.args.records.now (length c.args.out.now) room g.met.R.Record.some
    (let e = c.in_ok-room.ensures in omega (arith, e))
    (subst (λ n. room / n < length c.args.records.now) c.SIZE.ensures c.if-room-SIZE.true)

pub returns-then-room-SIZE-clause-answer : goal.returns-then-room-SIZE-clause-answer
returns-then-room-SIZE-clause-answer g c = rw (short g c) (search rules)

pub returns-then-room-SIZE-clause-bytes : goal.returns-then-room-SIZE-clause-bytes
returns-then-room-SIZE-clause-bytes g c = rw (short g c) (search rules)
