use Rattle.records.proofs.Shifts.{turned_in}
use Rattle.records.proofs.tables.put_at.Goals as goal

pub returns : goal.returns
returns g c = turned_in c.args.part.now c.args.at c.args.x c.rotate_right.new.self c.requires c.rotate_right.ensures.after
