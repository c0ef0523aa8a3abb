use Rattle.records.proofs.Shifts.{turned_out}
use Rattle.records.proofs.tables.take_at.Goals as goal

pub returns : goal.returns
returns g c = turned_out c.args.part.now c.args.at c.rotate_left.new.self c.requires c.rotate_left.ensures.after
