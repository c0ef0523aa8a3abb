use Rattle.std.proofs.Common.{arith}
use Rattle.fabric.proofs.Laws.{place_256}
use Rattle.jobs.proofs.way.Way.stay_on.Goals as goal

pub overflow_cast-link : goal.overflow_cast-link
overflow_cast-link g c =
    let laws = g.F.Fabric.lawful c.args.fabric.now in
    omega (arith, place_256 laws c.args.self.now.from c.args.self.now.to c.args.place c.in_ok-link.link c.in_ok-link.ensures)
