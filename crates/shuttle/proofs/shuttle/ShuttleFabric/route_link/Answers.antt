use Rattle.std.proofs.Common.{◌∙◌}
use Rattle.shuttle.proofs.Places.{place_here}
use Rattle.shuttle.proofs.shuttle.ShuttleFabric.route_link.Goals as goal

pub returns : goal.returns
returns c = c.then_some.ensures ∙ place_here c.args.from c.args.to c.in_ok-links.links c.in_ok-links.ensures c.args.place
