use Rattle.std.proofs.Common.{◌≡◌, None, rules}
use Rattle.listed.specs.Description.{links_fault, routes_fault}
use Rattle.listed.proofs.Firsts.{links_good, routes_good}
use Rattle.listed.proofs.Readings.{head_limits}
use Rattle.listed.proofs.Listed.set.Goals as goal

-- the head is within the limits, and no link and no route has a fault
pub invariant_of-self : goal.invariant_of-self
invariant_of-self c =
    let h = c.in_ok-head.head in
    let ls = c.in_ok-section.section.bytes.now in
    let rs = c.in_ok-routes.routes.bytes.now in
    let limits = head_limits c.args.file.now h c.in_ok-head.body.now c.in_ok-head.ensures in
    let linked : links_fault h.x ls ≡ None = search rules in
    let routed : routes_fault h.x ls rs ≡ None = search rules in
    record {
      sized = (limits.0, limits.1);
      slow = limits.2;
      few = search rules;
      linked = links_good h.x ls linked;
      routed = routes_good h.x ls rs routed;
    }
