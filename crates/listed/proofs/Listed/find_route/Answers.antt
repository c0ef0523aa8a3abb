use Rattle.std.proofs.Common.{◌+◌, ◌-◌, ◌/◌, arith, rules}
use Rattle.listed.proofs.Halving.{inside_after, inside_all, inside_before, inside_here, inside_none, inside_some}
use Rattle.listed.proofs.Listed.find_route.Goals as goal

pub loop-low-init : goal.loop-low-init
loop-low-init c = inside_all c.args.self.now.routes.bytes.now c.args.from c.args.to _ _ (omega arith) (omega (arith, c.count-high.ensures))

pub returns-in_err-route-clause-answer : goal.returns-in_err-route-clause-answer
returns-in_err-route-clause-answer c =
    let middle = c.loop-low.low + (c.loop-low.high - c.loop-low.low) / 2 in
    absurd (inside_some c.args.self.now c.args.from c.args.to _ _ c.loop-low.invariant middle (omega arith) (search rules))

pub loop-low-preserved-in-Less : goal.loop-low-preserved-in-Less
loop-low-preserved-in-Less c =
    let middle = c.loop-low.low + (c.loop-low.high - c.loop-low.low) / 2 in
    inside_after c.args.self.now c.args.from c.args.to _ _ c.loop-low.invariant middle _ c.in_ok-route.route (omega arith) (omega arith) (search rules) (search rules)

pub returns-in-Equal-clause-answer : goal.returns-in-Equal-clause-answer
returns-in-Equal-clause-answer c =
    let middle = c.loop-low.low + (c.loop-low.high - c.loop-low.low) / 2 in
    inside_here c.args.self.now c.args.from c.args.to _ _ c.loop-low.invariant middle c.in_ok-route.route (omega arith) (search rules) (search rules)

pub loop-low-preserved : goal.loop-low-preserved
loop-low-preserved c =
    let middle = c.loop-low.low + (c.loop-low.high - c.loop-low.low) / 2 in
    inside_before c.args.self.now c.args.from c.args.to _ _ c.loop-low.invariant middle _ c.in_ok-route.route (omega arith) (omega arith) (omega arith) (search rules) (search rules)

pub returns-clause-answer : goal.returns-clause-answer
returns-clause-answer c = inside_none c.args.self.now c.args.from c.args.to _ _ c.loop-low.invariant (omega arith)
