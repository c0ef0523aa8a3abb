use Rattle.std.proofs.Common.{◌+◌, ◌-◌, arith}
use Rattle.holds.specs.Limits.{longest}
use Rattle.holds.proofs.Turns.{halves}
use Rattle.holds.proofs.Walk.{carried_more, room_more}
use Rattle.holds.proofs.landing.Walk.of_rounds.Goals as goal

pub invariant_of-result : goal.invariant_of-result
invariant_of-result c =
    let h = c.args.self in
    let inside = h.room.at in
    record {
      room = room_more longest h.at h.step h.size h.each h.past h.count (h.size - h.at - 1 + c.min-wide.result) (omega arith) (omega (arith, inside)) h.room;
    }

pub returns-clause-counts : goal.returns-clause-counts
returns-clause-counts c = λ r a m w s.
    let h = c.args.self in
    let inside = h.room.at in
    carried_more r a m w h.at h.step h.size h.wide h.each h.past h.count c.min-wide.result (h.size - h.at - 1 + c.min-wide.result)
    inside (omega arith) (omega arith) c.min-wide.ensures (omega (arith, inside)) s

pub returns-clause-falls : goal.returns-clause-falls
returns-clause-falls c = halves c.args.self.size c.args.self.step (omega arith) c.args.self.room.step
