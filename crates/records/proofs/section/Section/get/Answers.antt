use Rattle.std.proofs.Common.{length, rules}
use Rattle.records.proofs.Extents.{record_within}
use Rattle.records.proofs.section.Section.get.Goals as goal

pub overflow_mul-at : goal.overflow_mul-at
overflow_mul-at g c = let h = record_within (length c.args.self.now.bytes.now) c.count.ensures c.SIZE-each.ensures c.if-i-count.false in search rules

pub overflow_add-at : goal.overflow_add-at
overflow_add-at g c = let h = record_within (length c.args.self.now.bytes.now) c.count.ensures c.SIZE-each.ensures c.if-i-count.false in search rules

pub slice_bounds-read-end : goal.slice_bounds-read-end
slice_bounds-read-end g c = let h = record_within (length c.args.self.now.bytes.now) c.count.ensures c.SIZE-each.ensures c.if-i-count.false in search rules
