use Rattle.std.proofs.Common.{not, is_some, ◌/◌, length, sym, ◌∙◌, rules}
use borrow.Author.Tests.{tests}
use native.Mathlib.Nat.{sub-zero}
use Rattle.std.proofs.lemmas.Iterator.{YieldsList-from_range}
use Rattle.std.proofs.lemmas.Iterator.Adapters.{option_map_id}
use Rattle.std.proofs.lemmas.Iterator.Search.{find_from_yields_List}
use Rattle.records.specs.Sections.{record_at}
use Rattle.records.proofs.Sections.{unread_is}
use Rattle.records.proofs.section.Section.unread.Goals as goal

pub returns : goal.returns
returns g c =
    let bs = c.args.self.now.bytes.now in
    let at = record_at g.R.Record.parsed g.R.Record.SIZE bs in
    let n = length bs / g.R.Record.SIZE in
    sym (option_map_id c.find.result)
    ∙ find_from_yields_List (λ i. not (is_some (at i))) _ _ _ c.find.ensures.ran (YieldsList-from_range 0 c.count.result n (cc) (sub-zero c.count.result ∙ c.count.ensures)) (λ x b q k. search (rules, tests))
    ∙ sym (unread_is at 0 n)
