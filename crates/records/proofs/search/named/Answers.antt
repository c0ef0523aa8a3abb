use Rattle.std.proofs.Common.{eqb, ◌∙◌, rules}
use borrow.Author.Tests.{tests}
use Rattle.std.proofs.lemmas.Iterator.{YieldsList-from_slice}
use Rattle.std.proofs.lemmas.Iterator.Search.{find_from_yields_List}
use Rattle.records.proofs.search.named.Goals as goal

pub returns : goal.returns
returns g c = c.copied.ensures ∙ find_from_yields_List (λ x. eqb (g.R.Named.label x) c.args.name) _ _ _ c.find.ensures.ran (YieldsList-from_slice c.args.held.now cc) (λ x b q k. search (rules, tests))
