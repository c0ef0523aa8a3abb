use Rattle.std.proofs.Common.{eqb, sym, ◌∙◌, rules}
use borrow.Author.Tests.{tests}
use Rattle.std.proofs.lemmas.Iterator.{YieldsList-from_slice}
use Rattle.std.proofs.lemmas.Iterator.Search.{position_from_yields_List}
use Rattle.records.proofs.Places.{index_is}
use Rattle.records.proofs.search.index_of.Goals as goal

pub returns : goal.returns
returns g c =
    position_from_yields_List (λ x. eqb (g.R.Named.label x) c.args.name) _ _ _ c.position.ensures.ran (YieldsList-from_slice c.args.held.now cc) (λ x b q k. search (rules, tests))
    ∙ sym (index_is g.R.Named.label c.args.name c.args.held.now)
