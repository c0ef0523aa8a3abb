use Rattle.std.proofs.Common.{leb, length, take, sym, ap, ◌∙◌, refl, arith}
use Rattle.std.proofs.lemmas.Bool.{cond-true, le-leb}
use Rattle.records.specs.Tables.{held}
use Rattle.records.proofs.Places.{without_none}
use Rattle.records.proofs.tables.Table.remove.Goals as goal

-- where no record has the name, the places stay, and there is none to leave out
pub returns-in_err-gone-clause-after : goal.returns-in_err-gone-clause-after
returns-in_err-gone-clause-after g c =
    let t = c.args.self.now in
    let held-all = cond-true (leb t.count (length t.places)) _ _ (le-leb t.count (length t.places) (omega arith)) in
    ap (take t.count) (c.in_err-gone.ensures.unknown refl) ∙ sym (without_none g.R.Named.label c.args.name (held t) (sym (c.in_err-gone.ensures.answer ∙ held-all)))
