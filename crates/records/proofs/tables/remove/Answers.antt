use Rattle.std.proofs.Common.{◌≡◌, ◌-◌, leb, [], ◌∷◌, ◌++◌, length, take, drop, Some, sym, ap, ◌∙◌, drop-cons, arith}
use Rattle.std.proofs.lemmas.Bool.{cond-true, le-leb}
use Rattle.std.specs.List.{remove}
use Rattle.std.proofs.lemmas.List.{take_at, append_assoc, length_push, length-take-le}
use Rattle.std.proofs.lemmas.List.Edits.{length-remove}
use Rattle.records.specs.Named.{without}
use Rattle.records.proofs.Places.{named_at, named_none, index_within}
use Rattle.records.proofs.tables.remove.Goals as goal

pub returns-in_err-at-clause-answer : goal.returns-in_err-at-clause-answer
returns-in_err-at-clause-answer g c =
    let xs = take c.args.count c.args.rows.now in
    c.from_residual.ensures
    ∙ sym (cond-true (leb c.args.count (length c.args.rows.now)) _ _ (le-leb c.args.count (length c.args.rows.now) (omega arith)) ∙ named_none g.R.Named.label c.args.name xs (sym c.in_err-at.ensures))

pub offset_bounds-held-at : goal.offset_bounds-held-at
offset_bounds-held-at g c = omega (arith, (index_within g.R.Named.label c.args.name (take c.args.count c.args.rows.now) c.in_ok-at.at (sym c.in_ok-at.ensures)).0)

pub bounds-held-at : goal.bounds-held-at
bounds-held-at g c = (index_within g.R.Named.label c.args.name (take c.args.count c.args.rows.now) c.in_ok-at.at (sym c.in_ok-at.ensures)).0

pub take_at-requires : goal.take_at-requires
take_at-requires g c = (index_within g.R.Named.label c.args.name (take c.args.count c.args.rows.now) c.in_ok-at.at (sym c.in_ok-at.ensures)).0

pub returns-clause-answer : goal.returns-clause-answer
returns-clause-answer g c =
    let xs = take c.args.count c.args.rows.now in
    ap Some c.index-held-at.is
    ∙ sym (cond-true (leb c.args.count (length c.args.rows.now)) _ _ (le-leb c.args.count (length c.args.rows.now) (omega arith)) ∙ named_at g.R.Named.label c.args.name xs c.in_ok-at.at c.index-held-at.result (sym c.in_ok-at.ensures))

pub returns-clause-after : goal.returns-clause-after
returns-clause-after g c =
    let t = c.args.rows.now in
    let n = c.args.count in
    let xs = take n t in
    let at = c.in_ok-at.at in
    let w = index_within g.R.Named.label c.args.name xs at (sym c.in_ok-at.ensures) in
    ap (λ l. take (n - 1) (l ++ drop n t)) c.take_at.ensures
    ∙ ap (take (n - 1)) (append_assoc (remove xs at) (take 1 (drop at xs)) (drop n t))
    ∙ take_at (remove xs at) (take 1 (drop at xs) ++ drop n t) (n - 1) (omega (arith, length-remove xs at w.0, length-take-le n t (omega arith)))
    ∙ w.1

-- the part without the record, and behind it the record alone
pub returns-clause-spare : goal.returns-clause-spare
returns-clause-spare g c =
    let f = g.R.Named.label in
    let t = c.args.rows.now in
    let n = c.args.count in
    let xs = take n t in
    let at = c.in_ok-at.at in
    let gone = c.index-held-at.result in
    let w = index_within f c.args.name xs at (sym c.in_ok-at.ensures) in
    let alone : take 1 (drop at xs) ≡ gone ∷ [] = ap (take 1) (drop-cons xs at gone w.0) ∙ ap (λ x. x ∷ []) (sym c.index-held-at.is) in
    let is : c.take_at.new.part ≡ without f c.args.name xs ++ gone ∷ [] = c.take_at.ensures ∙ ap (λ l. l ++ take 1 (drop at xs)) w.1 ∙ ap (λ l. without f c.args.name xs ++ l) alone in
    take_at c.take_at.new.part (drop n t) n (omega (arith, ap length is, length_push (without f c.args.name xs) gone, ap length w.1, length-remove xs at w.0, length-take-le n t (omega arith))) ∙ is
