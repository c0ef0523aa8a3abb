use Rattle.std.proofs.Common.{◌≡◌, ◌+◌, ◌-◌, length, take, drop, ap, ◌∙◌, arith, rules}
use Rattle.std.specs.List.{insert, prefix_len}
use Rattle.std.specs.Prelude.{nat_lt}
use Rattle.std.proofs.lemmas.List.{take_at, take-take, length-take-le}
use Rattle.records.specs.Named.{add}
use Rattle.records.proofs.Places.{add_is, length_add, below_held}
use Rattle.records.proofs.tables.insert.Goals as goal

-- the place is one of those of the records held, or the free one behind them
pub put_at-requires : goal.put_at-requires
put_at-requires g c =
    let t = c.args.rows.now in
    let n = c.args.count in
    omega (arith, below_held g.R.Named.label _ n t c.rank_of-at.result (omega arith) c.rank_of-at.ensures, length-take-le (n + 1) t (omega arith))

pub returns-clause-after : goal.returns-clause-after
returns-clause-after g c =
    let f = g.R.Named.label in
    let t = c.args.rows.now in
    let n = c.args.count in
    let x = c.args.x in
    let at = c.rank_of-at.result in
    let part = take (n + 1) t in
    let last : length part - 1 ≡ n = omega (arith, length-take-le (n + 1) t (omega arith)) in
    let front : take (length part - 1) part ≡ take n t = ap (λ k. take k part) last ∙ take-take n (n + 1) t (omega arith) in
    let here : at ≡ prefix_len (λ y. nat_lt (f y) (f x)) (take n t) = search rules in
    let is : c.put_at.new.part ≡ add f x (take n t) = c.put_at.ensures ∙ ap (λ l. insert l at x) front ∙ ap (λ k. insert (take n t) k x) here ∙ add_is f x (take n t) in
    take_at c.put_at.new.part (drop (n + 1) t) (n + 1) (omega (arith, ap length is, length_add f x (take n t), length-take-le n t (omega arith))) ∙ is
