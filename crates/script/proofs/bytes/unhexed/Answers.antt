use Rattle.std.proofs.Common.{◌≡◌, ◌%◌, [], length, slice_index_or, vec_items, inl, inr, rules}
use Rattle.std.specs.Char.{digit_value}
use Rattle.script.specs.Fields.{unhexed}
use Rattle.script.proofs.Texts.{no_digit, unhexed_odd, pairs_start, pairs_none, pairs_more, pairs_end}
use Rattle.script.proofs.bytes.unhexed.Goals as goal
use Rattle.script.proofs.bytes.unhexed.Goals.{in_default-via-in-Some+in_default, in_default-via-in_default}

pub returns-then-not-is_empty : goal.returns-then-not-is_empty
returns-then-not-is_empty c = unhexed_odd c.args.text.now (λ even. search rules)

pub loop-high-init : goal.loop-high-init
loop-high-init c =
    let even : length c.args.text.now % 2 ≡ 0 = search rules in
    pairs_start c.args.text.now (vec_items c.new-bytes.result) c.as_chunks.result.0.now (search rules) c.as_chunks.ensures.front even

pub returns-in_default : goal.returns-in_default
returns-in_default c =
    let stop = pairs_none c.as_chunks.result.0.now c.loop-high.high-index (vec_items c.loop-high.bytes) (unhexed c.args.text.now) c.loop-high-test.true in
    elim c.in_default.branch [
      | in_default-via-in-Some+in_default w ↦ stop (inr (rw (← c.from-in-loop-high.ensures) (no_digit _ _ 16 _ c.to_digit-in-loop-high.ensures.value w.in_default.is-1))) c.loop-high.invariant
      | in_default-via-in_default w ↦ stop (inl (rw (← c.from.ensures) (no_digit _ _ 16 _ c.to_digit.ensures.value w.in_default.is-0))) c.loop-high.invariant
    ]

pub loop-high-preserved : goal.loop-high-preserved
loop-high-preserved c =
    let pair = slice_index_or c.as_chunks.result.0.now c.loop-high.high-index [] in
    let high : c.in-Some-Some.high ≡ digit_value (slice_index_or pair 0 0) = search rules in
    let low : c.in-Some-Some.low ≡ digit_value (slice_index_or pair 1 0) = search rules in
    pairs_more c.as_chunks.result.0.now c.loop-high.high-index (vec_items c.loop-high.bytes) (vec_items c.push.new.self) (unhexed c.args.text.now)
    c.in-Some-Some.high c.in-Some-Some.low c.loop-high-test.true high low (search rules) (search rules) (search rules) c.loop-high.invariant

pub returns : goal.returns
returns c = pairs_end c.as_chunks.result.0.now c.loop-high.high-index (vec_items c.loop-high.bytes) (unhexed c.args.text.now) c.loop-high-test.false c.loop-high.invariant
