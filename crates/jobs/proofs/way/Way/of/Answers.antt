use Rattle.std.proofs.Common.{ℕ, ◌*◌, ◌≤◌, length, sym, refl, ap, ◌∙◌, mul-le-mul, arith}
use Rattle.fabric.proofs.Laws.{answer_64, length_route}
use Rattle.jobs.proofs.Limits.{travel_even}
use Rattle.jobs.proofs.way.Way.of.Goals as goal

-- at most 64 links of at most 64 cycles
small : (n h : ℕ) → n ≤ 64 → h ≤ 64 → n * h ≤ 4096
small n h a b = omega (arith, mul-le-mul {n₁ = n} {m₁ = h} {n₂ = 64} {m₂ = 64} a b)

pub overflow_mul-result : goal.overflow_mul-result
overflow_mul-result g c =
    let laws = g.F.Fabric.lawful c.args.fabric.now in
    let few = answer_64 laws c.args.ends.now.source.core c.args.ends.now.destination.core g.F.Fabric.bounded c.in_ok-links.links c.in_ok-links.ensures in
    omega (arith, small c.in_ok-links.links c.hop_delay.result few (omega (arith, laws.low_delay, c.hop_delay.ensures)))

pub invariant_of-result : goal.invariant_of-result
invariant_of-result g c =
    let laws = g.F.Fabric.lawful c.args.fabric.now in
    let few = answer_64 laws c.args.ends.now.source.core c.args.ends.now.destination.core g.F.Fabric.bounded c.in_ok-links.links c.in_ok-links.ensures in
    record {
      soon = omega arith;
      narrow = omega arith;
      near = omega (arith, small c.in_ok-links.links c.hop_delay.result few (omega (arith, laws.low_delay, c.hop_delay.ensures)));
    }

pub returns : goal.returns
returns g c =
    let net = g.F.Fabric.meaning c.args.fabric.now in
    let p = length_route _ c.in_ok-links.links c.in_ok-links.ensures in (
      p.0,
      record {
        from = refl;
        to = refl;
        along = p.1;
        links = sym p.2;
        travel = ap (λ (n : ℕ). n * c.hop_delay.result) (sym p.2) ∙ ap (λ (h : ℕ). length p.0 * h) c.hop_delay.ensures ∙ sym (travel_even net p.0);
        start = (let a = c.from.ensures in let b = c.from-2.ensures in let d = c.from-3.ensures in omega arith);
        period = refl;
        width = refl;
      },
    )
