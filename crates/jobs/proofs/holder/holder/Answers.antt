use Rattle.std.proofs.Common.{sym, ◌∙◌, rules}
use Rattle.std.specs.Slice.Iter.{iter_rest}
use Rattle.jobs.specs.Routings.{job_of}
use Rattle.jobs.specs.Holding.{first_run, with_name}
use Rattle.jobs.proofs.Chains.{first_some_map, found_is}
use Rattle.jobs.proofs.holder.holder.Goals as goal

pub returns : goal.returns
returns g c =
    let p = c.args.place in
    let n = c.args.instant in
    let takes = g.J.Held.takes c.args.routing.now in
    found_is (λ y. y.now) _ _ (λ j. with_name (g.J.Named.label j) (first_run p n (takes j))) (λ x y q k. search rules) iter_rest c.iter.result c.args.held.now c.find_map.result c.iter.ensures.runs c.iter.ensures.rest c.find_map.ensures.runs
    ∙ sym (first_some_map (λ j. with_name j.name (first_run p n j.takes)) (job_of g.J.Named.label takes) c.args.held.now)
