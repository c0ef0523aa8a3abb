use Rattle.std.proofs.Common.{refl, ◌/◌, length, rules}
use Rattle.listed.specs.Description.{link_fault}
use Rattle.listed.proofs.Firsts.{first_of_range}
use Rattle.listed.proofs.checks.Links.check.Goals as goal

pub returns : goal.returns
returns c =
    let links = c.args.self.now in
    let ls = links.section.bytes.now in
    first_of_range (link_fault links.nodes ls) _ _ (λ i v q k. search rules) (length ls / 2) _ _ _ refl c.count.ensures c.try_for_each.ensures.ran
