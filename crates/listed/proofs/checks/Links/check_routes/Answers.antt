use Rattle.std.proofs.Common.{refl, ◌/◌, length, rules}
use Rattle.listed.specs.Description.{route_fault}
use Rattle.listed.proofs.Firsts.{first_of_range}
use Rattle.listed.proofs.checks.Links.check_routes.Goals as goal

pub returns : goal.returns
returns c =
    let links = c.args.self.now in
    let rs = c.args.routes.now.bytes.now in
    first_of_range (route_fault links.nodes links.section.bytes.now rs) _ _ (λ k v q t. search rules) (length rs / 16) _ _ _ refl c.count.ensures c.try_for_each.ensures.ran
