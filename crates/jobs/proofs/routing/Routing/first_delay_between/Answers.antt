use Rattle.std.proofs.Common.{List, Option, sym, refl, ap, ◌∙◌, subst}
use Rattle.std.specs.Prelude.{is_none, ℕ}
use Rattle.holds.specs.Search.{first_from}
use Rattle.records.specs.declared.record.Message.{Message}
use Rattle.jobs.specs.Jobs.{Jobs, created_on}
use Rattle.jobs.specs.Open.{message_at}
use Rattle.jobs.specs.Placings.{on_way}
use Rattle.jobs.specs.Routings.{trip_along}
use Rattle.jobs.specs.Ways.{IsWay}
use Rattle.jobs.proofs.Searches.{search_none}
use Rattle.jobs.proofs.routing.Routing.first_delay_between.Goals as goal

-- without a route no delay passes
pub returns-in_err-way : goal.returns-in_err-way
returns-in_err-way g c =
    let s = created_on (g.F.Fabric.meaning c.args.self.now.fabric.now) in
    let js : Jobs = record { tasks = c.args.self.now.tasks.now; messages = c.args.held.now } in
    let e = c.args.ends.now in
    c.from_residual.ensures
    ∙ search_none _ _ (λ v l. ap (λ o. is_none (on_way s js (message_at c.args.m.now v) e.source e.destination o)) c.in_err-way.ensures)

-- with one the message has a trip
pub returns : goal.returns
returns g c =
    let net = g.F.Fabric.meaning c.args.self.now.fabric.now in
    let s = created_on net in
    let js : Jobs = record { tasks = c.args.self.now.tasks.now; messages = c.args.held.now } in
    let e = c.args.ends.now in
    let m = c.args.m.now in
    let way = c.in_ok-way.ensures in
    let t = trip_along e way.0 in
    let is : IsWay net t (message_at m 0) c.in_ok-way.way = subst (λ (x : Message). IsWay net t x c.in_ok-way.way) c.at.ensures way.1 in
    c.first_delay.ensures t (record { source = refl; destination = refl; way = is })
    ∙ ap (λ (o : Option (List ℕ)). first_from (λ v. is_none (on_way s js (message_at m v) e.source e.destination o)) e.source.period 0) (sym is.along)
