use Rattle.std.proofs.Common.{◌≡◌, ℕ, List, Ok, Option, sym, ap, ◌∙◌, subst, rules}
use Rattle.std.specs.Option.{ok_or}
use Rattle.std.specs.Prelude.{is_none}
use Rattle.holds.specs.Search.{first_from}
use Rattle.records.specs.declared.record.Task.{Task}
use Rattle.records.specs.declared.record.Message.{Message}
use Rattle.jobs.specs.declared.fault.PlacingFault.TheVariants as placing
use Rattle.jobs.specs.declared.way.Admitted.{Admitted}
use Rattle.jobs.specs.Checks.{admitted_message}
use Rattle.fabric.specs.Network.{Network}
use Rattle.jobs.specs.declared.open.OpenMessage.{OpenMessage}
use Rattle.jobs.specs.Jobs.{created_on, with_message}
use Rattle.jobs.specs.Routings.{IsAdmitted}
use Rattle.jobs.specs.Trips.{Trip}
use Rattle.jobs.specs.Open.{message_at}
use Rattle.jobs.specs.Placings.{first_delay}
use Rattle.jobs.specs.Rules.{packet_refusal}
use Rattle.plan.specs.Checked.{MessageAdmitted}
use Rattle.plan.specs.Held.{jobs, setting}
use Rattle.promise.proofs.Kept.{placed_past}
use Rattle.promise.proofs.Placing.{delays_are}
use Rattle.plan.proofs.plan.Plan.delay_for.Goals as goal

-- what the search says of a plan's own fabric and jobs
module _ (t : Trip) (m : OpenMessage) (a : Admitted) (o : Option ℕ) where
  abbrev Finds : Network → List Task → List Message → Type 0
  Finds net ts ms =
      IsAdmitted net t (message_at m 0) a
      → o ≡ first_from (λ v. is_none (packet_refusal (created_on net) (record { tasks = ts; messages = ms }) (message_at m v) t)) t.source.period 0

pub returns : goal.returns
returns g c =
    let p = c.args.self.now in
    let m = c.args.m.now in
    let s = setting p in
    let a = c.in_ok-at_once.at_once in
    let found : Ok a ≡ c.admitted_message.result = search rules in
    let trip : MessageAdmitted s (jobs p) c.at.result (Ok a) = subst (MessageAdmitted s (jobs p) c.at.result) (sym found) c.admitted_message.ensures in
    let t = trip.0 in
    let admitted : admitted_message s (jobs p) (message_at m 0) ≡ Ok t = ap (admitted_message s (jobs p)) (sym c.at.ensures) ∙ trip.1 in
    let is : IsAdmitted s.network t (message_at m 0) a = subst (λ (x : Message). IsAdmitted s.network t x a) c.at.ensures trip.2 in
    let o = c.first_delay.result in
    let first =
    subst (λ ms. Finds t m a o s.network (jobs p).tasks ms) c.held.ensures
    (subst (λ ts. Finds t m a o s.network ts c.held.result.now) c.routing.ensures.tasks
    (subst (λ f. Finds t m a o (g.F.Fabric.meaning f.now) c.routing.result.tasks.now c.held.result.now) c.routing.ensures.fabric (c.first_delay.ensures t))) in
    c.ok_or.ensures.value
    ∙ ap (λ x. ok_or x placing.NoFit) (delays_are s (jobs p) m t admitted o (first is))
    ∙ sym (placed_past (jobs p) (λ v. with_message (jobs p) (message_at m v)) (admitted_message s (jobs p) (message_at m 0)) t (first_delay s (jobs p) m) admitted)
