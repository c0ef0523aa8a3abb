use Rattle.fabric.specs.Network.{is_fabric}
use Rattle.std.proofs.Common.{sym, subst}
use Rattle.std.proofs.Math.Logic.{∥∥₁_map}
use Rattle.plan.specs.Held.{jobs, setting}
use Rattle.promise.specs.Canonical.{Canonical, ShortNames}
use Rattle.promise.specs.Clean.{Clean}
use Rattle.promise.proofs.Canonical.{message_canonical}
use Rattle.promise.proofs.Keeps.{message_taken}
use Rattle.plan.proofs.Short.{message_short}
use Rattle.promise.proofs.Tabled.{message_in}
use Rattle.plan.proofs.plan.Plan.hold_message.Goals as goal

-- a message that no check refuses leaves the plan clean
pub invariant_of-self-clause-clean : goal.invariant_of-self-clause-clean
invariant_of-self-clause-clean g c =
    let p = c.args.self.now in
    let s = setting p in
    subst (λ js. ∥ Clean s js ∥₁) (sym (message_in s p.tasks p.messages c.insert.new.self c.args.m c.insert.result c.requires c.insert.ensures.answer c.insert.ensures.after))
    (∥∥₁_map p.clean (λ clean. message_taken s (is_fabric g.F.Fabric.bounded (g.F.Fabric.lawful p.fabric.now)) (jobs p) c.args.m clean c.requires))

-- and its names ascend
pub invariant_of-self-clause-ordered : goal.invariant_of-self-clause-ordered
invariant_of-self-clause-ordered g c =
    let p = c.args.self.now in
    let s = setting p in
    subst Canonical (sym (message_in s p.tasks p.messages c.insert.new.self c.args.m c.insert.result c.requires c.insert.ensures.answer c.insert.ensures.after))
    (message_canonical s (jobs p) c.args.m p.ordered c.requires)

pub invariant_of-self-clause-short : goal.invariant_of-self-clause-short
invariant_of-self-clause-short g c =
    let p = c.args.self.now in
    subst ShortNames (sym (message_in (setting p) p.tasks p.messages c.insert.new.self c.args.m c.insert.result c.requires c.insert.ensures.answer c.insert.ensures.after))
    (message_short (jobs p) c.args.m c.name_fits.ensures p.short)
