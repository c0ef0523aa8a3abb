use Rattle.std.proofs.Common.{◌+◌, sym, subst, arith, rules}
use Rattle.jobs.specs.Waits.{RunsBy}
use Rattle.jobs.specs.Ways.{way_takes}
use Rattle.jobs.proofs.Walks.{Unseen, none_seen, nowhere, passed, takes_all, takes_from, takes_none, takes_past, there_among, there_runs}
use Rattle.jobs.proofs.way.Way.stay_there.Goals as goal

pub loop-link-init : goal.loop-link-init
loop-link-init g c =
    let net = g.F.Fabric.meaning c.args.fabric.now in
    let w = c.args.self.now in
    (omega (arith, w.soon), none_seen c.args.place (way_takes net w) (takes_all net w))

pub returns-in_err-stay-clause-runs : goal.returns-in_err-stay-clause-runs
returns-in_err-stay-clause-runs g c =
    let net = g.F.Fabric.meaning c.args.fabric.now in
    subst (RunsBy c.args.place (way_takes net c.args.self.now)) (sym c.from_residual.ensures)
    (nowhere c.args.place c.loop-link.invariant.1 (takes_none net c.args.self.now c.loop-link.link c.loop-link.start c.in_err-stay.ensures))

pub returns-then-is-clause-among : goal.returns-then-is-clause-among
returns-then-is-clause-among g c =
    let net = g.F.Fabric.meaning c.args.fabric.now in
    there_among net c.args.self.now c.args.place c.loop-link.link c.loop-link.start c.in_ok-stay.stay (way_takes net c.args.self.now) c.in_ok-stay.ensures c.loop-link.invariant.1

pub returns-then-is-clause-runs : goal.returns-then-is-clause-runs
returns-then-is-clause-runs g c =
    let net = g.F.Fabric.meaning c.args.fabric.now in
    there_runs net c.args.self.now c.args.place c.loop-link.link c.loop-link.start c.in_ok-stay.stay (way_takes net c.args.self.now) c.in_ok-stay.ensures c.loop-link.invariant.1
    (g.F.Fabric.lawful c.args.fabric.now) (search rules)

pub loop-link-preserved : goal.loop-link-preserved
loop-link-preserved g c =
    let net = g.F.Fabric.meaning c.args.fabric.now in
    let w = c.args.self.now in
    let i = c.loop-link.link in
    let start = c.loop-link.start in (
      omega (arith, c.loop-link.invariant.0, (g.F.Fabric.lawful c.args.fabric.now).low_delay, c.hop_delay.ensures),
      subst (λ n. Unseen c.args.place (takes_from net w (i + 1) (start + n)) (way_takes net w)) (sym c.hop_delay.ensures)
          (passed net w c.args.place i start c.in_ok-stay.stay (way_takes net w) c.in_ok-stay.ensures c.loop-link.invariant.1 (search rules)),
    )

pub returns-clause-runs : goal.returns-clause-runs
returns-clause-runs g c =
    let net = g.F.Fabric.meaning c.args.fabric.now in
    nowhere c.args.place c.loop-link.invariant.1
    (takes_past net c.args.self.now (g.F.Fabric.lawful c.args.fabric.now) c.loop-link.link c.loop-link.start (omega (arith, c.reach-longest.ensures, c.loop-link-test.false)))
