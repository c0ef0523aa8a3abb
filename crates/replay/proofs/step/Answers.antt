use Rattle.std.proofs.Common.{length, sym, ap, ◌∙◌, subst}
use Rattle.fabric.specs.Network.{is_fabric}
use Rattle.plan.specs.Held.{jobs, setting}
use Rattle.plan.proofs.Stands.{back_of, clean_of}
use Rattle.replay.specs.Calls.{answer_told, ask, asked, read_off}
use Rattle.replay.specs.Promise.{After, Promised}
use Rattle.replay.proofs.Afters.{after}
use Rattle.replay.proofs.Pages.{read_back, told_same}
use Rattle.replay.proofs.Promises.{answered}
use Rattle.replay.proofs.step.Goals as goal

pub returns : goal.returns
returns g c =
    let p = c.args.plan.now in
    let after_it = c.dispatch.new.plan in
    let s = setting p in
    let a = asked c.args.call.now in
    let clean = clean_of p in
    let read = ap (read_off c.dispatch.new.page) c.dispatch.ensures.answer ∙ read_back (ask s (jobs p) a).0 c.args.page.now c.dispatch.ensures.page in
    record {
      answer = c.dispatch.ensures.answer;
      page = c.dispatch.ensures.page;
      after = c.dispatch.ensures.after;
      alike = c.dispatch.ensures.alike;
      unchanged = c.dispatch.ensures.unchanged;
      keeps = clean_of after_it;
      promise = subst (Promised s (jobs p) a) (sym read) (answered s (is_fabric g.F.Fabric.bounded (g.F.Fabric.lawful p.fabric.now)) (jobs p) clean a);
      numbers = ap answer_told c.dispatch.ensures.answer ∙ told_same length (ask s (jobs p) a).0;
      left = subst (λ r. After s (jobs p) a r (jobs after_it)) (sym read)
          (subst (After s (jobs p) a (ask s (jobs p) a).0) (sym c.dispatch.ensures.after) (after s (jobs p) clean a));
      canonical = after_it.ordered;
      short = after_it.short;
      back = back_of after_it;
    }
