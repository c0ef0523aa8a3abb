use Rattle.std.proofs.Common.{vec_items, sym, ap, ◌∙◌}
use Rattle.replay.specs.declared.calls.Call.TheVariants as call
use Rattle.script.specs.Readings.{reading, calling}
use Rattle.script.proofs.Calls.{call_more, other_more, says_none, calls_all}
use Rattle.script.proofs.running.calls_of.Goals as goal
use Rattle.script.proofs.running.calls_of.Goals.{in-Load+in_ok-push-in-Load, in-Plain+in_ok-push-in-Plain, in_default}

pub loop-line-preserved : goal.loop-line-preserved
loop-line-preserved c =
    let lines = c.args.lines.now in
    let i = c.loop-line.line-index in
    let x = c.line-item.result in
    let so_far = vec_items c.loop-line.calls in
    let after = vec_items c.match-line.calls in
    elim c.match-line.branch [
      | in-Load+in_ok-push-in-Load w ↦
          call_more lines i x so_far c.loop-line-test.true c.line-item.is _ c.loop-line.invariant after (call.Load w.deref.result)
          (ap reading w.in-Load.is ∙ ap (λ bytes. calling (call.Load bytes)) (sym w.deref.ensures.value)) (ap vec_items w.calls-is ∙ w.in_ok-push-in-Load.ensures.items)
      | in-Plain+in_ok-push-in-Plain w ↦
          call_more lines i x so_far c.loop-line-test.true c.line-item.is _ c.loop-line.invariant after w.in-Plain.call
          (ap reading w.in-Plain.is) (ap vec_items w.calls-is ∙ w.in_ok-push-in-Plain.ensures.items)
      | in_default w ↦
          rw w.calls-is (other_more lines i x so_far c.loop-line-test.true c.line-item.is _ c.loop-line.invariant (says_none x w.in_default.not-Load w.in_default.not-Plain))
    ]

pub returns : goal.returns
returns c = calls_all c.args.lines.now c.loop-line.line-index (vec_items c.loop-line.calls) _ c.loop-line-test.false c.loop-line.invariant
