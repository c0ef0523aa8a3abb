use Rattle.fabric.specs.Network.{is_fabric}
use Rattle.std.proofs.Common.{Err, IfOk, List, Ok, Result, Vec, ap, drop, get_or, map, rules, subst, sym, take, vec_items, ℕ, ◌++◌, ◌+◌, ◌∙◌, ◌≡◌}
use Rattle.std.specs.List.{All}
use Rattle.std.specs.declared.alloc.AllocError.{AllocError}
use Rattle.std.specs.declared.alloc.Global.{Global}
use Rattle.jobs.specs.Jobs.{Jobs, Setting, nothing, created_on}
use Rattle.plan.specs.Held.{jobs, setting}
use Rattle.replay.specs.declared.calls.Answer.{Answer}
use Rattle.replay.specs.declared.calls.Call.TheVariants.{OfferTask}
use Rattle.replay.specs.Calls.{Lent, Said, answer_told, answers, asked, ask, giving, held, read_off}
use Rattle.plan.specs.Round.{LoadsBack}
use Rattle.replay.specs.Short.{ShortAsk}
use Rattle.promise.specs.Clean.{Clean}
use Rattle.replay.proofs.Pages.{all_told_same, read_back}
use Rattle.replay.proofs.Promises.{promise}
use Rattle.replay.proofs.Runs.{answers_on, answers_end, held_on, held_end}
use Rattle.replay.proofs.Shorts.{front_fits}
use Rattle.replay.proofs.replay.Given.{Over}
use Rattle.replay.proofs.replay.Goals as goal
use Rattle.replay.proofs.replay.Goals.{in-Err, in-Ok}

-- what is held after any of the calls loads back, since the names of a caller's calls are short
back_each : (g : Over) (f : g.row.F.Denot) (calls : List Lent) → All (λ call. ShortAsk (asked call)) calls → (i : ℕ)
    → LoadsBack (created_on (g.F.Fabric.meaning f)) (held (created_on (g.F.Fabric.meaning f)) nothing (take i (map asked calls)))
back_each g f calls fits i =
    (promise (created_on (g.F.Fabric.meaning f)) (is_fabric g.F.Fabric.bounded (g.F.Fabric.lawful f)) (take i (map asked calls))).back (front_fits calls fits i)

abbrev Owned : Type 0
Owned = Vec (Answer (Vec ℕ Global)) Global

abbrev said : Owned → List Said
said v = map (giving vec_items) (vec_items v)

-- the answers, where there was memory for them, with those of the calls from place i on are all
abbrev Onward : Setting → Jobs → List Lent → ℕ → List Said → Result Owned AllocError → Type 0
Onward s js calls i all o = IfOk o (λ v. said v ++ answers s js (map asked (drop i calls)) ≡ all)

-- what holds of a list that there may be, where it follows from what else does
if_there : {V E : Type 0} {P Q : V → Type 0} (o : Result V E) → ((v : V) → P v → Q v) → IfOk o P → IfOk o Q
if_there (Ok v) f p = f v p
if_there (Err e) f p = p

pub loop-call-preserved : goal.loop-call-preserved
loop-call-preserved g c =
    let meaning = g.F.Fabric.meaning in
    let s = created_on (meaning c.args.fabric.now) in
    let calls = c.args.calls.now in
    let i = c.loop-call.call-index in
    let d : Lent = OfferTask (record { name = 0; core = 0; period = 0; phase = 0; width = 0 }) in
    let js = jobs c.loop-call.plan in
    let after = jobs c.step-told.new.plan in
    let all = answers s nothing (map asked calls) in
    let same = c.loop-call.invariant.0 in
    let ran : after ≡ (ask (setting c.loop-call.plan) js (asked (get_or calls i d))).1 = search rules in
    let moved = ran ∙ ap (λ n. (ask n js (asked (get_or calls i d))).1) same in
    let read = ap (read_off c.step-told.new.page) c.step-told.ensures.answer ∙ read_back _ c.loop-call.page c.step-told.ensures.page in
    let told = read ∙ ap (λ n. (ask n js (asked (get_or calls i d))).0) same in (
      ap (λ f. created_on (meaning f.now)) c.step-told.ensures.alike ∙ same,
      elim c.match-answers.branch [
        | in-Ok w ↦
            let before = subst (Onward s js calls i all) w.in-Ok.is c.loop-call.invariant.1 in
            subst (Onward s after calls (i + 1) all) (sym w.answers-is)
            (if_there w.with_answer.result (λ v grown. answers_on s calls i js d after c.loop-call-test.true moved (said w.in-Ok.answers) (said v) _ all told grown before) w.with_answer.ensures)
        | in-Err w ↦ subst (Onward s after calls (i + 1) all) (sym w.answers-is) tt
      ],
      held_on s calls i js d (jobs c.step-told.new.plan) c.loop-call-test.true moved _ c.loop-call.invariant.2,
    )

pub returns : goal.returns
returns g c =
    let s = created_on (g.F.Fabric.meaning c.args.fabric.now) in
    let calls = c.args.calls.now in
    let is = held_end s calls c.loop-call.call-index (jobs c.loop-call.plan) _ c.loop-call-test.false c.loop-call.invariant.2 in
    let told = if_there c.loop-call.answers (λ v. answers_end s calls c.loop-call.call-index (jobs c.loop-call.plan) (map (giving vec_items) (vec_items v)) _ c.loop-call-test.false) c.loop-call.invariant.1 in
    let kept = promise s (is_fabric g.F.Fabric.bounded (g.F.Fabric.lawful c.args.fabric.now)) (map asked calls) in
    record {
      answers = told;
      numbers = if_there c.loop-call.answers (λ v e. sym (all_told_same vec_items (vec_items v)) ∙ ap (map answer_told) e) told;
      held = is;
      fabric = c.loop-call.invariant.0;
      clean = subst (Clean s) (sym is) kept.clean;
      back = back_each g c.args.fabric.now calls c.calls_fit.ensures.fits;
      promise = kept;
    }
