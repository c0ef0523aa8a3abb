use Rattle.std.proofs.Common.{◌≡◌, ◌+◌, ◌/◌, ◌<◌, length, Ok, Err, Result, sym, refl, ap, ◌∙◌, arith, rules}
use Rattle.records.specs.Forms.{message_of, task_of}
use Rattle.records.proofs.Sections.{section_length}
use Rattle.refusals.specs.declared.refusal.Counts.{Counts}
use Rattle.jobs.specs.Jobs.{created_on}
use Rattle.jobs.specs.Offered.{offer}
use Rattle.plan.specs.Held.{jobs, setting}
use Rattle.plan.specs.Loading.{LaidOut, counted, file_order, in_turn, load, loaded, section_place}
use Rattle.plan.specs.Told.{load_told}
use Rattle.plan.specs.declared.fault.LoadFault.{LoadFault}
use Rattle.plan.specs.declared.fault.LoadFault.TheVariants.{Layout, Offer}
use Rattle.plan.proofs.Stands.{clean_of, follows_of, load_left_of, load_told_of}
use Rattle.plan.proofs.Turns.{job_read, no_job, part_count, turn_end, turn_on, turn_stop}
use Rattle.plan.proofs.plan.Plan.load.Goals as goal
use Rattle.plan.proofs.plan.Plan.load.Goals.{in-Some+in_ok-map_err, in_default}

pub loop-at-init : goal.loop-at-init
loop-at-init g c = (refl, λ ts ms a b. refl)

pub loop-at-preserved : goal.loop-at-preserved
loop-at-preserved g c =
    let s = setting c.args.self.now in
    let js = jobs c.loop-at.self in
    let i = c.loop-at.at in
    let part = c.in_ok-job_part.job_part in
    let same : setting c.loop-at.self ≡ s = ap (λ f. created_on (g.F.Fabric.meaning f.now)) c.loop-at.invariant.0 in
    let lt : i < length part.tasks.bytes.now / 16 + length part.messages.bytes.now / 16 = omega (arith, c.len-at-end.ensures, c.loop-at-test.true) in
    elim c.match-job.branch [
      | in-Some+in_ok-map_err w ↦ (
        ap (λ p. p.fabric) w.self-is ∙ w.offer.ensures.follows.alike ∙ c.loop-at.invariant.0,
        λ ts ms a b.
            let at = job_read part.tasks.bytes.now part.messages.bytes.now ts ms a b i lt w.in-Some.job w.in-Some.ensures in
            let taken : Ok w.in_ok-map_err.field-0 ≡ w.offer.result = search rules in
            turn_on s (file_order (ts, ms)) i w.in-Some.job js (jobs c.match-job.self) _ at.0 at.1
            (ap jobs w.self-is ∙ w.offer.ensures.follows.after ∙ ap (λ n. (offer n js w.in-Some.job).1) same)
            (c.loop-at.invariant.1 ts ms a b) _
            (taken ∙ w.offer.ensures.follows.answer ∙ ap (λ n. (offer n js w.in-Some.job).0) same),
      )
      | in_default w ↦ (
        ap (λ p. p.fabric) w.self-is ∙ c.loop-at.invariant.0,
        λ ts ms a b. absurd (no_job part.tasks.bytes.now part.messages.bytes.now ts ms a b i lt w.in_default.ensures),
      )
    ]

-- no record was offered
pub returns-in_err-job_part : goal.returns-in_err-job_part
returns-in_err-job_part g c =
    let p = c.args.self.now in
    let s = setting p in
    let told : c.from_residual.result ≡ Err (Layout c.in_err-job_part.field-0.0) = search rules in
    let whole : load s (jobs p) c.args.part.now ≡ (Err (Layout c.in_err-job_part.field-0.0), jobs p) = ap (loaded s (jobs p)) c.in_err-job_part.ensures in
    let answer : c.from_residual.result ≡ (load s (jobs p) c.args.part.now).0 = told ∙ sym (ap (λ r. r.0) whole) in
    let after : jobs p ≡ (load s (jobs p) c.args.part.now).1 = sym (ap (λ r. r.1) whole) in
    record {
      follows = follows_of (load s (jobs p) c.args.part.now) c.from_residual.result p p load_told answer after refl;
      refused = λ e is. refl;
      promise = load_told_of p c.args.part.now _ answer;
      left = load_left_of p c.args.part.now _ after;
      clean = clean_of p;
    }

-- the refused record is named by its place in its section
pub returns-in_err-map_err : goal.returns-in_err-map_err
returns-in_err-map_err g c =
    let p = c.args.self.now in
    let s = setting p in
    let js = jobs c.loop-at.self in
    let i = c.loop-at.at in
    let part = c.in_ok-job_part.job_part in
    let fault = c.in_err-map_err.field-0.0.1 in
    let laid : LaidOut c.args.part.now part.tasks.bytes.now part.messages.bytes.now = c.in_ok-job_part.ensures in
    let ts = laid.some_tasks in
    let ms = laid.some_messages in
    let same : setting c.loop-at.self ≡ s = ap (λ f. created_on (g.F.Fabric.meaning f.now)) c.loop-at.invariant.0 in
    let lt : i < length part.tasks.bytes.now / 16 + length part.messages.bytes.now / 16 = omega (arith, c.len-at-end.ensures, c.loop-at-test.true) in
    let at = job_read part.tasks.bytes.now part.messages.bytes.now ts ms laid.task_records laid.message_records i lt c.in-Some.job c.in-Some.ensures in
    let refused : Err fault ≡ c.offer.result = search rules in
    let place : c.in_err-map_err.field-0.0.0 ≡ section_place (length part.tasks.bytes.now / 16) i = search rules in
    let told : c.from_residual-in_err-map_err.result ≡ Err (Offer c.in_err-map_err.field-0.0.0 fault) = search rules in
    let stop : (Err (i, fault), jobs c.offer.new.self) ≡ in_turn s (jobs p) 0 (file_order (ts, ms)) =
    turn_stop s (file_order (ts, ms)) i c.in-Some.job js (jobs c.offer.new.self) _ at.0 at.1
    (c.offer.ensures.follows.after ∙ ap (λ n. (offer n js c.in-Some.job).1) same)
    (c.loop-at.invariant.1 ts ms laid.task_records laid.message_records) fault
    (refused ∙ c.offer.ensures.follows.answer ∙ ap (λ n. (offer n js c.in-Some.job).0) same) in
    let whole : load s (jobs p) c.args.part.now ≡ (counted (ts, ms) (Err (i, fault)), jobs c.offer.new.self) =
    ap (loaded s (jobs p)) laid.whole ∙ ap (λ r. (counted (ts, ms) r.0, r.1)) (sym stop) in
    let answer : c.from_residual-in_err-map_err.result ≡ (load s (jobs p) c.args.part.now).0 =
    told ∙ ap (λ n. Err (Offer n fault)) (place ∙ ap (λ n. section_place n i) (sym (section_length task_of 16 part.tasks.bytes.now ts laid.task_records))) ∙ sym (ap (λ r. r.0) whole) in
    let after : jobs c.offer.new.self ≡ (load s (jobs p) c.args.part.now).1 = sym (ap (λ r. r.1) whole) in
    record {
      follows = follows_of (load s (jobs p) c.args.part.now) c.from_residual-in_err-map_err.result p c.offer.new.self load_told answer after (c.offer.ensures.follows.alike ∙ c.loop-at.invariant.0);
      refused = λ e is. let no : ◌≡◌ {A = Result Counts LoadFault} (Err (Offer c.in_err-map_err.field-0.0.0 fault)) (Err (Layout e)) = sym told ∙ is in absurd cc;
      promise = load_told_of p c.args.part.now _ answer;
      left = load_left_of p c.args.part.now _ after;
      clean = clean_of c.offer.new.self;
    }

pub returns : goal.returns
returns g c =
    let p = c.args.self.now in
    let s = setting p in
    let part = c.in_ok-job_part.job_part in
    let laid : LaidOut c.args.part.now part.tasks.bytes.now part.messages.bytes.now = c.in_ok-job_part.ensures in
    let ts = laid.some_tasks in
    let ms = laid.some_messages in
    let end : (Ok tt, jobs c.loop-at.self) ≡ in_turn s (jobs p) 0 (file_order (ts, ms)) =
    turn_end s (file_order (ts, ms)) c.loop-at.at (jobs c.loop-at.self) _
    (omega (arith, c.loop-at-test.false, c.len-at-end.ensures, part_count part.tasks.bytes.now part.messages.bytes.now ts ms laid.task_records laid.message_records))
    (c.loop-at.invariant.1 ts ms laid.task_records laid.message_records) in
    let whole : load s (jobs p) c.args.part.now ≡ (counted (ts, ms) (Ok tt), jobs c.loop-at.self) =
    ap (loaded s (jobs p)) laid.whole ∙ ap (λ r. (counted (ts, ms) r.0, r.1)) (sym end) in
    let tasks = c.counts.ensures.tasks ∙ sym (section_length task_of 16 part.tasks.bytes.now ts laid.task_records) in
    let messages = c.counts.ensures.messages ∙ sym (section_length message_of 16 part.messages.bytes.now ms laid.message_records) in
    let answer : Ok c.counts.result ≡ (load s (jobs p) c.args.part.now).0 =
    ap (λ n. Ok (record { tasks = n; messages = c.counts.result.messages })) tasks
    ∙ ap (λ n. Ok (record { tasks = length ts; messages = n })) messages
    ∙ sym (ap (λ r. r.0) whole) in
    let after : jobs c.loop-at.self ≡ (load s (jobs p) c.args.part.now).1 = sym (ap (λ r. r.1) whole) in
    record {
      follows = follows_of (load s (jobs p) c.args.part.now) (Ok c.counts.result) p c.loop-at.self load_told answer after c.loop-at.invariant.0;
      refused = λ e is. absurd cc;
      promise = load_told_of p c.args.part.now _ answer;
      left = load_left_of p c.args.part.now _ after;
      clean = clean_of c.loop-at.self;
    }
