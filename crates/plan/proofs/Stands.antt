-- What a plan keeps in itself is known of it, and what its calls say of it: its jobs, loaded in turn, are all taken, which an equation says.
use Rattle.std.proofs.Common.{◌≡◌, ℕ, ℤ, List, Some, None, Option, Ok, Err, Result, sym, refl, ap, ◌∙◌, rules, subst}
use Rattle.std.specs.Option.{ok_or}
use Rattle.std.proofs.Math.Logic.{∥∥₁_elim}
use Rattle.std.proofs.Props.{props}
use Rattle.fabric.specs.Network.{IsFabric, is_fabric}
use Rattle.fabric.specs.declared.Fabric.{Ghosts}
use Rattle.records.specs.declared.record.Task.{Task}
use Rattle.records.specs.declared.record.Message.{Message}
use Rattle.records.specs.declared.tables.Table.{Table}
use Rattle.jobs.specs.declared.fault.TaskFault.{TaskFault}
use Rattle.jobs.specs.declared.fault.MessageFault.{MessageFault}
use Rattle.jobs.specs.declared.fault.DropFault.{DropFault}
use Rattle.jobs.specs.declared.fault.PlaceFault.{PlaceFault}
use Rattle.jobs.specs.declared.fault.PlacingFault.{PlacingFault}
use Rattle.jobs.specs.declared.open.OpenTask.{OpenTask}
use Rattle.jobs.specs.declared.open.OpenMessage.{OpenMessage}
use Rattle.jobs.specs.Drops.{drop_message, drop_task}
use Rattle.promise.specs.Droppings.{MessageDropped, TaskDropped}
use Rattle.promise.proofs.Droppings.{message_dropping, task_dropping}
use Rattle.jobs.specs.Holding.{holder}
use Rattle.jobs.specs.declared.place.Place.{Place}
use Rattle.jobs.specs.Placings.{place_message, place_task}
use Rattle.jobs.specs.Rules.{offer_message, offer_task}
use Rattle.jobs.specs.Slacks.{slack}
use Rattle.promise.specs.Offers.{MessageAnswer, MessagePlacing, TaskAnswer, TaskPlacing}
use Rattle.promise.specs.Questions.{HolderAnswer, SlackAnswer}
use Rattle.promise.specs.Tabled.{tabled}
use Rattle.promise.proofs.Early.{message_answer, message_placing, task_answer, task_placing}
use Rattle.promise.proofs.Questions.{holder_answer, slack_told}
use Rattle.jobs.specs.Jobs.{Jobs, Setting, nothing}
use Rattle.refusals.specs.Told.{refusal_of}
use Rattle.plan.specs.After.{Leaves}
use Rattle.plan.specs.Follows.{Follows, Says}
use Rattle.plan.specs.Held.{SameSetting, jobs, setting}
use Rattle.plan.specs.declared.plan.Plan.{Plan}
use Rattle.plan.specs.Loading.{load, loaded}
use Rattle.plan.specs.Loads.{LoadLeft, LoadAnswer, load_tries}
use Rattle.plan.specs.declared.fault.LoadFault.{LoadFault}
use Rattle.refusals.specs.declared.refusal.Counts.{Counts}
use Rattle.plan.specs.Round.{LoadsBack}
use Rattle.promise.specs.Canonical.{Canonical, ShortNames}
use Rattle.promise.specs.Clean.{Clean}
use Rattle.plan.proofs.AllTaken.{all_taken}
use Rattle.plan.proofs.Round.{round_trip}
use Rattle.plan.proofs.Loads.{loaded_keeps}
use Rattle.plan.proofs.Tries.{load_left, load_told}

-- a new plan holds nothing, so nothing in it is amiss
pub clean_nothing : (g : Setting) → Clean g nothing
clean_nothing g = search rules

module _ (g : Setting) (fab : IsFabric g.network) (js : Jobs) (here : Canonical js) where
  pub stands : ∥ Clean g js ∥₁ → Clean g js
  stands h =
      let taken : (loaded g nothing (Ok (js.tasks, js.messages))).1 ≡ js = ∥∥₁_elim h (hlevel props) (λ clean. ap (λ r. r.1) (all_taken g js clean here fab)) in
      subst (Clean g) taken (loaded_keeps g fab nothing (Ok (js.tasks, js.messages)) (clean_nothing g))

-- so a plan is clean
pub clean_of : {F : Type 0} {B : Ghosts F} (p : Plan F B) → Clean (setting p) (jobs p)
clean_of {B = B} p = stands (setting p) (is_fabric B.bounded (B.lawful p.fabric.now)) (jobs p) p.ordered p.clean

-- a plan with the same messages is the same plan
pub same_plan : {F : Type 0} {B : Ghosts F} (p : Plan F B) (ms : Table Message 128) (c : ∥ Clean (setting p) (tabled p.tasks ms) ∥₁) (o : Canonical (tabled p.tasks ms)) (n : ShortNames (tabled p.tasks ms)) → ms ≡ p.messages
    → ◌≡◌ {A = Plan F B} (record { fabric = p.fabric; tasks = p.tasks; messages = ms; clean = c; ordered = o; short = n }) p
same_plan {F} {B} p ms c o n e =
    let Same : Table Message 128 → Type 0 = λ x. (c : ∥ Clean (setting p) (tabled p.tasks x) ∥₁) (o : Canonical (tabled p.tasks x)) (n : ShortNames (tabled p.tasks x))
    → ◌≡◌ {A = Plan F B} (record { fabric = p.fabric; tasks = p.tasks; messages = x; clean = c; ordered = o; short = n }) p in
    let one : IsProp (∥ Clean (setting p) (jobs p) ∥₁) = hlevel in
    let two : IsProp (Canonical (jobs p)) = hlevel props in
    let three : IsProp (ShortNames (jobs p)) = hlevel props in
    let here : Same p.messages = λ c o n.
    ap (λ x. record { fabric = p.fabric; tasks = p.tasks; messages = p.messages; clean = x; ordered = o; short = n }) (one c p.clean)
    ∙ ap (λ x. record { fabric = p.fabric; tasks = p.tasks; messages = p.messages; clean = p.clean; ordered = x; short = n }) (two o p.ordered)
    ∙ ap (λ x. record { fabric = p.fabric; tasks = p.tasks; messages = p.messages; clean = p.clean; ordered = p.ordered; short = x }) (three n p.short) in
    subst Same (sym e) here c o n

pub none_of : {T E : Type 0} (o : Option T) (e x : E) → ok_or o e ≡ Err x → o ≡ None
none_of None e x is = refl
none_of (Some t) e x is = cc

-- ---- a call that answers and leaves what its rule says

module _ {T E : Type 0} where
  pub says_of : {N : Type 0} (r : Result T E) (tell : E → N) (rule : Result T E) → r ≡ rule → Says r tell rule
  says_of r tell rule e = record { answer = e; numbers = ap (refusal_of tell) e }

  module _ (rule : Result T E × Jobs) (r : Result T E) where
    pub follows_of : {F : Type 0} {B : Ghosts F} {N : Type 0} (old new : Plan F B) (tell : E → N) → r ≡ rule.0 → jobs new ≡ rule.1 → SameSetting old new
        → Follows old new r tell rule
    follows_of old new tell answer after alike = record { answer = answer; numbers = ap (refusal_of tell) answer; after = after; alike = alike }

    -- a call that the rule refuses leaves what was held
    pub stays_of : (js : Jobs) (Does : T → Jobs → Type 0) (e : E) → Leaves js Does rule.0 rule.1 → Err e ≡ rule.0 → js ≡ rule.1
    stays_of js Does e left is = let same : Leaves js Does (Err e) rule.1 = subst (λ o. Leaves js Does o rule.1) (sym is) left in sym same

    -- leaves what the rule leaves
    pub left_of : (js after : Jobs) (Does : T → Jobs → Type 0) → Leaves js Does rule.0 rule.1 → r ≡ rule.0 → after ≡ rule.1 → Leaves js Does r after
    left_of js after Does left answer is = subst (Leaves js Does r) (sym is) (subst (λ o. Leaves js Does o rule.1) (sym answer) left)

-- ---- what is told of a plan

module _ {F : Type 0} {B : Ghosts F} (p : Plan F B) where
  pub task_told_of : (t : Task) (r : Result (Unit {0}) TaskFault) → r ≡ (offer_task (setting p) (jobs p) t).0 → TaskAnswer (setting p) (jobs p) t r
  task_told_of t r e = subst (TaskAnswer (setting p) (jobs p) t) (sym e) (task_answer (setting p) (jobs p) t (clean_of p))

  pub message_told_of : (m : Message) (r : Result (Unit {0}) MessageFault) → r ≡ (offer_message (setting p) (jobs p) m).0 → MessageAnswer (setting p) (jobs p) m r
  message_told_of m r e =
      subst (MessageAnswer (setting p) (jobs p) m) (sym e) (message_answer (setting p) (is_fabric B.bounded (B.lawful p.fabric.now)) (jobs p) m (clean_of p))

  pub task_placing_of : (t : OpenTask) (r : Result ℕ (PlacingFault TaskFault)) → r ≡ (place_task (setting p) (jobs p) t).0 → TaskPlacing (setting p) (jobs p) t r
  task_placing_of t r e = subst (TaskPlacing (setting p) (jobs p) t) (sym e) (task_placing (setting p) (jobs p) t)

  pub message_placing_of : (m : OpenMessage) (r : Result ℕ (PlacingFault MessageFault)) → r ≡ (place_message (setting p) (jobs p) m).0 → MessagePlacing (setting p) (jobs p) m r
  message_placing_of m r e = subst (MessagePlacing (setting p) (jobs p) m) (sym e) (message_placing (setting p) (jobs p) m)

  pub slack_told_of : (n : ℕ) (r : Result ℤ DropFault) → r ≡ slack (setting p) (jobs p) n → SlackAnswer (setting p) (jobs p) n r
  slack_told_of n r e = subst (SlackAnswer (setting p) (jobs p) n) (sym e) (slack_told (setting p) (is_fabric B.bounded (B.lawful p.fabric.now)) (jobs p) (clean_of p) n)

  pub holder_answer_of : (place : Place) (n : ℕ) (r : Result (Option (ℕ × ℕ)) PlaceFault) → r ≡ holder (setting p) (jobs p) place n → HolderAnswer (setting p) (jobs p) place n r
  holder_answer_of place n r e =
      subst (HolderAnswer (setting p) (jobs p) place n) (sym e) (holder_answer (setting p) (is_fabric B.bounded (B.lawful p.fabric.now)) (jobs p) (clean_of p) place n)

  -- what a plan writes loads back into a new plan
  pub back_of : LoadsBack (setting p) (jobs p)
  back_of = round_trip (setting p) (is_fabric B.bounded (B.lawful p.fabric.now)) (jobs p) (clean_of p) p.ordered p.short

  pub task_dropped_of : (n : ℕ) (r : Result (Unit {0}) DropFault) → r ≡ (drop_task (jobs p) n).0 → TaskDropped (jobs p) n r
  task_dropped_of n r e = subst (TaskDropped (jobs p) n) (sym e) (task_dropping (jobs p) n)

  pub message_dropped_of : (n : ℕ) (r : Result (Unit {0}) DropFault) → r ≡ (drop_message (jobs p) n).0 → MessageDropped (jobs p) n r
  message_dropped_of n r e = subst (MessageDropped (jobs p) n) (sym e) (message_dropping (jobs p) n)

  -- a load is answered as promised, and leaves what was held and the jobs of its taken offers
  pub load_told_of : (part : List ℕ) (r : Result Counts LoadFault) → r ≡ (load (setting p) (jobs p) part).0 → LoadAnswer (setting p) (jobs p) part r
  load_told_of part r e = subst (LoadAnswer (setting p) (jobs p) part) (sym e) (load_told (setting p) (is_fabric B.bounded (B.lawful p.fabric.now)) (jobs p) (clean_of p) part)

  pub load_left_of : (part : List ℕ) (after : Jobs) → after ≡ (load (setting p) (jobs p) part).1 → LoadLeft (load_tries (setting p) (jobs p) part) (jobs p) after
  load_left_of part after e = subst (LoadLeft (load_tries (setting p) (jobs p) part) (jobs p)) (sym e) (load_left (setting p) (jobs p) part)
