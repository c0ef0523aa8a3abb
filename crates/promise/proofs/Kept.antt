-- What each taken job keeps, offers and placings keep.
use Rattle.std.proofs.Common.{◌≡◌, ℕ, ◌+◌, ◌-◌, true, Some, None, Ok, Err, Option, Result, refl, ap, ◌∙◌, subst}
use Rattle.std.specs.Option.{ok_or}
use Rattle.std.specs.Prelude.{is_none}
use Rattle.holds.specs.Search.{first_from}
use Rattle.holds.proofs.Search.{Found, first_found}
use Rattle.records.specs.declared.record.Task.{Task}
use Rattle.records.specs.declared.record.Message.{Message}
use Rattle.jobs.specs.declared.fault.PlacingFault.{PlacingFault}
use Rattle.jobs.specs.declared.fault.PlacingFault.TheVariants as placing
use Rattle.jobs.specs.declared.open.OpenTask.{OpenTask}
use Rattle.jobs.specs.declared.open.OpenMessage.{OpenMessage}
use Rattle.jobs.specs.Checks.{admitted_message, admitted_task}
use Rattle.jobs.specs.Jobs.{Jobs, Setting, task_named, with_message, with_task}
use Rattle.jobs.specs.Open.{message_at, task_at}
use Rattle.jobs.specs.Placings.{delays, first_delay, first_phase, place_message, place_task, placed}
use Rattle.jobs.specs.Rules.{message_refusal, offer_message, offer_task, offered, packet_refusal, refusal_past, run_refusal, task_refusal}
use Rattle.jobs.specs.Trips.{Trip}
use Rattle.promise.specs.Offers.{MessagePassed, TaskPassed}
use Rattle.promise.proofs.Passing.{message_passes, task_passes}

-- a search goes on while the offer would be refused, so what it finds is not refused
found_free : {E : Type 0} (refusal : ℕ → Option E) (n v : ℕ) → first_from (λ x. is_none (refusal x)) n 0 ≡ Some v → refusal v ≡ None
found_free {E} refusal n v e =
    let f : Found (λ x. is_none (refusal x)) n 0 (Some v) = subst (Found (λ x. is_none (refusal x)) n 0) e (first_found (λ x. is_none (refusal x)) n 0) in
    none (refusal v) f.2
  where
    none : (o : Option E) → is_none o ≡ true → o ≡ None
    none None e = refl
    none (Some x) e = cc

-- what is refused neither by the earlier checks nor past them
pub past_none : {A E : Type 0} (r : Result A E) (past : A → Option E) → refusal_past r past ≡ None → (x : A) × (r ≡ Ok x) × (past x ≡ None)
past_none (Err e) past is = cc
past_none (Ok x) past is = (x, refl, is)

pub task_free : (g : Setting) (js : Jobs) (t : Task) → task_refusal g.network.nodes js t ≡ None → TaskPassed g js t
task_free g js t none = task_passes g js t (past_none (admitted_task g.network.nodes js t) (λ _. run_refusal js t) none).1

pub message_free : (g : Setting) (js : Jobs) (m : Message) → message_refusal g js m ≡ None → (t : Trip) × MessagePassed g js m t
message_free g js m none = let x = past_none (admitted_message g js m) (packet_refusal g js m) none in (x.0, message_passes g js m x.0 x.1)

-- ---- offers

-- what holds before an offer, and after it where it is taken, holds after it
pub offered_kept : {E : Type 0} (P : Jobs → Type 0) (o : Option E) (js after : Jobs) → P js → (o ≡ None → P after) → P (offered o js after).1
offered_kept P None js after here taken = taken refl
offered_kept P (Some e) js after here taken = here

-- ---- placings

-- the same of a placing, for the value that it answers
pub placed_kept : {A E : Type 0} (P : Jobs → Type 0) (js : Jobs) (held : ℕ → Jobs) (r : Result A E) (o : Option ℕ) → P js → ((v : ℕ) → o ≡ Some v → P (held v)) → P (placed js held r o).1
placed_kept P js held (Err e) o here taken = here
placed_kept P js held (Ok x) None here taken = here
placed_kept P js held (Ok x) (Some v) here taken = taken v refl

-- what it answers was found
placed_found : {A E : Type 0} (js : Jobs) (held : ℕ → Jobs) (r : Result A E) (o : Option ℕ) (v : ℕ) → Ok v ≡ (placed js held r o).0 → o ≡ Some v
placed_found js held (Err e) o v is = cc
placed_found js held (Ok x) None v is = cc
placed_found js held (Ok x) (Some w) v is = let same : w ≡ v = cc in ap Some same

-- a refused placing leaves what was held
pub placed_stays : {A E : Type 0} (js : Jobs) (held : ℕ → Jobs) (r : Result A E) (o : Option ℕ) (e : PlacingFault E) → Err e ≡ (placed js held r o).0 → js ≡ (placed js held r o).1
placed_stays js held (Err x) o e is = refl
placed_stays js held (Ok x) None e is = refl
placed_stays js held (Ok x) (Some v) e is = cc

-- past the earlier checks a placing answers the value, or that none fits
pub placed_past : {A E : Type 0} (js : Jobs) (held : ℕ → Jobs) (r : Result A E) (x : A) (o : Option ℕ) → r ≡ Ok x → (placed js held r o).0 ≡ ok_or o placing.NoFit
placed_past {A} {E} js held r x o is = ap (λ y. (placed js held y o).0) is ∙ go o
  where
    go : (o : Option ℕ) → (placed {A = A} {E = E} js held (Ok x) o).0 ≡ ok_or o placing.NoFit
    go None = refl
    go (Some v) = refl

module _ (g : Setting) (P : Jobs → Type 0) where
  module _ (keep : (js : Jobs) (t : Task) → P js → task_refusal g.network.nodes js t ≡ None → P (with_task js t)) where
    pub task_offer_kept : (js : Jobs) (t : Task) → P js → P (offer_task g js t).1
    task_offer_kept js t here = offered_kept P (task_refusal g.network.nodes js t) js (with_task js t) here (keep js t here)

    pub task_place_kept : (js : Jobs) (t : OpenTask) → P js → P (place_task g js t).1
    task_place_kept js t here =
        placed_kept P js (λ v. with_task js (task_at t v)) (admitted_task g.network.nodes js (task_at t 0)) (first_phase g js t) here
        (λ v is. keep js (task_at t v) here (found_free (λ x. task_refusal g.network.nodes js (task_at t x)) (t.period + 1 - t.width) v is))

  module _ (keep : (js : Jobs) (m : Message) → P js → message_refusal g js m ≡ None → P (with_message js m)) where
    pub message_offer_kept : (js : Jobs) (m : Message) → P js → P (offer_message g js m).1
    message_offer_kept js m here = offered_kept P (message_refusal g js m) js (with_message js m) here (keep js m here)

    pub message_place_kept : (js : Jobs) (m : OpenMessage) → P js → P (place_message g js m).1
    message_place_kept js m here =
        placed_kept P js (λ v. with_message js (message_at m v)) (admitted_message g js (message_at m 0)) (first_delay g js m) here
        (λ v is. keep js (message_at m v) here (found_free (λ x. message_refusal g js (message_at m x)) (delays (task_named js.tasks m.source)) v is))

-- a value that a placing answers is one whose offer no check refuses
pub task_placed_free : (g : Setting) (js : Jobs) (t : OpenTask) (v : ℕ) → Ok v ≡ (place_task g js t).0 → task_refusal g.network.nodes js (task_at t v) ≡ None
task_placed_free g js t v is =
    found_free (λ x. task_refusal g.network.nodes js (task_at t x)) (t.period + 1 - t.width) v
    (placed_found js (λ v. with_task js (task_at t v)) (admitted_task g.network.nodes js (task_at t 0)) (first_phase g js t) v is)

pub message_placed_free : (g : Setting) (js : Jobs) (m : OpenMessage) (v : ℕ) → Ok v ≡ (place_message g js m).0 → message_refusal g js (message_at m v) ≡ None
message_placed_free g js m v is =
    found_free (λ x. message_refusal g js (message_at m x)) (delays (task_named js.tasks m.source)) v
    (placed_found js (λ v. with_message js (message_at m v)) (admitted_message g js (message_at m 0)) (first_delay g js m) v is)
