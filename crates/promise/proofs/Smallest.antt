-- A placing answers the smallest value that fits.
use Rattle.std.proofs.Common.{◌≡◌, ℕ, ◌+◌, ◌-◌, ◌<◌, Bool, true, false, ◌⊎◌, Some, None, Ok, Err, Option, sym, refl, ap, ◌∙◌, subst, inl, inr, arith}
use Rattle.std.specs.Option.{ok_or}
use Rattle.std.specs.Prelude.{is_none}
use Rattle.std.proofs.lemmas.Bool.{both_ways, cases_Bool}
use Rattle.holds.specs.Search.{first_from}
use Rattle.holds.proofs.Search.{Found, first_found}
use Rattle.jobs.specs.declared.fault.PlacingFault.TheVariants as placing
use Rattle.jobs.specs.declared.open.OpenTask.{OpenTask}
use Rattle.jobs.specs.declared.open.OpenMessage.{OpenMessage}
use Rattle.jobs.specs.Checks.{admitted_message, admitted_task}
use Rattle.jobs.specs.Jobs.{Jobs, Setting, task_named, with_message, with_task}
use Rattle.jobs.specs.Open.{message_at, task_at}
use Rattle.jobs.specs.Placings.{delays, first_delay, first_phase, place_message, place_task}
use Rattle.jobs.specs.Rules.{message_refusal, offered, task_refusal}
use Rattle.jobs.specs.Trips.{Trip}
use Rattle.jobs.proofs.Searches.{search_found, search_none}
use Rattle.promise.specs.Offers.{MessageFits, MessagePassed, Smallest, TaskFits, TaskPassed}
use Rattle.promise.proofs.Kept.{placed_past}
use Rattle.promise.proofs.Passing.{message_admitted, task_admitted}
use Rattle.promise.proofs.Takes.{trip_parts}

-- an offer is taken exactly where nothing refuses it
taken_none : {E : Type 0} (o : Option E) (js after : Jobs) → (offered o js after).0 ≡ Ok tt → is_none o ≡ true
taken_none None js after e = refl
taken_none (Some x) js after e = cc

none_taken : {E : Type 0} (o : Option E) (js after : Jobs) → is_none o ≡ true → (offered o js after).0 ≡ Ok tt
none_taken None js after e = refl
none_taken (Some x) js after e = cc

module _ {E : Type 0} (none : E) (Fits : ℕ → Type 0) (test : ℕ → Bool) (n : ℕ)
    (to : (v : ℕ) → v < n → test v ≡ true → Fits v) (from : (v : ℕ) → Fits v → (v < n) × (test v ≡ true)) where
  -- a search over the range by the test of what fits finds the smallest
  smallest : Smallest Fits none (ok_or (first_from test n 0) none)
  smallest = record { some = λ v. (λ e. told v (first_from test n 0) (first_found test n 0) e, back v); no_value = (λ e. empty (first_from test n 0) (first_found test n 0) e, back_none) }
    where
      failing : (v : ℕ) → (Fits v → ⊥) → v < n → test v ≡ false
      failing v never lt = go (cases_Bool (test v))
        where
          go : (test v ≡ true) ⊎ (test v ≡ false) → test v ≡ false
          go (inl t) = absurd (never (to v lt t))
          go (inr f) = f

      told : (v : ℕ) (o : Option ℕ) → Found test n 0 o → ok_or o none ≡ Ok v → Fits v × ((w : ℕ) → w < v → Fits w → ⊥)
      told v None f e = cc
      told v (Some x) (a, b, c, f) e =
          let same : x ≡ v = cc in
          (to v (omega arith) (subst (λ y. test y ≡ true) same c), λ w l fit. both_ways (test w) (f w (omega arith) (omega arith)) (from w fit).1)

      back : (v : ℕ) → Fits v × ((w : ℕ) → w < v → Fits w → ⊥) → ok_or (first_from test n 0) none ≡ Ok v
      back v (fit, least) =
          let k = from v fit in
          ap (λ o. ok_or o none) (sym (search_found test n v k.0 (λ w l. failing w (least w l) (omega (arith, k.0))) k.1))

      empty : (o : Option ℕ) → Found test n 0 o → ok_or o none ≡ Err none → (v : ℕ) → Fits v → ⊥
      empty None f e v fit = let k = from v fit in both_ways (test v) (f v (omega arith) (omega (arith, k.0))) k.1
      empty (Some x) f e v fit = cc

      back_none : ((v : ℕ) → Fits v → ⊥) → ok_or (first_from test n 0) none ≡ Err none
      back_none never = ap (λ o. ok_or o none) (sym (search_none test n (λ v l. failing v (never v) l)))

-- past the checks, the placing of a task answers the smallest phase that fits
pub task_smallest : (g : Setting) (js : Jobs) (t : OpenTask) → TaskPassed g js (task_at t 0) → Smallest (TaskFits g js t) placing.NoFit (place_task g js t).0
task_smallest g js t p =
    subst (Smallest (TaskFits g js t) placing.NoFit)
    (sym (placed_past js (λ v. with_task js (task_at t v)) (admitted_task g.network.nodes js (task_at t 0)) tt (first_phase g js t) (task_admitted g js (task_at t 0) p)))
    (smallest placing.NoFit (TaskFits g js t) (λ v. is_none (task_refusal g.network.nodes js (task_at t v))) (t.period + 1 - t.width)
    (λ v lt e. record { in_range = omega arith; taken = none_taken (task_refusal g.network.nodes js (task_at t v)) js (with_task js (task_at t v)) e })
    (λ v f. let r = f.in_range in (omega arith, taken_none (task_refusal g.network.nodes js (task_at t v)) js (with_task js (task_at t v)) f.taken)))

-- and that of a message the smallest delay
pub message_smallest : (g : Setting) (js : Jobs) (m : OpenMessage) (t : Trip) → MessagePassed g js (message_at m 0) t
    → Smallest (MessageFits g js m t.source) placing.NoFit (place_message g js m).0
message_smallest g js m t p =
    let parts = trip_parts g.network (task_named js.tasks m.source) (task_named js.tasks m.destination) t p.going in
    let range : first_from (λ v. is_none (message_refusal g js (message_at m v))) t.source.period 0 ≡ first_delay g js m =
    ap (λ s. first_from (λ v. is_none (message_refusal g js (message_at m v))) (delays s) 0) (sym parts.source) in
    subst (Smallest (MessageFits g js m t.source) placing.NoFit)
    (ap (λ o. ok_or o placing.NoFit) range
    ∙ sym (placed_past js (λ v. with_message js (message_at m v)) (admitted_message g js (message_at m 0)) t (first_delay g js m) (message_admitted g js (message_at m 0) t p)))
    (smallest placing.NoFit (MessageFits g js m t.source) (λ v. is_none (message_refusal g js (message_at m v))) t.source.period
    (λ v lt e. record { in_range = lt; taken = none_taken (message_refusal g js (message_at m v)) js (with_message js (message_at m v)) e })
    (λ v f. (f.in_range, taken_none (message_refusal g js (message_at m v)) js (with_message js (message_at m v)) f.taken)))
