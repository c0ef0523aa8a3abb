-- Which of the earlier checks fails first: it is told exactly where its condition holds and none of those before it does.
use Rattle.std.proofs.Common.{◌≡◌, ℕ, ◌<◌, ◌≤◌, Bool, true, false, not, eqb, leb, ◌↔◌, zero, suc, List, length, is_some, Some, None, Ok, Err, Option, Result, sym, refl, ap, ◌∙◌, subst, inl, inr, arith}
use Rattle.std.specs.Option.{ok_or}
use Rattle.std.proofs.lemmas.Bool.{eqb-true, le-leb, leb-false, leb-true, lt-leb, not-false}
use Rattle.std.proofs.lemmas.Bool.Decides.{nat_tests}
use Rattle.records.specs.Named.{index_of, named}
use Rattle.records.proofs.Places.{index_named}
use Rattle.records.specs.declared.record.Task.{Task}
use Rattle.records.specs.declared.record.Message.{Message}
use Rattle.jobs.specs.declared.fault.TaskFault.{TaskFault}
use Rattle.jobs.specs.declared.fault.TaskFault.TheVariants as task_fault
use Rattle.jobs.specs.declared.fault.MessageFault.{MessageFault}
use Rattle.jobs.specs.declared.fault.MessageFault.TheVariants as message_fault
use Rattle.refusals.specs.Steps.{◌>>=◌}
use Rattle.jobs.specs.Checks.{admitted_message, admitted_task, message_timely, name_taken, refused_if, task_timely}
use Rattle.jobs.specs.Jobs.{Jobs, Setting, message_name, task_name, task_named}
use Rattle.jobs.specs.Trips.{Trip}
use Rattle.jobs.proofs.Admitting.{fails_check, fails_some, past_check, past_some}
use Rattle.promise.specs.Offers.{EndsHeld, MessageFails, MessageTimes, NameTaken, TaskFails, TaskTimes}
use Rattle.promise.proofs.Lists.{named_in}
use Rattle.promise.proofs.Passing.{name_free, name_fresh, name_some}

same_err : {A E : Type 0} {x y : E} → ◌≡◌ {A = Result A E} (Err x) (Err y) → x ≡ y
same_err e = cc

-- ---- names

module _ {X : Type 0} (name : X → ℕ) (n : ℕ) (xs : List X) where
  is_taken : name_taken name n xs ≡ true → NameTaken name n xs
  is_taken e = go (named name n xs) refl
    where
      zero_or : (b : Bool) → eqb n 0 ≡ b → is_some (index_of name n xs) ≡ false → NameTaken name n xs
      zero_or true z none = inl (eqb-true n 0 z)
      zero_or false z none = cc

      go : (o : Option X) → named name n xs ≡ o → NameTaken name n xs
      go (Some x) is = let k = named_in name n x xs is in inr (x, k.0, k.1)
      go None is = zero_or (eqb n 0) refl (index_named name n xs ∙ ap is_some is)

  not_taken : name_taken name n xs ≡ false → NameTaken name n xs → ⊥
  not_taken e (inl z) = let some = name_some name n xs e in omega (arith, some, z)
  not_taken e (inr (x, i, is)) = name_fresh name n xs e x i is

  free : (NameTaken name n xs → ⊥) → name_taken name n xs ≡ false
  free fresh = name_free name n xs (some n (λ z. fresh (inl z))) (λ x i is. fresh (inr (x, i, is)))
    where
      some : (n : ℕ) → (n ≡ 0 → ⊥) → 0 < n
      some zero z = absurd (z refl)
      some (suc n) z = omega arith

  taken : NameTaken name n xs → name_taken name n xs ≡ true
  taken k = go (name_taken name n xs) refl
    where
      go : (b : Bool) → name_taken name n xs ≡ b → name_taken name n xs ≡ true
      go true is = is
      go false is = absurd (not_taken is k)

-- ---- tasks

times : (t : Task) → task_timely t ≡ true → TaskTimes t
times t e = record { some_period = grind (arith, nat_tests); short = grind (arith, nat_tests); some = grind (arith, nat_tests); fits = grind (arith, nat_tests) }

timely : (t : Task) → TaskTimes t → task_timely t ≡ true
timely t h =
    let a = h.some_period in
    let b = h.short in
    let c = h.some in
    let d : t.width ≤ t.period = omega (arith, h.fits) in
    let e = h.fits in
    grind (arith, nat_tests)

bad_times : (t : Task) → not (task_timely t) ≡ true → TaskTimes t → ⊥
bad_times t e h = let good = timely t h in cc

no_times : (t : Task) → (TaskTimes t → ⊥) → not (task_timely t) ≡ true
no_times t fresh = go (task_timely t) refl
  where
    go : (b : Bool) → task_timely t ≡ b → not (task_timely t) ≡ true
    go true is = absurd (fresh (times t is))
    go false is = ap not is

module _ (g : Setting) (js : Jobs) (t : Task) where
  abbrev nodes : ℕ
  nodes = g.network.nodes

  abbrev with_room : Unit {0} → Result (Unit {0}) TaskFault
  with_room _ = refused_if (leb 64 (length js.tasks)) task_fault.Full

  abbrev with_times : Unit {0} → Result (Unit {0}) TaskFault
  with_times _ = refused_if (not (task_timely t)) task_fault.Times >>= with_room

  abbrev on_core : Unit {0} → Result (Unit {0}) TaskFault
  on_core _ = refused_if (leb nodes t.core) task_fault.Core >>= with_times

  -- what is told first failed first
  task_fails : (f : TaskFault) → admitted_task nodes js t ≡ Err f → TaskFails g js t f
  task_fails f e = first (name_taken task_name t.name js.tasks) refl
    where
      fourth : (NameTaken task_name t.name js.tasks → ⊥) → t.core < nodes → task_timely t ≡ true → (b : Bool) → leb 64 (length js.tasks) ≡ b → with_room tt ≡ Err f → TaskFails g js t f
      fourth fresh on fit true is e = subst (TaskFails g js t) (same_err (sym (ap (λ b. refused_if b task_fault.Full) is) ∙ e)) (fresh, on, times t fit, leb-true 64 (length js.tasks) is)
      fourth fresh on fit false is e = cc

      third : (NameTaken task_name t.name js.tasks → ⊥) → t.core < nodes → (b : Bool) → not (task_timely t) ≡ b → with_times tt ≡ Err f → TaskFails g js t f
      third fresh on true is e = subst (TaskFails g js t) (same_err (sym (fails_check (not (task_timely t)) task_fault.Times with_room is) ∙ e)) (fresh, on, bad_times t is)
      third fresh on false is e =
          fourth fresh on (not-false (task_timely t) is) (leb 64 (length js.tasks)) refl (sym (past_check (not (task_timely t)) task_fault.Times with_room is) ∙ e)

      second : (NameTaken task_name t.name js.tasks → ⊥) → (b : Bool) → leb nodes t.core ≡ b → on_core tt ≡ Err f → TaskFails g js t f
      second fresh true is e = subst (TaskFails g js t) (same_err (sym (fails_check (leb nodes t.core) task_fault.Core with_times is) ∙ e)) (fresh, leb-true nodes t.core is)
      second fresh false is e = third fresh (leb-false nodes t.core is) (not (task_timely t)) refl (sym (past_check (leb nodes t.core) task_fault.Core with_times is) ∙ e)

      first : (b : Bool) → name_taken task_name t.name js.tasks ≡ b → TaskFails g js t f
      first true is = subst (TaskFails g js t) (same_err (sym (fails_check (name_taken task_name t.name js.tasks) task_fault.Name on_core is) ∙ e)) (is_taken task_name t.name js.tasks is)
      first false is =
          second (not_taken task_name t.name js.tasks is) (leb nodes t.core) refl (sym (past_check (name_taken task_name t.name js.tasks) task_fault.Name on_core is) ∙ e)

  -- and what fails first is told
  past_name : (NameTaken task_name t.name js.tasks → ⊥) → admitted_task nodes js t ≡ on_core tt
  past_name fresh = past_check (name_taken task_name t.name js.tasks) task_fault.Name on_core (free task_name t.name js.tasks fresh)

  past_core : (NameTaken task_name t.name js.tasks → ⊥) → t.core < nodes → admitted_task nodes js t ≡ with_times tt
  past_core fresh on = past_name fresh ∙ past_check (leb nodes t.core) task_fault.Core with_times (lt-leb nodes t.core on)

  task_told_first : (f : TaskFault) → TaskFails g js t f → admitted_task nodes js t ≡ Err f
  task_told_first task_fault.Name k = fails_check (name_taken task_name t.name js.tasks) task_fault.Name on_core (taken task_name t.name js.tasks k)
  task_told_first task_fault.Core (fresh, far) = past_name fresh ∙ fails_check (leb nodes t.core) task_fault.Core with_times (le-leb nodes t.core far)
  task_told_first task_fault.Times (fresh, on, bad) = past_core fresh on ∙ fails_check (not (task_timely t)) task_fault.Times with_room (no_times t bad)
  task_told_first task_fault.Full (fresh, on, fit, full) =
      past_core fresh on
      ∙ past_check (not (task_timely t)) task_fault.Times with_room (ap not (timely t fit))
      ∙ ap (λ b. refused_if b task_fault.Full) (le-leb 64 (length js.tasks) full)
  task_told_first (task_fault.Meets x) k = absurd k

  pub task_first : (f : TaskFault) → (admitted_task nodes js t ≡ Err f) ↔ TaskFails g js t f
  task_first f = (task_fails f, task_told_first f)

-- ---- messages

sent_times : (s : Task) (m : Message) → message_timely s m ≡ true → MessageTimes s m
sent_times s m e = record { kind = grind (arith, nat_tests); delay = grind (arith, nat_tests); some = grind (arith, nat_tests); fits = grind (arith, nat_tests) }

sent_timely : (s : Task) (m : Message) → MessageTimes s m → message_timely s m ≡ true
sent_timely s m h = let a = h.kind in let b = h.delay in let c = h.some in let d = h.fits in grind (arith, nat_tests)

bad_sent : (s : Task) (m : Message) → not (message_timely s m) ≡ true → MessageTimes s m → ⊥
bad_sent s m e h = let good = sent_timely s m h in cc

not_sent : (s : Task) (m : Message) → (MessageTimes s m → ⊥) → not (message_timely s m) ≡ true
not_sent s m bad = go (message_timely s m) refl
  where
    go : (b : Bool) → message_timely s m ≡ b → not (message_timely s m) ≡ true
    go true is = absurd (bad (sent_times s m is))
    go false is = ap not is

module _ (g : Setting) (js : Jobs) (m : Message) where
  abbrev Fresh : Type 0
  Fresh = NameTaken message_name m.name js.messages → ⊥

  abbrev routed : Task → Task → Option (List ℕ)
  routed s d = g.network.route s.core d.core

  abbrev full : Bool
  full = leb 128 (length js.messages)

  abbrev gone : Task → Task → List ℕ → Unit {0} → Result Trip MessageFault
  gone s d r _ = Ok (record { source = s; destination = d; route = r })

  abbrev with_route : Task → Task → List ℕ → Result Trip MessageFault
  with_route s d r = refused_if full message_fault.Full >>= gone s d r

  abbrev within : Task → Task → Unit {0} → Result Trip MessageFault
  within s d _ = ok_or (routed s d) message_fault.NoRoute >>= with_route s d

  abbrev with_ends : Task → Task → Result Trip MessageFault
  with_ends s d = refused_if (not (message_timely s m)) message_fault.Times >>= within s d

  abbrev with_source : Task → Result Trip MessageFault
  with_source s = ok_or (task_named js.tasks m.destination) message_fault.Ends >>= with_ends s

  abbrev named_free : Unit {0} → Result Trip MessageFault
  named_free _ = ok_or (task_named js.tasks m.source) message_fault.Ends >>= with_source

  -- what is told first failed first
  message_fails : (f : MessageFault) → admitted_message g js m ≡ Err f → MessageFails g js m f
  message_fails f e = first (name_taken message_name m.name js.messages) refl
    where
      sixth : Fresh → (h : EndsHeld js m) → MessageTimes h.source m → (r : List ℕ) → routed h.source h.destination ≡ Some r
          → (b : Bool) → full ≡ b → with_route h.source h.destination r ≡ Err f → MessageFails g js m f
      sixth fresh h fit r at true is e =
          subst (MessageFails g js m) (same_err (sym (fails_check full message_fault.Full (gone h.source h.destination r) is) ∙ e)) (fresh, h, (fit, (r, at), leb-true 128 (length js.messages) is))
      sixth fresh h fit r at false is e = let past = past_check full message_fault.Full (gone h.source h.destination r) is in cc

      fifth : Fresh → (h : EndsHeld js m) → MessageTimes h.source m → (o : Option (List ℕ)) → routed h.source h.destination ≡ o
          → within h.source h.destination tt ≡ Err f → MessageFails g js m f
      fifth fresh h fit None is e =
          subst (MessageFails g js m) (same_err (sym (fails_some (routed h.source h.destination) message_fault.NoRoute (with_route h.source h.destination) is) ∙ e)) (fresh, h, (fit, is))
      fifth fresh h fit (Some r) is e =
          sixth fresh h fit r is full refl (sym (past_some (routed h.source h.destination) message_fault.NoRoute (with_route h.source h.destination) r is) ∙ e)

      fourth : Fresh → (h : EndsHeld js m) → (b : Bool) → not (message_timely h.source m) ≡ b → with_ends h.source h.destination ≡ Err f → MessageFails g js m f
      fourth fresh h true is e =
          subst (MessageFails g js m) (same_err (sym (fails_check (not (message_timely h.source m)) message_fault.Times (within h.source h.destination) is) ∙ e)) (fresh, h, bad_sent h.source m is)
      fourth fresh h false is e =
          fifth fresh h (sent_times h.source m (not-false (message_timely h.source m) is)) (routed h.source h.destination) refl
          (sym (past_check (not (message_timely h.source m)) message_fault.Times (within h.source h.destination) is) ∙ e)

      no_end : (EndsHeld js m → ⊥) → Fresh → message_fault.Ends ≡ f → MessageFails g js m f
      no_end none fresh is = subst (MessageFails g js m) is (fresh, none)

      third : Fresh → (s : Task) → task_named js.tasks m.source ≡ Some s → (o : Option Task) → task_named js.tasks m.destination ≡ o → with_source s ≡ Err f → MessageFails g js m f
      third fresh s at None is e =
          no_end (λ h. let there = h.read_by in cc) fresh (same_err (sym (fails_some (task_named js.tasks m.destination) message_fault.Ends (with_ends s) is) ∙ e))
      third fresh s at (Some d) is e =
          fourth fresh (record { source = s; destination = d; sent_by = at; read_by = is }) (not (message_timely s m)) refl
          (sym (past_some (task_named js.tasks m.destination) message_fault.Ends (with_ends s) d is) ∙ e)

      second : Fresh → (o : Option Task) → task_named js.tasks m.source ≡ o → named_free tt ≡ Err f → MessageFails g js m f
      second fresh None is e = no_end (λ h. let there = h.sent_by in cc) fresh (same_err (sym (fails_some (task_named js.tasks m.source) message_fault.Ends with_source is) ∙ e))
      second fresh (Some s) is e = third fresh s is (task_named js.tasks m.destination) refl (sym (past_some (task_named js.tasks m.source) message_fault.Ends with_source s is) ∙ e)

      first : (b : Bool) → name_taken message_name m.name js.messages ≡ b → MessageFails g js m f
      first true is = subst (MessageFails g js m) (same_err (sym (fails_check (name_taken message_name m.name js.messages) message_fault.Name named_free is) ∙ e)) (is_taken message_name m.name js.messages is)
      first false is =
          second (not_taken message_name m.name js.messages is) (task_named js.tasks m.source) refl (sym (past_check (name_taken message_name m.name js.messages) message_fault.Name named_free is) ∙ e)

  -- and what fails first is told
  past_message_name : Fresh → admitted_message g js m ≡ named_free tt
  past_message_name fresh = past_check (name_taken message_name m.name js.messages) message_fault.Name named_free (free message_name m.name js.messages fresh)

  past_ends : Fresh → (h : EndsHeld js m) → admitted_message g js m ≡ with_ends h.source h.destination
  past_ends fresh h =
      past_message_name fresh
      ∙ past_some (task_named js.tasks m.source) message_fault.Ends with_source h.source h.sent_by
      ∙ past_some (task_named js.tasks m.destination) message_fault.Ends (with_ends h.source) h.destination h.read_by

  past_times : Fresh → (h : EndsHeld js m) → MessageTimes h.source m → admitted_message g js m ≡ within h.source h.destination tt
  past_times fresh h fit =
      past_ends fresh h ∙ past_check (not (message_timely h.source m)) message_fault.Times (within h.source h.destination) (ap not (sent_timely h.source m fit))

  ends_told : (EndsHeld js m → ⊥) → (o : Option Task) → task_named js.tasks m.source ≡ o → named_free tt ≡ Err message_fault.Ends
  ends_told none None is = fails_some (task_named js.tasks m.source) message_fault.Ends with_source is
  ends_told none (Some s) is = past_some (task_named js.tasks m.source) message_fault.Ends with_source s is ∙ go (task_named js.tasks m.destination) refl
    where
      go : (o : Option Task) → task_named js.tasks m.destination ≡ o → with_source s ≡ Err message_fault.Ends
      go None at = fails_some (task_named js.tasks m.destination) message_fault.Ends (with_ends s) at
      go (Some d) at = absurd (none (record { source = s; destination = d; sent_by = is; read_by = at }))

  message_told_first : (f : MessageFault) → MessageFails g js m f → admitted_message g js m ≡ Err f
  message_told_first message_fault.Name k = fails_check (name_taken message_name m.name js.messages) message_fault.Name named_free (taken message_name m.name js.messages k)
  message_told_first message_fault.Ends (fresh, none) = past_message_name fresh ∙ ends_told none (task_named js.tasks m.source) refl
  message_told_first message_fault.Times (fresh, h, bad) =
      past_ends fresh h ∙ fails_check (not (message_timely h.source m)) message_fault.Times (within h.source h.destination) (not_sent h.source m bad)
  message_told_first message_fault.NoRoute (fresh, h, (fit, none)) =
      past_times fresh h fit ∙ fails_some (routed h.source h.destination) message_fault.NoRoute (with_route h.source h.destination) none
  message_told_first message_fault.Full (fresh, h, (fit, (r, at), many)) =
      past_times fresh h fit
      ∙ past_some (routed h.source h.destination) message_fault.NoRoute (with_route h.source h.destination) r at
      ∙ fails_check full message_fault.Full (gone h.source h.destination r) (le-leb 128 (length js.messages) many)
  message_told_first (message_fault.Late v) k = absurd k
  message_told_first (message_fault.Meets x) k = absurd k

  pub message_first : (f : MessageFault) → (admitted_message g js m ≡ Err f) ↔ MessageFails g js m f
  message_first f = (message_fails f, message_told_first f)
