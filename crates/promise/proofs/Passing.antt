-- The checks before lateness and meetings are passed exactly where none of their conditions holds, and else answer an early fault.
use Rattle.std.proofs.Common.{◌≡◌, ℕ, ◌<◌, true, false, not, eqb, leb, ◌⊎◌, List, length, is_some, Ok, Err, Result, ap, ◌∙◌, subst, inl, inr, arith}
use Rattle.std.specs.Option.{ok_or}
use Rattle.std.proofs.lemmas.Bool.{leb-false, lt-leb, ne_eqb, not-false, or_from, or_parts}
use Rattle.std.proofs.lemmas.Bool.Decides.{nat_tests}
use Rattle.records.specs.Named.{index_of}
use Rattle.records.proofs.Places.{index_named}
use Rattle.records.specs.declared.record.Task.{Task}
use Rattle.records.specs.declared.record.Message.{Message}
use Rattle.jobs.specs.declared.fault.TaskFault.{TaskFault}
use Rattle.jobs.specs.declared.fault.TaskFault.TheVariants as task_fault
use Rattle.jobs.specs.declared.fault.MessageFault.{MessageFault}
use Rattle.jobs.specs.declared.fault.MessageFault.TheVariants as message_fault
use Rattle.refusals.specs.Steps.{◌>>=◌}
use Rattle.jobs.specs.Checks.{admitted_message, admitted_task, message_timely, name_taken, refused_if, task_timely}
use Rattle.jobs.specs.Jobs.{In, Jobs, Setting, message_name, task_name, task_named}
use Rattle.jobs.specs.Trips.{Trip}
use Rattle.jobs.proofs.Admitting.{failed_check, failed_last, failed_some, passed_check, passed_last, passed_some, past_check, past_last, past_some}
use Rattle.promise.specs.Offers.{EarlyMessage, EarlyTask, MessagePassed, TaskPassed}
use Rattle.promise.proofs.Lists.{apart_none, fresh_apart}
use Rattle.promise.proofs.Takes.{trip_is, trip_parts}

-- ---- names

module _ {X : Type 0} (name : X → ℕ) (n : ℕ) (xs : List X) where
  -- a name that is not taken is not 0, and no member's
  pub name_some : name_taken name n xs ≡ false → 0 < n
  name_some e = let z = (or_parts (eqb n 0) _ e).0 in grind (arith, nat_tests)

  pub name_fresh : name_taken name n xs ≡ false → (y : X) → In y xs → name y ≡ n → ⊥
  name_fresh e = fresh_apart name n xs (or_parts (eqb n 0) _ e).1

  -- and so is any other
  pub name_free : 0 < n → ((y : X) → In y xs → name y ≡ n → ⊥) → name_taken name n xs ≡ false
  name_free some fresh =
      let none : is_some (index_of name n xs) ≡ false = index_named name n xs ∙ ap is_some (apart_none name n xs fresh) in
      or_from _ _ (ne_eqb n 0 (λ e. omega (arith, e, some))) none

-- ---- tasks

module _ (g : Setting) (js : Jobs) (t : Task) where
  pub task_passes : admitted_task g.network.nodes js t ≡ Ok tt → TaskPassed g js t
  task_passes e =
      let a = passed_check (name_taken task_name t.name js.tasks) task_fault.Name _ tt e in
      let b = passed_check (leb g.network.nodes t.core) task_fault.Core _ tt a.1 in
      let c = passed_check (not (task_timely t)) task_fault.Times _ tt b.1 in
      let d = passed_last (leb 64 (length js.tasks)) task_fault.Full tt c.1 in
      let timely : task_timely t ≡ true = not-false (task_timely t) c.0 in
      record {
        named = name_some task_name t.name js.tasks a.0;
        fresh = name_fresh task_name t.name js.tasks a.0;
        on_core = leb-false _ _ b.0;
        some_period = grind (arith, nat_tests);
        short = grind (arith, nat_tests);
        some = grind (arith, nat_tests);
        narrow = grind (arith, nat_tests);
        fits = grind (arith, nat_tests);
        room = leb-false _ _ d;
      }

  passed_timely : TaskPassed g js t → task_timely t ≡ true
  passed_timely p =
      let a = p.some_period in
      let b = p.short in
      let c = p.some in
      let d = p.narrow in
      let e = p.fits in
      grind (arith, nat_tests)

  pub task_admitted : TaskPassed g js t → admitted_task g.network.nodes js t ≡ Ok tt
  task_admitted p =
      past_check (name_taken task_name t.name js.tasks) task_fault.Name _ (name_free task_name t.name js.tasks p.named p.fresh)
      ∙ past_check (leb g.network.nodes t.core) task_fault.Core _ (lt-leb g.network.nodes t.core p.on_core)
      ∙ past_check (not (task_timely t)) task_fault.Times _ (ap not (passed_timely p))
      ∙ past_last (leb 64 (length js.tasks)) task_fault.Full (lt-leb 64 (length js.tasks) p.room)

  -- what they answer else is an early fault
  pub task_early : (f : TaskFault) → admitted_task g.network.nodes js t ≡ Err f → EarlyTask f
  task_early f e = first (failed_check (name_taken task_name t.name js.tasks) task_fault.Name _ f e)
    where
      fourth : task_fault.Full ≡ f → EarlyTask f
      fourth is = subst EarlyTask is tt

      third : (task_fault.Times ≡ f) ⊎ (refused_if (leb 64 (length js.tasks)) task_fault.Full ≡ Err f) → EarlyTask f
      third (inl is) = subst EarlyTask is tt
      third (inr e) = fourth (failed_last (leb 64 (length js.tasks)) task_fault.Full f e)

      second : (task_fault.Core ≡ f) ⊎ ((refused_if (not (task_timely t)) task_fault.Times >>= (λ _. refused_if (leb 64 (length js.tasks)) task_fault.Full)) ≡ Err f) → EarlyTask f
      second (inl is) = subst EarlyTask is tt
      second (inr e) = third (failed_check (not (task_timely t)) task_fault.Times _ f e)

      first : (task_fault.Name ≡ f) ⊎ ((refused_if (leb g.network.nodes t.core) task_fault.Core >>= (λ _. refused_if (not (task_timely t)) task_fault.Times >>= (λ _. refused_if (leb 64 (length js.tasks)) task_fault.Full))) ≡ Err f)
          → EarlyTask f
      first (inl is) = subst EarlyTask is tt
      first (inr e) = second (failed_check (leb g.network.nodes t.core) task_fault.Core _ f e)

-- ---- messages

module _ (g : Setting) (js : Jobs) (m : Message) where
  abbrev with_route : Task → Task → List ℕ → Result Trip MessageFault
  with_route s d r = refused_if (leb 128 (length js.messages)) message_fault.Full >>= (λ _. Ok (record { source = s; destination = d; route = r }))

  abbrev with_times : Task → Task → Result Trip MessageFault
  with_times s d =
      refused_if (not (message_timely s m)) message_fault.Times
      >>= (λ _. ok_or (g.network.route s.core d.core) message_fault.NoRoute >>= with_route s d)

  abbrev with_source : Task → Result Trip MessageFault
  with_source s = ok_or (task_named js.tasks m.destination) message_fault.Ends >>= with_times s

  pub message_passes : (t : Trip) → admitted_message g js m ≡ Ok t → MessagePassed g js m t
  message_passes t e =
      let a = passed_check (name_taken message_name m.name js.messages) message_fault.Name _ t e in
      let s = passed_some (task_named js.tasks m.source) message_fault.Ends with_source t a.1 in
      let d = passed_some (task_named js.tasks m.destination) message_fault.Ends (with_times s.0) t s.2 in
      let c = passed_check (not (message_timely s.0 m)) message_fault.Times _ t d.2 in
      let r = passed_some (g.network.route s.0.core d.0.core) message_fault.NoRoute (with_route s.0 d.0) t c.1 in
      let f = passed_check (leb 128 (length js.messages)) message_fault.Full _ t r.2 in
      let same : ◌≡◌ {A = Trip} (record { source = s.0; destination = d.0; route = r.0 }) t = same_ok f.1 in
      let timely : message_timely s.0 m ≡ true = not-false (message_timely s.0 m) c.0 in
      let going = trip_is g.network (task_named js.tasks m.source) (task_named js.tasks m.destination) (record { source = s.0; destination = d.0; route = r.0 })
      (record { source = s.1; destination = d.1; along = r.1 }) in
      subst (MessagePassed g js m) same
      (record {
        named = name_some message_name m.name js.messages a.0;
        fresh = name_fresh message_name m.name js.messages a.0;
        going = going;
        kind = grind (arith, nat_tests);
        delay = grind (arith, nat_tests);
        some = grind (arith, nat_tests);
        fits = grind (arith, nat_tests);
        room = leb-false _ _ f.0;
      })
    where
      same_ok : {x y : Trip} → ◌≡◌ {A = Result Trip MessageFault} (Ok x) (Ok y) → x ≡ y
      same_ok e = cc

  pub passed_sent : (t : Trip) → MessagePassed g js m t → message_timely t.source m ≡ true
  passed_sent t p = let a = p.kind in let b = p.delay in let c = p.some in let d = p.fits in grind (arith, nat_tests)

  pub message_admitted : (t : Trip) → MessagePassed g js m t → admitted_message g js m ≡ Ok t
  message_admitted t p =
      let parts = trip_parts g.network (task_named js.tasks m.source) (task_named js.tasks m.destination) t p.going in
      past_check (name_taken message_name m.name js.messages) message_fault.Name _ (name_free message_name m.name js.messages p.named p.fresh)
      ∙ past_some (task_named js.tasks m.source) message_fault.Ends with_source t.source parts.source
      ∙ past_some (task_named js.tasks m.destination) message_fault.Ends (with_times t.source) t.destination parts.destination
      ∙ past_check (not (message_timely t.source m)) message_fault.Times _ (ap not (passed_sent t p))
      ∙ past_some (g.network.route t.source.core t.destination.core) message_fault.NoRoute (with_route t.source t.destination) t.route parts.along
      ∙ past_check (leb 128 (length js.messages)) message_fault.Full _ (lt-leb 128 (length js.messages) p.room)

  pub message_early : (f : MessageFault) → admitted_message g js m ≡ Err f → EarlyMessage f
  message_early f e = first (failed_check (name_taken message_name m.name js.messages) message_fault.Name _ f e)
    where
      sixth : (s d : Task) (r : List ℕ) → (message_fault.Full ≡ f) ⊎ (◌≡◌ {A = Result Trip MessageFault} (Ok (record { source = s; destination = d; route = r })) (Err f)) → EarlyMessage f
      sixth s d r (inl is) = subst EarlyMessage is tt
      sixth s d r (inr e) = cc

      fifth : (s d : Task) → (message_fault.NoRoute ≡ f) ⊎ ((r : List ℕ) × (with_route s d r ≡ Err f)) → EarlyMessage f
      fifth s d (inl is) = subst EarlyMessage is tt
      fifth s d (inr (r, e)) = sixth s d r (failed_check (leb 128 (length js.messages)) message_fault.Full _ f e)

      fourth : (s d : Task) → (message_fault.Times ≡ f) ⊎ ((ok_or (g.network.route s.core d.core) message_fault.NoRoute >>= with_route s d) ≡ Err f) → EarlyMessage f
      fourth s d (inl is) = subst EarlyMessage is tt
      fourth s d (inr e) = fifth s d (failed_some (g.network.route s.core d.core) message_fault.NoRoute (with_route s d) f e)

      third : (s : Task) → (message_fault.Ends ≡ f) ⊎ ((d : Task) × (with_times s d ≡ Err f)) → EarlyMessage f
      third s (inl is) = subst EarlyMessage is tt
      third s (inr (d, e)) = fourth s d (failed_check (not (message_timely s m)) message_fault.Times _ f e)

      second : (message_fault.Ends ≡ f) ⊎ ((s : Task) × (with_source s ≡ Err f)) → EarlyMessage f
      second (inl is) = subst EarlyMessage is tt
      second (inr (s, e)) = third s (failed_some (task_named js.tasks m.destination) message_fault.Ends (with_times s) f e)

      first : (message_fault.Name ≡ f) ⊎ ((ok_or (task_named js.tasks m.source) message_fault.Ends >>= with_source) ≡ Err f) → EarlyMessage f
      first (inl is) = subst EarlyMessage is tt
      first (inr e) = second (failed_some (task_named js.tasks m.source) message_fault.Ends with_source f e)
