-- What a dropping answers, by who is held and who names whom.
use Rattle.std.proofs.Common.{◌≡◌, ℕ, Bool, true, false, cond, eqb, ◌⊎◌, List, [], ◌∷◌, is_some, Some, None, Ok, Err, Option, Result, sym, refl, ◌∙◌, subst, inl, inr, ⊎_elim}
use Rattle.std.proofs.lemmas.Bool.{both_ways, eq-eqb, eqb-true, or_cases, or_left, or_right}
use Rattle.records.specs.Named.{named, index_of}
use Rattle.records.proofs.Places.{index_named}
use Rattle.records.specs.declared.record.Message.{Message}
use Rattle.jobs.specs.declared.fault.DropFault.{DropFault}
use Rattle.jobs.specs.declared.fault.DropFault.TheVariants.{InUse, Unknown}
use Rattle.jobs.specs.Drops.{drop_message, drop_task, in_use, names_task}
use Rattle.jobs.specs.Jobs.{In, Jobs, message_name, task_name, without_message, without_task}
use Rattle.promise.specs.Droppings.{MessageDropped, TaskDropped}
use Rattle.promise.proofs.Lists.{fresh_apart, in_cases, in_nil, in_there, named_in}

-- a place that a name has is a member's
held_index : {X : Type 0} (name : X → ℕ) (n : ℕ) (xs : List X) → is_some (index_of name n xs) ≡ true → (x : X) × In x xs × (name x ≡ n)
held_index {X = X} name n xs e = go (named name n xs) refl (sym (index_named name n xs) ∙ e)
  where
    go : (o : Option X) → named name n xs ≡ o → is_some o ≡ true → (x : X) × In x xs × (name x ≡ n)
    go None is x = cc
    go (Some y) is x = let k = named_in name n y xs is in (y, k.0, k.1)

-- a message names a task where the test says so
naming : (n : ℕ) (m : Message) → names_task n m ≡ true → (m.source ≡ n) ⊎ (m.destination ≡ n)
naming n m e = ⊎_elim (λ a. inl (eqb-true m.source n a)) (λ b. inr (eqb-true m.destination n b)) (or_cases (eqb m.source n) (eqb m.destination n) e)

named_so : (n : ℕ) (m : Message) → (m.source ≡ n) ⊎ (m.destination ≡ n) → names_task n m ≡ true
named_so n m (inl a) = or_left (eqb m.source n) (eqb m.destination n) (eq-eqb m.source n a)
named_so n m (inr b) = or_right (eqb m.source n) (eqb m.destination n) (eq-eqb m.destination n b)

used : (n : ℕ) (ms : List Message) → in_use n ms ≡ true → (m : Message) × In m ms × ((m.source ≡ n) ⊎ (m.destination ≡ n))
used n [] e = cc
used n (m ∷ ms) e = ⊎_elim (λ a. (m, (0, refl), naming n m a)) (λ b. later (used n ms b)) (or_cases (names_task n m) (in_use n ms) e)
  where
    later : (o : Message) × In o ms × ((o.source ≡ n) ⊎ (o.destination ≡ n)) → (o : Message) × In o (m ∷ ms) × ((o.source ≡ n) ⊎ (o.destination ≡ n))
    later (o, i, x) = (o, in_there m o ms i, x)

in_used : (n : ℕ) (ms : List Message) (m : Message) → In m ms → (m.source ≡ n) ⊎ (m.destination ≡ n) → in_use n ms ≡ true
in_used n [] m i x = absurd (in_nil m i)
in_used n (o ∷ ms) m i x =
    ⊎_elim (λ e. or_left (names_task n o) (in_use n ms) (subst (λ y. names_task n y ≡ true) e (named_so n m x)))
    (λ j. or_right (names_task n o) (in_use n ms) (in_used n ms m j x)) (in_cases o m ms i)

pub task_dropping : (js : Jobs) (n : ℕ) → TaskDropped js n (drop_task js n).0
task_dropping js n = go (is_some (index_of task_name n js.tasks)) refl (in_use n js.messages) refl
  where
    go : (b : Bool) → is_some (index_of task_name n js.tasks) ≡ b → (u : Bool) → in_use n js.messages ≡ u
        → TaskDropped js n (cond {A = Result (Unit {0}) DropFault × Jobs} b (cond u (Err InUse, js) (Ok tt, without_task js n)) (Err Unknown, js)).0
    go true eb true eu =
        record {
          unknown = (λ e. cc, λ never. absurd (never (held_index task_name n js.tasks eb)));
          in_use = (λ e. (held_index task_name n js.tasks eb, used n js.messages eu), λ x. refl);
        }
    go true eb false eu =
        record {
          unknown = (λ e. cc, λ never. absurd (never (held_index task_name n js.tasks eb)));
          in_use = (λ e. cc, λ x. absurd (both_ways (in_use n js.messages) eu (in_used n js.messages x.1.0 x.1.1 x.1.2)));
        }
    go false eb u eu =
        record {
          unknown = (λ e x. fresh_apart task_name n js.tasks eb x.0 x.1 x.2, λ never. refl);
          in_use = (λ e. cc, λ x. absurd (fresh_apart task_name n js.tasks eb x.0.0 x.0.1 x.0.2));
        }

pub message_dropping : (js : Jobs) (n : ℕ) → MessageDropped js n (drop_message js n).0
message_dropping js n = go (is_some (index_of message_name n js.messages)) refl
  where
    go : (b : Bool) → is_some (index_of message_name n js.messages) ≡ b → MessageDropped js n (cond {A = Result (Unit {0}) DropFault × Jobs} b (Ok tt, without_message js n) (Err Unknown, js)).0
    go true eb =
        record {
          unknown = (λ e. cc, λ never. absurd (never (held_index message_name n js.messages eb)));
          free = λ e. cc;
        }
    go false eb =
        record {
          unknown = (λ e x. fresh_apart message_name n js.messages eb x.0 x.1 x.2, λ never. refl);
          free = λ e. cc;
        }
