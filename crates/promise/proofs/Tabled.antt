-- What an insertion and a removal leave in a table with the others beside it.
use Rattle.std.proofs.Common.{◌≡◌, ℕ, ◌<◌, true, false, ltb, List, length, None, Ok, Err, Result, is_ok, MatchResult, ap, ◌∙◌}
use Rattle.std.proofs.lemmas.Bool.{lt-ltb}
use Rattle.records.specs.Named.{add, without}
use Rattle.records.specs.Tables.{held}
use Rattle.records.specs.declared.record.Task.{Task}
use Rattle.records.specs.declared.record.Message.{Message}
use Rattle.records.specs.declared.tables.Full.{Full}
use Rattle.records.specs.declared.tables.Table.{Table}
use Rattle.jobs.specs.Jobs.{Setting, message_name, task_name, with_message, with_task, without_message, without_task}
use Rattle.jobs.specs.Rules.{message_refusal, task_refusal}
use Rattle.promise.specs.Tabled.{tabled}
use Rattle.promise.proofs.Room.{message_room, task_room}

-- where there is room, the insertion is not refused
inserted : {R : Type 0} (after : List R) (r : Result (Unit {0}) Full) (n most : ℕ) (now before : List R) (Same : Type 0) → n < most → is_ok r ≡ ltb n most
    → MatchResult r (λ _. now ≡ after) (λ _. Same) → now ≡ after
inserted after (Ok u) n most now before Same room answer kept = kept
inserted after (Err e) n most now before Same room answer kept = let no : false ≡ true = answer ∙ lt-ltb n most room in absurd cc

pub task_in : (g : Setting) (old new : Table Task 64) (ms : Table Message 128) (t : Task) (r : Result (Unit {0}) Full)
    → task_refusal g.network.nodes (tabled old ms) t ≡ None → is_ok r ≡ ltb (length (held old)) 64
    → MatchResult r (λ _. held new ≡ add task_name t (held old)) (λ _. new ≡ old) → tabled new ms ≡ with_task (tabled old ms) t
task_in g old new ms t r none answer kept =
    ap (λ l. record { tasks = l; messages = held ms })
    (inserted (add task_name t (held old)) r (length (held old)) 64 (held new) (held old) (new ≡ old) (task_room g (tabled old ms) t none) answer kept)

pub message_in : (g : Setting) (ts : Table Task 64) (old new : Table Message 128) (m : Message) (r : Result (Unit {0}) Full)
    → message_refusal g (tabled ts old) m ≡ None → is_ok r ≡ ltb (length (held old)) 128
    → MatchResult r (λ _. held new ≡ add message_name m (held old)) (λ _. new ≡ old) → tabled ts new ≡ with_message (tabled ts old) m
message_in g ts old new m r none answer kept =
    ap (λ l. record { tasks = held ts; messages = l })
    (inserted (add message_name m (held old)) r (length (held old)) 128 (held new) (held old) (new ≡ old) (message_room g (tabled ts old) m none) answer kept)

pub task_out : (old new : Table Task 64) (ms : Table Message 128) (n : ℕ) → held new ≡ without task_name n (held old) → tabled new ms ≡ without_task (tabled old ms) n
task_out old new ms n e = ap (λ l. record { tasks = l; messages = held ms }) e

pub message_out : (ts : Table Task 64) (old new : Table Message 128) (n : ℕ) → held new ≡ without message_name n (held old) → tabled ts new ≡ without_message (tabled ts old) n
message_out ts old new n e = ap (λ l. record { tasks = held ts; messages = l }) e
