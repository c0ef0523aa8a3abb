-- A load into a new plan that takes all jobs holds the jobs of the records, all of them and no other, each once.
use Rattle.std.proofs.Common.{◌≡◌, ℕ, ◌+◌, ◌↔◌, List, [], ◌∷◌, length, map, Ok, Err, Result, sym, refl, subst, inl, ⊎_elim, arith}
use Rattle.records.proofs.Places.{length_add}
use Rattle.records.specs.declared.record.Task.{Task}
use Rattle.records.specs.declared.record.Message.{Message}
use Rattle.refusals.specs.declared.refusal.Counts.{Counts}
use Rattle.jobs.specs.Jobs.{In, Jobs, Setting, message_name, nothing, task_name}
use Rattle.jobs.specs.Offered.{joined}
use Rattle.jobs.specs.declared.job.Job.TheVariants as job
use Rattle.jobs.specs.declared.job.JobFault.{JobFault}
use Rattle.promise.proofs.Lists.{append_in, in_left, in_map, in_nil, in_right, map_in}
use Rattle.plan.specs.Loading.{counted, file_order, in_turn, job_part, load, loaded}
use Rattle.plan.specs.Loads.{all_joined}
use Rattle.plan.specs.declared.fault.LayoutFault.{LayoutFault}
use Rattle.plan.proofs.Tries.{members_joined, turn_joined}

-- ---- how many are held

-- so many more are held, of each kind
joined_tasks : (js : Jobs) (ts : List Task) (ms : List Message) → length (all_joined js (file_order (ts, ms))).tasks ≡ length js.tasks + length ts
joined_tasks js [] [] = omega arith
joined_tasks js [] (m ∷ ms) = joined_tasks (joined js (job.Message m)) [] ms
joined_tasks js (t ∷ ts) ms = omega (arith, joined_tasks (joined js (job.Task t)) ts ms, length_add task_name t js.tasks)

joined_messages : (js : Jobs) (ts : List Task) (ms : List Message) → length (all_joined js (file_order (ts, ms))).messages ≡ length js.messages + length ms
joined_messages js [] [] = omega arith
joined_messages js [] (m ∷ ms) = omega (arith, joined_messages (joined js (job.Message m)) [] ms, length_add message_name m js.messages)
joined_messages js (t ∷ ts) ms = joined_messages (joined js (job.Task t)) ts ms

-- ---- a load

-- what a load that takes all jobs read, and what is held after it
pub record Taken (part : List ℕ) (n : Counts) (after : Jobs) : Type 0 where
  pub tasks : List Task
  pub messages : List Message
  pub records : job_part part ≡ Ok (tasks, messages)
  pub all_tasks : (t : Task) → In t after.tasks ↔ In t tasks
  pub all_messages : (m : Message) → In m after.messages ↔ In m messages
  pub each_once : (length after.tasks ≡ length tasks) × (length after.messages ≡ length messages)
  pub counts : n ≡ record { tasks = length tasks; messages = length messages }

module _ (ts : List Task) (ms : List Message) where
  -- the records of a part are its tasks and its messages
  task_record : (t : Task) → In (job.Task t) (file_order (ts, ms)) ↔ In t ts
  task_record t = (
    λ i. ⊎_elim (λ a. let k = map_in job.Task (job.Task t) ts a in let same : k.0 ≡ t = cc in subst (λ u. In u ts) same k.1)
        (λ b. let k = map_in job.Message (job.Task t) ms b in let e = k.2 in absurd cc)
        (append_in (job.Task t) (map job.Task ts) (map job.Message ms) i),
    λ i. in_left (job.Task t) (map job.Task ts) (map job.Message ms) (in_map job.Task t ts i),
  )

  message_record : (m : Message) → In (job.Message m) (file_order (ts, ms)) ↔ In m ms
  message_record m = (
    λ i. ⊎_elim (λ a. let k = map_in job.Task (job.Message m) ts a in let e = k.2 in absurd cc)
        (λ b. let k = map_in job.Message (job.Message m) ms b in let same : k.0 ≡ m = cc in subst (λ u. In u ms) same k.1)
        (append_in (job.Message m) (map job.Task ts) (map job.Message ms) i),
    λ i. in_right (job.Message m) (map job.Task ts) (map job.Message ms) (in_map job.Message m ms i),
  )

  -- joined to nothing, they are all that is held
  task_held : (t : Task) → In t (all_joined nothing (file_order (ts, ms))).tasks ↔ In t ts
  task_held t =
      let r = members_joined nothing (file_order (ts, ms)) (job.Task t) in (
        λ i. (task_record t).0 (⊎_elim (λ k. k) (λ n. absurd (in_nil t n)) (r.0 i)),
        λ i. r.1 (inl ((task_record t).1 i)),
      )

  message_held : (m : Message) → In m (all_joined nothing (file_order (ts, ms))).messages ↔ In m ms
  message_held m =
      let r = members_joined nothing (file_order (ts, ms)) (job.Message m) in (
        λ i. (message_record m).0 (⊎_elim (λ k. k) (λ n. absurd (in_nil m n)) (r.0 i)),
        λ i. r.1 (inl ((message_record m).1 i)),
      )

module _ (g : Setting) (part : List ℕ) (n : Counts) where
  pub load_taken : (load g nothing part).0 ≡ Ok n → Taken part n (load g nothing part).1
  load_taken is = go (job_part part) refl is
    where
      records : (p : List Task × List Message) → job_part part ≡ Ok p → (r : Result (Unit {0}) (ℕ × JobFault)) → (in_turn g nothing 0 (file_order p)).0 ≡ r
          → counted p r ≡ Ok n → Taken part n (in_turn g nothing 0 (file_order p)).1
      records p read (Err q) t e = cc
      records p read (Ok u) t e =
          subst (Taken part n) (sym (turn_joined g nothing 0 (file_order p) t))
          (record {
            tasks = p.0;
            messages = p.1;
            records = read;
            all_tasks = task_held p.0 p.1;
            all_messages = message_held p.0 p.1;
            each_once = (omega (arith, joined_tasks nothing p.0 p.1), omega (arith, joined_messages nothing p.0 p.1));
            counts = cc;
          })

      go : (o : Result (List Task × List Message) LayoutFault) → job_part part ≡ o → (loaded g nothing o).0 ≡ Ok n → Taken part n (loaded g nothing o).1
      go (Err e) read i = cc
      go (Ok p) read i = records p read (in_turn g nothing 0 (file_order p)).0 refl i
