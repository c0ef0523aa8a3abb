-- Held names stay within two bytes: an offer or a placing adds a job with the name of its argument, a dropping adds none, and a load
-- adds jobs whose names were read from two bytes.
use Rattle.std.proofs.Common.{◌≡◌, ℕ, zero, suc, ◌+◌, ◌*◌, ◌/◌, ◌≤◌, eqb, ltb, List, [], ◌∷◌, length, map, take, drop, is_some, Some, None, Ok, Err, Option, Result, slice_index, sym, refl, subst, ⊎_elim, arith}
use Rattle.std.proofs.lemmas.Bool.{cond_both}
use Rattle.records.specs.Bytes.{Bytes, be}
use Rattle.records.specs.Forms.{message_in, message_of, task_in, task_of}
use Rattle.records.specs.Named.{index_of}
use Rattle.records.specs.Sections.{cut_of, fitting, in_front, read_from, record_at, record_bytes, section_records}
use Rattle.records.specs.Unique.{chosen}
use Rattle.records.specs.declared.record.Task.{Task}
use Rattle.records.specs.declared.record.Message.{Message}
use Rattle.jobs.specs.declared.fault.DropFault.{DropFault}
use Rattle.jobs.specs.declared.open.OpenTask.{OpenTask}
use Rattle.jobs.specs.declared.open.OpenMessage.{OpenMessage}
use Rattle.jobs.specs.Checks.{admitted_message, admitted_task}
use Rattle.promise.proofs.Kept.{offered_kept, placed_kept}
use Rattle.jobs.specs.Drops.{drop_message, drop_task, in_use}
use Rattle.jobs.specs.Jobs.{In, Jobs, Setting, message_name, nothing, task_name, with_message, with_task}
use Rattle.jobs.specs.Offered.{joined, refused}
use Rattle.jobs.specs.declared.job.Job.{Job}
use Rattle.jobs.specs.declared.job.Job.TheVariants as job
use Rattle.jobs.specs.declared.job.JobFault.{JobFault}
use Rattle.jobs.specs.Open.{message_at, task_at}
use Rattle.jobs.specs.Placings.{first_delay, first_phase, place_message, place_task}
use Rattle.jobs.specs.Rules.{message_refusal, offer_message, offer_task, task_refusal}
use Rattle.plan.specs.Loading.{both_read, file_order, in_turn, job_part, load, loaded, messages_cut, on_taken, tasks_cut}
use Rattle.plan.specs.declared.fault.LayoutFault.{LayoutFault}
use Rattle.promise.specs.Canonical.{ShortNames}
use Rattle.promise.proofs.Lists.{append_in, in_add, in_cases, in_here, in_nil, in_there, map_in, without_in}

-- the name of a task fits in two bytes, and that of a message
abbrev ShortTask : Task → Type 0
ShortTask t = t.name ≤ 65535

abbrev ShortMessage : Message → Type 0
ShortMessage m = m.name ≤ 65535

-- ---- one job more, one job less

pub nothing_short : ShortNames nothing
nothing_short = record { tasks = λ t i. absurd (in_nil t i); messages = λ m i. absurd (in_nil m i) }

pub task_short : (js : Jobs) (t : Task) → t.name ≤ 65535 → ShortNames js → ShortNames (with_task js t)
task_short js t fits here =
    record {
      tasks = λ u i. ⊎_elim (λ e. subst ShortTask (sym e) fits) (λ j. here.tasks u j) (in_add task_name t u js.tasks i);
      messages = here.messages;
    }

pub message_short : (js : Jobs) (m : Message) → m.name ≤ 65535 → ShortNames js → ShortNames (with_message js m)
message_short js m fits here =
    record {
      tasks = here.tasks;
      messages = λ o i. ⊎_elim (λ e. subst ShortMessage (sym e) fits) (λ j. here.messages o j) (in_add message_name m o js.messages i);
    }

pub drop_task_short : (js : Jobs) (n : ℕ) → ShortNames js → ShortNames (drop_task js n).1
drop_task_short js n here =
    cond_both (is_some (index_of task_name n js.tasks)) _ _ (λ (x : Result (Unit {0}) DropFault × Jobs). ShortNames x.1)
    (λ _. cond_both (in_use n js.messages) _ _ (λ (x : Result (Unit {0}) DropFault × Jobs). ShortNames x.1)
    (λ _. here)
    (λ _. record { tasks = λ t i. here.tasks t (without_in task_name n t js.tasks i); messages = here.messages }))
    (λ _. here)

pub drop_message_short : (js : Jobs) (n : ℕ) → ShortNames js → ShortNames (drop_message js n).1
drop_message_short js n here =
    cond_both (is_some (index_of message_name n js.messages)) _ _ (λ (x : Result (Unit {0}) DropFault × Jobs). ShortNames x.1)
    (λ _. record { tasks = here.tasks; messages = λ m i. here.messages m (without_in message_name n m js.messages i) })
    (λ _. here)

-- ---- offers and placings

module _ (g : Setting) where
  pub offer_task_short : (js : Jobs) (t : Task) → t.name ≤ 65535 → ShortNames js → ShortNames (offer_task g js t).1
  offer_task_short js t fits here = offered_kept ShortNames (task_refusal g.network.nodes js t) js (with_task js t) here (λ _. task_short js t fits here)

  pub offer_message_short : (js : Jobs) (m : Message) → m.name ≤ 65535 → ShortNames js → ShortNames (offer_message g js m).1
  offer_message_short js m fits here = offered_kept ShortNames (message_refusal g js m) js (with_message js m) here (λ _. message_short js m fits here)

  pub place_task_short : (js : Jobs) (t : OpenTask) → t.name ≤ 65535 → ShortNames js → ShortNames (place_task g js t).1
  place_task_short js t fits here =
      placed_kept ShortNames js (λ v. with_task js (task_at t v)) (admitted_task g.network.nodes js (task_at t 0)) (first_phase g js t) here (λ v _. task_short js (task_at t v) fits here)

  pub place_message_short : (js : Jobs) (m : OpenMessage) → m.name ≤ 65535 → ShortNames js → ShortNames (place_message g js m).1
  place_message_short js m fits here =
      placed_kept ShortNames js (λ v. with_message js (message_at m v)) (admitted_message g js (message_at m 0)) (first_delay g js m) here (λ v _. message_short js (message_at m v) fits here)

-- ---- names that are read

-- parts of a list of bytes are bytes
bytes_take : (n : ℕ) (bs : List ℕ) → Bytes bs → Bytes (take n bs)
bytes_take zero bs h i = omega arith
bytes_take (suc n) [] h i = omega arith
bytes_take (suc n) (b ∷ bs) h zero = h 0
bytes_take (suc n) (b ∷ bs) h (suc i) = bytes_take n bs (λ j. h (suc j)) i

bytes_drop : (n : ℕ) (bs : List ℕ) → Bytes bs → Bytes (drop n bs)
bytes_drop zero bs h = h
bytes_drop (suc n) [] h = h
bytes_drop (suc n) (b ∷ bs) h = bytes_drop n bs (λ j. h (suc j))

-- two bytes write at most 65,535
two_short : (bs : List ℕ) → Bytes bs → (0 + slice_index bs 0) * 256 + slice_index bs 1 ≤ 65535
two_short bs h = omega (arith, h 0, h 1)

task_read : (bs : List ℕ) (t : Task) → Bytes bs → task_of bs ≡ Some t → ShortTask t
task_read bs t h e = subst ShortTask (chosen (eqb (slice_index bs 3) 0) (task_in bs) t e).1 (two_short bs h)

message_read : (bs : List ℕ) (m : Message) → Bytes bs → message_of bs ≡ Some m → ShortMessage m
message_read bs m h e = subst ShortMessage (chosen _ (message_in bs) m e).1 (two_short bs h)

-- where records were read, each of them has Q
abbrev AllRead : {R : Type 0} → (R → Type 0) → Result (List R) ℕ → Type 0
AllRead {R = R} Q (Ok xs) = (x : R) → In x xs → Q x
AllRead Q (Err k) = Unit {0}

module _ {R : Type 0} (Q : R → Type 0) where
  front_read : (k : ℕ) (o : Option R) (rest : Result (List R) ℕ) → ((x : R) → o ≡ Some x → Q x) → AllRead Q rest → AllRead Q (in_front k o rest)
  front_read k None rest one all = tt
  front_read k (Some x) (Ok xs) one all = λ y i. ⊎_elim (λ e. subst Q (sym e) (one x refl)) (λ j. all y j) (in_cases x y xs i)
  front_read k (Some x) (Err j) one all = tt

  all_read : (at : ℕ → Option R) → ((k : ℕ) (x : R) → at k ≡ Some x → Q x) → (k m : ℕ) → AllRead Q (read_from at k m)
  all_read at each k zero = λ x i. absurd (in_nil x i)
  all_read at each k (suc m) = front_read k (at k) (read_from at (k + 1) m) (each k) (all_read at each (k + 1) m)

  -- what each record read from bytes has, each record of a section of bytes has
  section_read : (parsed : List ℕ → Option R) → ((bs : List ℕ) (x : R) → Bytes bs → parsed bs ≡ Some x → Q x) → (bs : List ℕ) → Bytes bs → AllRead Q (section_records parsed 16 bs)
  section_read parsed each bs h =
      all_read (record_at parsed 16 bs)
      (λ k x. cond_both (ltb k (length bs / 16)) (parsed (record_bytes 16 bs k)) None (λ o. o ≡ Some x → Q x)
      (λ _ is. each (record_bytes 16 bs k) x (bytes_take 16 (drop (k * 16) bs) (bytes_drop (k * 16) bs h)) is)
      (λ _ is. cc))
      0 (length bs / 16)

-- a section that was cut off, and the rest, are bytes
abbrev CutBytes : Result (List ℕ × List ℕ) ℕ → Type 0
CutBytes (Ok p) = Bytes p.0 × Bytes p.1
CutBytes (Err k) = Unit {0}

cut_bytes : (file : List ℕ) → Bytes file → CutBytes (cut_of 16 file)
cut_bytes file h =
    cond_both (ltb (length file) 2) _ _ CutBytes (λ _. tt)
    (λ _. cond_both (ltb (fitting 16 file) (be 2 file 0)) _ _ CutBytes (λ _. tt)
    (λ _. (bytes_take (be 2 file 0 * 16) (drop 2 file) (bytes_drop 2 file h), bytes_drop (2 + be 2 file 0 * 16) file h)))

-- the names of a job part that was read fit in two bytes
abbrev PartShort : Result (List Task × List Message) LayoutFault → Type 0
PartShort (Ok p) = ((t : Task) → In t p.0 → ShortTask t) × ((m : Message) → In m p.1 → ShortMessage m)
PartShort (Err e) = Unit {0}

both_short : (ts : Result (List Task) ℕ) (ms : Result (List Message) ℕ) → AllRead ShortTask ts → AllRead ShortMessage ms → PartShort (both_read ts ms)
both_short (Err k) ms a b = tt
both_short (Ok ts) (Err k) a b = tt
both_short (Ok ts) (Ok ms) a b = (a, b)

messages_short : (tasks : List ℕ) → Bytes tasks → (r : Result (List ℕ × List ℕ) ℕ) → CutBytes r → PartShort (messages_cut tasks r)
messages_short tasks h (Err k) c = tt
messages_short tasks h (Ok p) c =
    cond_both (eqb (length p.1) 0) _ _ PartShort
    (λ _. both_short (section_records task_of 16 tasks) (section_records message_of 16 p.0)
    (section_read ShortTask task_of task_read tasks h) (section_read ShortMessage message_of message_read p.0 c.0))
    (λ _. tt)

tasks_short : (r : Result (List ℕ × List ℕ) ℕ) → CutBytes r → PartShort (tasks_cut r)
tasks_short (Err k) c = tt
tasks_short (Ok p) c = messages_short p.0 c.0 (cut_of 16 p.1) (cut_bytes p.1 c.1)

-- ---- loads

-- the name of a job fits in two bytes
abbrev ShortJob : Job → Type 0
ShortJob (job.Task t) = ShortTask t
ShortJob (job.Message m) = ShortMessage m

job_short : (js : Jobs) (x : Job) → ShortJob x → ShortNames js → ShortNames (joined js x)
job_short js (job.Task t) fits here = task_short js t fits here
job_short js (job.Message m) fits here = message_short js m fits here

-- offers of jobs with such names in turn keep the names within two bytes
turn_short : (g : Setting) (js : Jobs) (k : ℕ) (xs : List Job) → ((x : Job) → In x xs → ShortJob x) → ShortNames js → ShortNames (in_turn g js k xs).1
turn_short g js k [] all here = here
turn_short g js k (x ∷ xs) all here =
    go (refused g js x) (turn_short g (joined js x) (k + 1) xs (λ y i. all y (in_there x y xs i)) (job_short js x (all x (in_here x x xs refl)) here))
  where
    go : (o : Option JobFault) → ShortNames (in_turn g (joined js x) (k + 1) xs).1 → ShortNames (on_taken k o js (in_turn g (joined js x) (k + 1) xs)).1
    go None next = next
    go (Some e) next = here

-- the records of a part whose names are short are jobs whose names are
all_short : (p : List Task × List Message) → PartShort (Ok p) → (x : Job) → In x (file_order p) → ShortJob x
all_short p all x i =
    ⊎_elim (λ a. let k = map_in job.Task x p.0 a in subst ShortJob k.2 (all.0 k.0 k.1))
    (λ b. let k = map_in job.Message x p.1 b in subst ShortJob k.2 (all.1 k.0 k.1))
    (append_in x (map job.Task p.0) (map job.Message p.1) i)

-- a load of bytes offers jobs whose names were read from two bytes
pub load_short : (g : Setting) (js : Jobs) (part : List ℕ) → Bytes part → ShortNames js → ShortNames (load g js part).1
load_short g js part bytes here = go (job_part part) (tasks_short (cut_of 16 part) (cut_bytes part bytes))
  where
    go : (o : Result (List Task × List Message) LayoutFault) → PartShort o → ShortNames (loaded g js o).1
    go (Err e) all = here
    go (Ok p) all = turn_short g js 0 (file_order p) (all_short p all) here
