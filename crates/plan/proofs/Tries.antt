-- What a load answers and leaves, by the offers that it tries.
use Rattle.std.proofs.Common.{◌≡◌, ℕ, zero, suc, ◌+◌, ◌-◌, ◌<◌, ◌⊎◌, ◌↔◌, ltb, List, [], ◌∷◌, length, map, Some, None, Ok, Err, Option, Result, sym, refl, ap, ◌∙◌, subst, inl, inr, ⊎_elim, arith, length-append}
use Rattle.std.specs.List.{slice_get}
use Rattle.std.specs.Option.{option_map}
use Rattle.std.specs.Result.{result_map_both}
use Rattle.std.proofs.lemmas.Bool.{cond-false, cond-true, le-ltb, lt-ltb}
use Rattle.std.proofs.lemmas.List.{length-map}
use Rattle.fabric.specs.Network.{IsFabric}
use Rattle.records.specs.declared.record.Task.{Task}
use Rattle.records.specs.declared.record.Message.{Message}
use Rattle.jobs.specs.Jobs.{In, IsHeld, Jobs, Setting, message_name, task_name, with_message, with_task}
use Rattle.jobs.specs.Offered.{joined, offer, refused}
use Rattle.jobs.specs.Rules.{message_refusal, offer_message, offer_task, offered, task_refusal}
use Rattle.jobs.specs.declared.fault.TaskFault.{TaskFault}
use Rattle.jobs.specs.declared.fault.MessageFault.{MessageFault}
use Rattle.jobs.specs.declared.job.Job.{Job}
use Rattle.jobs.specs.declared.job.Job.TheVariants as job
use Rattle.jobs.specs.declared.job.JobFault.{JobFault}
use Rattle.jobs.specs.declared.job.JobFault.TheVariants as job_fault
use Rattle.promise.specs.Clean.{Clean}
use Rattle.promise.proofs.Early.{message_answer, task_answer}
use Rattle.promise.proofs.Lists.{add_new, add_old, in_add, in_cases, in_here, in_nil, in_there}
use Rattle.plan.specs.After.{Leaves}
use Rattle.plan.specs.Loading.{counted, file_order, in_turn, job_part, load, loaded, on_taken, section_place}
use Rattle.plan.specs.Loads.{JobAnswer, JobMore, LoadLeft, LoadAnswer, OfRecord, PartAnswer, RefusedAt, Taken, Try, all_joined, file_place, if_taken, load_tries, named_record, part_records, tries}
use Rattle.plan.specs.declared.fault.LayoutFault.{LayoutFault}
use Rattle.plan.proofs.Loads.{job_taken}

-- ---- one offer

-- the offer of a job is that of a task or of a message
pub offer_task_is : (g : Setting) (js : Jobs) (t : Task) → offer g js (job.Task t) ≡ (result_map_both (λ u. u) job_fault.Task (offer_task g js t).0, (offer_task g js t).1)
offer_task_is g js t = go (task_refusal g.network.nodes js t)
  where
    go : (o : Option TaskFault) → offered (option_map job_fault.Task o) js (with_task js t)
        ≡ (result_map_both (λ u. u) job_fault.Task (offered o js (with_task js t)).0, (offered o js (with_task js t)).1)
    go None = refl
    go (Some e) = refl

pub offer_message_is : (g : Setting) (js : Jobs) (m : Message) → offer g js (job.Message m) ≡ (result_map_both (λ u. u) job_fault.Message (offer_message g js m).0, (offer_message g js m).1)
offer_message_is g js m = go (message_refusal g js m)
  where
    go : (o : Option MessageFault) → offered (option_map job_fault.Message o) js (with_message js m)
        ≡ (result_map_both (λ u. u) job_fault.Message (offered o js (with_message js m)).0, (offered o js (with_message js m)).1)
    go None = refl
    go (Some e) = refl

module _ (g : Setting) (fab : IsFabric g.network) where
  -- on a clean plan it is answered as promised
  pub job_answer : (js : Jobs) (x : Job) → Clean g js → JobAnswer g js x (offer g js x).0
  job_answer js (job.Task t) c = ((offer_task g js t).0, ap (λ r. r.0) (offer_task_is g js t), task_answer g js t c)
  job_answer js (job.Message m) c = ((offer_message g js m).0, ap (λ r. r.0) (offer_message_is g js m), message_answer g fab js m c)

  -- and leaves the plan clean
  after_offer : (js : Jobs) (x : Job) → Clean g js → Clean g (offer g js x).1
  after_offer js x c = go (refused g js x) refl
    where
      go : (o : Option JobFault) → refused g js x ≡ o → Clean g (offered o js (joined js x)).1
      go None e = job_taken g fab js x c e
      go (Some f) e = c

  inside : {T E : Type 0} (r : Result T E) (y : Try) (ys : List Try) → In y (if_taken r ys) → In y ys
  inside (Ok u) y ys i = i
  inside (Err e) y ys i = absurd (in_nil y i)

  -- each of the offers in turn is tried on a clean plan
  tries_exact : (js : Jobs) (xs : List Job) → Clean g js → (y : Try) → In y (tries g js xs) → JobAnswer g y.before y.job y.answer
  tries_exact js [] c y i = absurd (in_nil y i)
  tries_exact js (x ∷ xs) c y i =
      let first : Try = record { before = js; job = x; answer = (offer g js x).0 } in
      ⊎_elim (λ e. subst (λ z. JobAnswer g z.before z.job z.answer) (sym e) (job_answer js x c))
      (λ j. tries_exact (offer g js x).1 xs (after_offer js x c) y (inside (offer g js x).0 y (tries g (offer g js x).1 xs) j))
      (in_cases first y (if_taken (offer g js x).0 (tries g (offer g js x).1 xs)) i)

-- ---- one job more

-- a job more is held beside those before, and no other
grows : (js : Jobs) (x y : Job) → IsHeld (joined js x) y ↔ ((y ≡ x) ⊎ IsHeld js y)
grows js (job.Task t) (job.Task u) = (
  λ i. ⊎_elim (λ e. inl (ap job.Task e)) (λ j. inr j) (in_add task_name t u js.tasks i),
  ⊎_elim (λ e. let same : u ≡ t = cc in subst (λ z. In z (with_task js t).tasks) (sym same) (add_new task_name t js.tasks)) (λ i. add_old task_name t u js.tasks i),
)
grows js (job.Task t) (job.Message m) = (λ i. inr i, ⊎_elim (λ e. absurd cc) (λ i. i))
grows js (job.Message m) (job.Task t) = (λ i. inr i, ⊎_elim (λ e. absurd cc) (λ i. i))
grows js (job.Message m) (job.Message n) = (
  λ i. ⊎_elim (λ e. inl (ap job.Message e)) (λ j. inr j) (in_add message_name m n js.messages i),
  ⊎_elim (λ e. let same : n ≡ m = cc in subst (λ z. In z (with_message js m).messages) (sym same) (add_new message_name m js.messages)) (λ i. add_old message_name m n js.messages i),
)

-- an offer that is taken leaves a job more, and one that is refused leaves what was held
pub job_left : (g : Setting) (js : Jobs) (x : Job) → Leaves js (λ u. JobMore js x) (offer g js x).0 (offer g js x).1
job_left g js x = go (refused g js x)
  where
    go : (o : Option JobFault) → Leaves js (λ u. JobMore js x) (offered o js (joined js x)).0 (offered o js (joined js x)).1
    go None = grows js x
    go (Some f) = refl

-- jobs more are held beside those before, and no other
pub members_joined : (js : Jobs) (xs : List Job) (y : Job) → IsHeld (all_joined js xs) y ↔ (In y xs ⊎ IsHeld js y)
members_joined js [] y = (λ i. inr i, ⊎_elim (λ i. absurd (in_nil y i)) (λ i. i))
members_joined js (x ∷ xs) y =
    let r = members_joined (joined js x) xs y in (
      λ i. ⊎_elim (λ j. inl (in_there x y xs j)) (λ h. ⊎_elim (λ e. inl (in_here x y xs e)) (λ b. inr b) ((grows js x y).0 h)) (r.0 i),
      ⊎_elim (λ i. ⊎_elim (λ e. r.1 (inr ((grows js x y).1 (inl e)))) (λ j. r.1 (inl j)) (in_cases x y xs i)) (λ b. r.1 (inr ((grows js x y).1 (inr b)))),
    )

-- ---- offers in turn

module _ (g : Setting) where
  -- the first try, and what follows where it is taken
  abbrev begun : Option JobFault → Jobs → Job → List Job → List Try
  begun o js x xs = record { before = js; job = x; answer = (offered o js (joined js x)).0 } ∷ if_taken (offered o js (joined js x)).0 (tries g (offered o js (joined js x)).1 xs)

  -- the k-th try is the offer of record k, to what the records before it leave
  tries_of : (js : Jobs) (xs : List Job) (k : ℕ) (y : Try) → slice_get (tries g js xs) k ≡ Some y → OfRecord js xs k y
  tries_of js [] k y e = cc
  tries_of js (x ∷ xs) zero y e =
      let same : record { before = js; job = x; answer = (offer g js x).0 } ≡ y = cc in
      record { job = ap (λ (z : Try). Some z.job) same; before = sym (ap (λ (z : Try). z.before) same) }
  tries_of js (x ∷ xs) (suc k) y e = go (refused g js x) e (tries_of (joined js x) xs k y)
    where
      go : (o : Option JobFault) → slice_get (begun o js x xs) (suc k) ≡ Some y → (slice_get (tries g (joined js x) xs) k ≡ Some y → OfRecord (joined js x) xs k y) → OfRecord js (x ∷ xs) (suc k) y
      go None is next = let n = next is in record { job = n.job; before = n.before }
      go (Some f) is next = cc

  -- all but the last were taken
  before_last : (js : Jobs) (xs : List Job) (k : ℕ) (y : Try) → suc k < length (tries g js xs) → slice_get (tries g js xs) k ≡ Some y → y.answer ≡ Ok tt
  before_last js [] k y h e = cc
  before_last js (x ∷ xs) zero y h e = go (refused g js x) h e
    where
      go : (o : Option JobFault) → 1 < length (begun o js x xs) → slice_get (begun o js x xs) 0 ≡ Some y → y.answer ≡ Ok tt
      go None h is = let same : record { before = js; job = x; answer = Ok tt } ≡ y = cc in sym (ap (λ (z : Try). z.answer) same)
      go (Some f) h is = absurd (omega arith)
  before_last js (x ∷ xs) (suc k) y h e = go (refused g js x) h e (before_last (joined js x) xs k y)
    where
      go : (o : Option JobFault) → suc (suc k) < length (begun o js x xs) → slice_get (begun o js x xs) (suc k) ≡ Some y
          → (suc k < length (tries g (joined js x) xs) → slice_get (tries g (joined js x) xs) k ≡ Some y → y.answer ≡ Ok tt) → y.answer ≡ Ok tt
      go None h is next = next (omega arith) is
      go (Some f) h is next = absurd (omega arith)

  record EachTaken (xs : List Job) (ys : List Try) : Type 0 where
    as_many : length ys ≡ length xs
    each : (y : Try) → In y ys → y.answer ≡ Ok tt

  -- where offers in turn answer that all were taken, each was tried and taken
  each_taken : (js : Jobs) (k : ℕ) (xs : List Job) → (in_turn g js k xs).0 ≡ Ok tt → EachTaken xs (tries g js xs)
  each_taken js k [] e = record { as_many = refl; each = λ y i. absurd (in_nil y i) }
  each_taken js k (x ∷ xs) e = go (refused g js x) e (each_taken (joined js x) (k + 1) xs)
    where
      go : (o : Option JobFault) → (on_taken k o js (in_turn g (joined js x) (k + 1) xs)).0 ≡ Ok tt
          → ((in_turn g (joined js x) (k + 1) xs).0 ≡ Ok tt → EachTaken xs (tries g (joined js x) xs)) → EachTaken (x ∷ xs) (begun o js x xs)
      go None is next =
          let n = next is in
          record {
            as_many = let m = n.as_many in omega arith;
            each = λ y i. ⊎_elim (λ s. ap (λ (z : Try). z.answer) s) (λ j. n.each y j) (in_cases (record { before = js; job = x; answer = Ok tt }) y (tries g (joined js x) xs) i);
          }
      go (Some f) is next = cc

  -- and what is held then is what was held and all of them
  pub turn_joined : (js : Jobs) (k : ℕ) (xs : List Job) → (in_turn g js k xs).0 ≡ Ok tt → (in_turn g js k xs).1 ≡ all_joined js xs
  turn_joined js k [] e = refl
  turn_joined js k (x ∷ xs) e = go (refused g js x) e (turn_joined (joined js x) (k + 1) xs)
    where
      go : (o : Option JobFault) → (on_taken k o js (in_turn g (joined js x) (k + 1) xs)).0 ≡ Ok tt
          → ((in_turn g (joined js x) (k + 1) xs).0 ≡ Ok tt → (in_turn g (joined js x) (k + 1) xs).1 ≡ all_joined (joined js x) xs)
          → (on_taken k o js (in_turn g (joined js x) (k + 1) xs)).1 ≡ all_joined (joined js x) xs
      go None is next = next is
      go (Some f) is next = cc

  record LastRefused (k : ℕ) (ys : List Try) (p : ℕ × JobFault) : Type 0 where
    number : ℕ
    place : p.0 ≡ k + number
    try : Try
    at : slice_get ys number ≡ Some try
    why : refused g try.before try.job ≡ Some p.1
    answer : try.answer ≡ Err p.1
    last : length ys ≡ suc number

  -- where they answer a refusal, the last try, at its place, was refused for that
  last_refused : (js : Jobs) (k : ℕ) (xs : List Job) (p : ℕ × JobFault) → (in_turn g js k xs).0 ≡ Err p → LastRefused k (tries g js xs) p
  last_refused js k [] p e = cc
  last_refused js k (x ∷ xs) p e = go (refused g js x) refl e (last_refused (joined js x) (k + 1) xs p)
    where
      go : (o : Option JobFault) → refused g js x ≡ o → (on_taken k o js (in_turn g (joined js x) (k + 1) xs)).0 ≡ Err p
          → ((in_turn g (joined js x) (k + 1) xs).0 ≡ Err p → LastRefused (k + 1) (tries g (joined js x) xs) p) → LastRefused k (begun o js x xs) p
      go None why is next =
          let r = next is in
          record {
            number = suc r.number;
            place = (let a = r.place in omega arith);
            try = r.try;
            at = r.at;
            why = r.why;
            answer = r.answer;
            last = (let a = r.last in omega arith);
          }
      go (Some f) why is next =
          let same : ◌≡◌ {A = ℕ × JobFault} (k, f) p = cc in
          record {
            number = 0;
            place = (let a : p.0 ≡ k = sym (ap (λ q. q.0) same) in omega arith);
            try = record { before = js; job = x; answer = Err f };
            at = refl;
            why = why ∙ ap (λ q. Some q.1) same;
            answer = ap (λ q. Err q.1) same;
            last = refl;
          }

  -- ---- what is left

  -- the jobs of the taken tries join those held before, and no other
  turn_left : (js : Jobs) (k : ℕ) (xs : List Job) → LoadLeft (tries g js xs) js (in_turn g js k xs).1
  turn_left js k [] y = (λ i. inr i, ⊎_elim (λ t. absurd (in_nil t.0 t.1)) (λ i. i))
  turn_left js k (x ∷ xs) y = go (refused g js x) (turn_left (joined js x) (k + 1) xs y)
    where
      rest : List Try
      rest = tries g (joined js x) xs

      go : (o : Option JobFault) → IsHeld (in_turn g (joined js x) (k + 1) xs).1 y ↔ (Taken (tries g (joined js x) xs) y ⊎ IsHeld (joined js x) y)
          → IsHeld (on_taken k o js (in_turn g (joined js x) (k + 1) xs)).1 y ↔ (Taken (begun o js x xs) y ⊎ IsHeld js y)
      go None next =
          let first : Try = record { before = js; job = x; answer = Ok tt } in (
            λ i. ⊎_elim (λ t. inl (t.0, in_there first t.0 (tries g (joined js x) xs) t.1, t.2, t.3))
                (λ j. ⊎_elim (λ e. inl (first, in_here first first (tries g (joined js x) xs) refl, sym e, refl)) (λ b. inr b) ((grows js x y).0 j))
                (next.0 i),
            ⊎_elim
                (λ t. next.1 (⊎_elim (λ e. inr ((grows js x y).1 (inl (sym t.2 ∙ ap (λ (z : Try). z.job) e)))) (λ j. inl (t.0, j, t.2, t.3)) (in_cases first t.0 (tries g (joined js x) xs) t.1)))
                (λ i. next.1 (inr ((grows js x y).1 (inr i)))),
          )
      go (Some f) next =
          let first : Try = record { before = js; job = x; answer = Err f } in (
            λ i. inr i,
            ⊎_elim
                (λ t. ⊎_elim (λ e. let r : ◌≡◌ {A = Result (Unit {0}) JobFault} (Ok tt) (Err f) = sym t.3 ∙ ap (λ (z : Try). z.answer) e in absurd cc) (λ j. absurd (in_nil t.0 j)) (in_cases first t.0 [] t.1))
                (λ i. i),
          )

-- a load leaves held what was held and what its tries took
pub load_left : (g : Setting) (js : Jobs) (part : List ℕ) → LoadLeft (load_tries g js part) js (load g js part).1
load_left g js part = go (job_part part)
  where
    go : (o : Result (List Task × List Message) LayoutFault) → LoadLeft (tries g js (part_records o)) js (loaded g js o).1
    go (Err e) = turn_left g js 0 []
    go (Ok p) = turn_left g js 0 (file_order p)

-- ---- the record that a refusal names

-- a task of the file stands among its tasks at the same place
task_at : (ts : List Task) (ms : List Message) (n : ℕ) (t : Task) → slice_get (file_order (ts, ms)) n ≡ Some (job.Task t) → (n < length ts) × (slice_get ts n ≡ Some t)
task_at [] [] n t e = cc
task_at [] (m ∷ ms) zero t e = cc
task_at [] (m ∷ ms) (suc n) t e = let r = task_at [] ms n t e in absurd (omega (arith, r.0))
task_at (u ∷ ts) ms zero t e = let same : u ≡ t = cc in (omega arith, ap Some same)
task_at (u ∷ ts) ms (suc n) t e = let r = task_at ts ms n t e in (omega (arith, r.0), r.1)

-- a message stands among its messages, behind the tasks
message_at : (ts : List Task) (ms : List Message) (n : ℕ) (m : Message) → slice_get (file_order (ts, ms)) n ≡ Some (job.Message m)
    → (j : ℕ) × (n ≡ length ts + j) × (slice_get ms j ≡ Some m)
message_at [] [] n m e = cc
message_at [] (o ∷ ms) zero m e = let same : o ≡ m = cc in (0, omega arith, ap Some same)
message_at [] (o ∷ ms) (suc n) m e = let r = message_at [] ms n m e in (suc r.0, omega (arith, r.1), r.2)
message_at (t ∷ ts) ms zero m e = cc
message_at (t ∷ ts) ms (suc n) m e = let r = message_at ts ms n m e in (r.0, omega (arith, r.1), r.2)

-- a task is refused for a task's fault, and a message for a message's
not_message : (o : Option TaskFault) (f : MessageFault) → option_map job_fault.Task o ≡ Some (job_fault.Message f) → ⊥
not_message None f e = cc
not_message (Some x) f e = cc

not_task : (o : Option MessageFault) (f : TaskFault) → option_map job_fault.Message o ≡ Some (job_fault.Task f) → ⊥
not_task None f e = cc
not_task (Some x) f e = cc

-- the place of a refused record in its section leads back to it
place_back : (g : Setting) (ts : List Task) (ms : List Message) (before : Jobs) (x : Job) (e : JobFault) (n : ℕ)
    → slice_get (file_order (ts, ms)) n ≡ Some x → refused g before x ≡ Some e
    → (file_place ts (section_place (length ts) n) e ≡ n) × (named_record ts ms (section_place (length ts) n) e ≡ Some x)
place_back g ts ms before (job.Task t) (job_fault.Task f) n is why =
    let r = task_at ts ms n t is in
    let same : section_place (length ts) n ≡ n = cond-true (ltb n (length ts)) n (n - length ts) (lt-ltb n (length ts) r.0) in
    (same, ap (λ (k : ℕ). option_map job.Task (slice_get ts k)) same ∙ ap (option_map job.Task) r.1)
place_back g ts ms before (job.Message m) (job_fault.Message f) n is why =
    let r = message_at ts ms n m is in
    let same : section_place (length ts) n ≡ r.0 =
    cond-false (ltb n (length ts)) n (n - length ts) (le-ltb n (length ts) (omega (arith, r.1))) ∙ (let d : n - length ts ≡ r.0 = omega (arith, r.1) in d) in
    (ap (λ (k : ℕ). length ts + k) same ∙ sym r.1, ap (λ (k : ℕ). option_map job.Message (slice_get ms k)) same ∙ ap (option_map job.Message) r.2)
place_back g ts ms before (job.Task t) (job_fault.Message f) n is why = absurd (not_message (task_refusal g.network.nodes before t) f why)
place_back g ts ms before (job.Message m) (job_fault.Task f) n is why = absurd (not_task (message_refusal g before m) f why)

-- the offer that a refused load names is that of the record at the place in its section
refused_at : (g : Setting) (js : Jobs) (ts : List Task) (ms : List Message) (p : ℕ × JobFault) → (in_turn g js 0 (file_order (ts, ms))).0 ≡ Err p
    → RefusedAt (tries g js (file_order (ts, ms))) (Ok (ts, ms)) (section_place (length ts) p.0) p.1
refused_at g js ts ms p is =
    let ys = tries g js (file_order (ts, ms)) in
    let r = last_refused g js 0 (file_order (ts, ms)) p is in
    let first : p.0 ≡ r.number = omega (arith, r.place) in
    let of_record = tries_of g js (file_order (ts, ms)) r.number r.try r.at in
    let back = place_back g ts ms r.try.before r.try.job p.1 r.number of_record.job r.why in
    let same : section_place (length ts) p.0 ≡ section_place (length ts) r.number = ap (section_place (length ts)) first in
    let place : file_place ts (section_place (length ts) p.0) p.1 ≡ r.number = ap (λ (k : ℕ). file_place ts k p.1) same ∙ back.0 in
    record {
      tasks = ts;
      messages = ms;
      records = refl;
      try = r.try;
      at = subst (λ (k : ℕ). slice_get ys k ≡ Some r.try) (sym place) r.at;
      job = ap (λ (k : ℕ). named_record ts ms k p.1) same ∙ back.1;
      answer = r.answer;
      last = r.last ∙ ap suc (sym place);
    }

-- the load's answer, by its offers
pub load_told : (g : Setting) → IsFabric g.network → (js : Jobs) → Clean g js → (part : List ℕ) → LoadAnswer g js part (load g js part).0
load_told g fab js clean part =
    record {
      each = tries_of g js (part_records (job_part part));
      exact = tries_exact g fab js (part_records (job_part part)) clean;
      taken = before_last g js (part_records (job_part part));
      answer = go (job_part part);
    }
  where
    records : (p : List Task × List Message) (r : Result (Unit {0}) (ℕ × JobFault)) → (in_turn g js 0 (file_order p)).0 ≡ r → PartAnswer (tries g js (file_order p)) (Ok p) (counted p r)
    records p (Ok u) is =
        let a = each_taken g js 0 (file_order p) is in
        record {
          tasks = p.0;
          messages = p.1;
          records = refl;
          counts = (refl, refl);
          tried = (let n = a.as_many in omega (arith, length-append (map job.Task p.0) (map job.Message p.1), length-map p.0 job.Task, length-map p.1 job.Message));
          taken = a.each;
        }
    records p (Err q) is = refused_at g js p.0 p.1 q is

    go : (o : Result (List Task × List Message) LayoutFault) → PartAnswer (tries g js (part_records o)) o (loaded g js o).0
    go (Err e) = refl
    go (Ok p) = records p (in_turn g js 0 (file_order p)).0 refl
