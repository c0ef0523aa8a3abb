-- The jobs of a clean plan, offered in the order of their names, are all taken.
use Rattle.std.proofs.Common.{◌≡◌, ℕ, ◌+◌, ◌<◌, ◌≤◌, true, List, [], ◌∷◌, ◌++◌, length, map, Some, None, Ok, Err, Option, Result, sym, refl, ap, ◌∙◌, subst, append_assoc, arith, length-append}
use Rattle.std.proofs.lemmas.List.{append-nil}
use Rattle.std.specs.Option.{option_map}
use Rattle.fabric.specs.Network.{IsFabric}
use Rattle.records.specs.Named.{add, ascends}
use Rattle.records.specs.declared.record.Task.{Task}
use Rattle.records.specs.declared.record.Message.{Message}
use Rattle.jobs.specs.Jobs.{In, Jobs, Setting, message_name, nothing, task_name, with_message, with_task}
use Rattle.jobs.specs.Offered.{joined, refused}
use Rattle.jobs.specs.declared.job.Job.{Job}
use Rattle.jobs.specs.declared.job.Job.TheVariants as job
use Rattle.jobs.specs.declared.job.JobFault.{JobFault}
use Rattle.jobs.specs.declared.job.JobFault.TheVariants as job_fault
use Rattle.jobs.specs.Rules.{message_refusal, offered, task_refusal}
use Rattle.plan.specs.Held.{counts_of}
use Rattle.plan.specs.Loading.{counted, in_turn, loaded, on_taken}
use Rattle.promise.specs.Canonical.{Canonical}
use Rattle.promise.specs.Clean.{Clean, Distinct, MessageMade, Safe}
use Rattle.promise.specs.Offers.{MessagePassed, Refused, TaskPassed}
use Rattle.promise.proofs.Ascending.{add_last, ascends_below, distinct_left}
use Rattle.promise.proofs.Lists.{in_left, in_nil, in_right}
use Rattle.promise.proofs.Messages.{message_offer}
use Rattle.promise.proofs.Parts.{Part, clean_part}
use Rattle.promise.proofs.Tasks.{task_offer}

-- ---- any jobs in turn

-- an offer whose refusal would be wrong is not refused
not_refused : {E : Type 0} (o : Option E) (js after : Jobs) → (Refused (offered o js after).0 → ⊥) → o ≡ None
not_refused None js after wrong = refl
not_refused (Some e) js after wrong = absurd (wrong (e, refl))

module _ (g : Setting) where
  -- where all of a front are taken, the others go on from what is held then
  turn_append : (js mid : Jobs) (k : ℕ) (xs ys : List Job) → in_turn g js k xs ≡ (Ok tt, mid) → in_turn g js k (xs ++ ys) ≡ in_turn g mid (k + length xs) ys
  turn_append js mid k [] ys e = let same : js ≡ mid = ap (λ r. r.1) e in let here : k ≡ k + 0 = omega arith in ap (λ j. in_turn g j k ys) same ∙ ap (λ n. in_turn g mid n ys) here
  turn_append js mid k (x ∷ xs) ys e = go (refused g js x) e (turn_append (joined js x) mid (k + 1) xs ys)
    where
      go : (o : Option JobFault) → on_taken k o js (in_turn g (joined js x) (k + 1) xs) ≡ (Ok tt, mid)
          → (in_turn g (joined js x) (k + 1) xs ≡ (Ok tt, mid) → in_turn g (joined js x) (k + 1) (xs ++ ys) ≡ in_turn g mid (k + 1 + length xs) ys)
          → on_taken k o js (in_turn g (joined js x) (k + 1) (xs ++ ys)) ≡ in_turn g mid (k + length (x ∷ xs)) ys
      go None is next = let here : k + 1 + length xs ≡ k + length (x ∷ xs) = omega arith in next is ∙ ap (λ n. in_turn g mid n ys) here
      go (Some f) is next = let no : ◌≡◌ {A = Result (Unit {0}) (ℕ × JobFault)} (Err (k, f)) (Ok tt) = ap (λ r. r.0) is in absurd cc

  module _ {X : Type 0} (make : X → Job) (state : List X → Jobs) (all : List X)
      (free : (front : List X) (x : X) (rest : List X) → front ++ x ∷ rest ≡ all → refused g (state front) (make x) ≡ None)
      (last : (front : List X) (x : X) (rest : List X) → front ++ x ∷ rest ≡ all → joined (state front) (make x) ≡ state (front ++ x ∷ [])) where
    -- where after each front the next job is taken and goes to the end, all are taken in their order
    turn_all : (front rest : List X) (k : ℕ) → front ++ rest ≡ all → in_turn g (state front) k (map make rest) ≡ (Ok tt, state all)
    turn_all front [] k is = ap (λ l. (Ok tt, state l)) (sym (append-nil front) ∙ is)
    turn_all front (x ∷ rest) k is =
        ap (λ o. on_taken k o (state front) (in_turn g (joined (state front) (make x)) (k + 1) (map make rest))) (free front x rest is)
        ∙ ap (λ js. in_turn g js (k + 1) (map make rest)) (last front x rest is)
        ∙ turn_all (front ++ x ∷ []) rest (k + 1) (append_assoc front (x ∷ []) rest ∙ is)

-- ---- a list in parts: a front, the next, and the rest

module _ {X : Type 0} (name : X → ℕ) (all front : List X) (x : X) (rest : List X) (is : front ++ x ∷ rest ≡ all) where
  front_in : (y : X) → In y front → In y all
  front_in y k = subst (In y) is (in_left y front (x ∷ rest) k)

  next_in : In x all
  next_in = subst (In x) is (in_right x front (x ∷ rest) (0, refl))

  more_is : (front ++ x ∷ []) ++ rest ≡ all
  more_is = append_assoc front (x ∷ []) rest ∙ is

  more_in : (y : X) → In y (front ++ x ∷ []) → In y all
  more_in y k = subst (In y) more_is (in_left y (front ++ x ∷ []) rest k)

  front_distinct : Distinct name all → Distinct name front
  front_distinct d = distinct_left name front (x ∷ rest) (subst (Distinct name) (sym is) d)

  more_distinct : Distinct name all → Distinct name (front ++ x ∷ [])
  more_distinct d = distinct_left name (front ++ x ∷ []) rest (subst (Distinct name) (sym more_is) d)

  -- one more than the front is within the limit
  front_room : (most : ℕ) → length all ≤ most → length front < most
  front_room most few = omega (arith, length-append front (x ∷ rest), ap length is, few)

  module _ (up : ascends name 0 all ≡ true) where
    -- the front has lower names than the next, so the next is new and goes to the end
    front_below : (y : X) → In y front → name y < name x
    front_below = ascends_below name 0 front x rest (subst (λ l. ascends name 0 l ≡ true) (sym is) up)

    front_apart : (y : X) → In y front → name y ≡ name x → ⊥
    front_apart y k e = omega (arith, front_below y k, e)

    more_last : add name x front ≡ front ++ x ∷ []
    more_last = add_last name x front front_below

-- ---- tasks

abbrev tasks_only : List Task → Jobs
tasks_only ts = record { tasks = ts; messages = [] }

-- tasks of a plan alone are a part of it
tasks_part : (js : Jobs) (ts : List Task) → ((t : Task) → In t ts → In t js.tasks) → Distinct task_name ts → Part (tasks_only ts) js
tasks_part js ts within distinct =
    record {
      tasks = within;
      messages = λ m i. absurd (in_nil m i);
      task_names = distinct;
      message_names = λ i j m o a b e. absurd (in_nil m (i, a));
      sources = λ m i. absurd (in_nil m i);
      destinations = λ m i. absurd (in_nil m i);
    }

module _ (g : Setting) (js : Jobs) (clean : Clean g js) (here : Canonical js) where
  -- the next task is past the checks, and the front with it is a part of the clean plan, so it is not refused
  task_free : (front : List Task) (t : Task) (rest : List Task) → front ++ t ∷ rest ≡ js.tasks → task_refusal g.network.nodes (tasks_only front) t ≡ None
  task_free front t rest is =
      not_refused (task_refusal g.network.nodes (tasks_only front) t) (tasks_only front) (with_task (tasks_only front) t)
      (λ refused. (task_offer g (tasks_only front) t front_clean passed).exact.0 refused
      (subst (Safe g) (ap tasks_only (sym (more_last task_name js.tasks front t rest is here.tasks))) more_clean.safe))
    where
      front_clean : Clean g (tasks_only front)
      front_clean =
          clean_part g (tasks_only front) js
          (tasks_part js front (front_in task_name js.tasks front t rest is) (front_distinct task_name js.tasks front t rest is clean.made.task_names)) clean

      more_clean : Clean g (tasks_only (front ++ t ∷ []))
      more_clean =
          clean_part g (tasks_only (front ++ t ∷ [])) js
          (tasks_part js (front ++ t ∷ []) (more_in task_name js.tasks front t rest is) (more_distinct task_name js.tasks front t rest is clean.made.task_names)) clean

      passed : TaskPassed g (tasks_only front) t
      passed =
          let made = clean.made.tasks t (next_in task_name js.tasks front t rest is) in
          record {
            named = made.named;
            fresh = front_apart task_name js.tasks front t rest is here.tasks;
            on_core = made.on_core;
            some_period = omega (arith, made.some, made.fits);
            short = made.short;
            some = made.some;
            narrow = omega (arith, made.fits);
            fits = made.fits;
            room = front_room task_name js.tasks front t rest is 64 here.few_tasks;
          }

  -- all tasks are taken in their order
  tasks_taken : in_turn g nothing 0 (map job.Task js.tasks) ≡ (Ok tt, tasks_only js.tasks)
  tasks_taken =
      turn_all g job.Task tasks_only js.tasks (λ front t rest is. ap (option_map job_fault.Task) (task_free front t rest is))
      (λ front t rest is. ap tasks_only (more_last task_name js.tasks front t rest is here.tasks))
      [] js.tasks 0 refl

  -- ---- messages

  abbrev after_tasks : List Message → Jobs
  after_tasks ms = record { tasks = js.tasks; messages = ms }

  -- all tasks of a plan and some of its messages are a part of it
  messages_part : (ms : List Message) → ((m : Message) → In m ms → In m js.messages) → Distinct message_name ms → Part (after_tasks ms) js
  messages_part ms within distinct =
      record {
        tasks = λ t i. i;
        messages = within;
        task_names = clean.made.task_names;
        message_names = distinct;
        sources = λ m i. refl;
        destinations = λ m i. refl;
      }

  module _ (fab : IsFabric g.network) where
    -- the next message is past the checks, and the front with it is a part of the clean plan, so it is not refused
    message_free : (front : List Message) (m : Message) (rest : List Message) → front ++ m ∷ rest ≡ js.messages → message_refusal g (after_tasks front) m ≡ None
    message_free front m rest is =
        not_refused (message_refusal g (after_tasks front) m) (after_tasks front) (with_message (after_tasks front) m)
        (λ refused. (message_offer g fab (after_tasks front) m made.trip front_clean passed).exact.0 refused
        (subst (Safe g) (ap after_tasks (sym (more_last message_name js.messages front m rest is here.messages))) more_clean.safe))
      where
        made : MessageMade g js.tasks m
        made = clean.made.messages m (next_in message_name js.messages front m rest is)

        front_clean : Clean g (after_tasks front)
        front_clean =
            clean_part g (after_tasks front) js
            (messages_part front (front_in message_name js.messages front m rest is) (front_distinct message_name js.messages front m rest is clean.made.message_names)) clean

        more_clean : Clean g (after_tasks (front ++ m ∷ []))
        more_clean =
            clean_part g (after_tasks (front ++ m ∷ [])) js
            (messages_part (front ++ m ∷ []) (more_in message_name js.messages front m rest is) (more_distinct message_name js.messages front m rest is clean.made.message_names))
            clean

        passed : MessagePassed g (after_tasks front) m made.trip
        passed =
            record {
              named = made.named;
              fresh = front_apart message_name js.messages front m rest is here.messages;
              going = made.going;
              kind = made.kind;
              delay = made.delay;
              some = made.some;
              fits = made.fits;
              room = front_room message_name js.messages front m rest is 128 here.few_messages;
            }

    -- after them all messages are taken in their order
    messages_taken : (k : ℕ) → in_turn g (tasks_only js.tasks) k (map job.Message js.messages) ≡ (Ok tt, js)
    messages_taken k =
        turn_all g job.Message after_tasks js.messages (λ front m rest is. ap (option_map job_fault.Message) (message_free front m rest is))
        (λ front m rest is. ap after_tasks (more_last message_name js.messages front m rest is here.messages))
        [] js.messages k refl

    -- a load of them takes them all
    pub all_taken : loaded g nothing (Ok (js.tasks, js.messages)) ≡ (Ok (counts_of js), js)
    all_taken =
        ap (λ r. (counted (js.tasks, js.messages) r.0, r.1))
        (turn_append g nothing (tasks_only js.tasks) 0 (map job.Task js.tasks) (map job.Message js.messages) tasks_taken ∙ messages_taken _)
