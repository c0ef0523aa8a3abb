-- Meaning. What a load offers, what it answers by these offers, and what it leaves.
--   Try, load_tries    an offer as it is tried, and those that a load makes
--   JobAnswer          what is promised of the answer to the offer of a job of either kind
--   LoadAnswer         what is promised of the answer to a load
--   OfRecord, AllTaken, RefusedAt, PartAnswer    what it says of the offers and of the answer
--   JobMore, Taken     one job more; a job whose offer was taken
--   LoadLeft           what a load leaves held
use Rattle.std.specs.Prelude.{◌≡◌, ℕ, suc, ◌+◌, ◌<◌, ◌⊎◌, ◌↔◌, List, [], ◌∷◌, length, take, Some, Ok, Err, Option, Result}
use Rattle.std.specs.List.{slice_get}
use Rattle.std.specs.Option.{option_map}
use Rattle.std.specs.Result.{result_map_both}
use Rattle.records.specs.declared.record.Task.{Task}
use Rattle.records.specs.declared.record.Message.{Message}
use Rattle.refusals.specs.declared.refusal.Counts.{Counts}
use Rattle.jobs.specs.Jobs.{In, IsHeld, Jobs, Setting}
use Rattle.jobs.specs.Offered.{joined, offer}
use Rattle.jobs.specs.declared.fault.TaskFault.{TaskFault}
use Rattle.jobs.specs.declared.fault.MessageFault.{MessageFault}
use Rattle.jobs.specs.declared.job.Job.{Job}
use Rattle.jobs.specs.declared.job.Job.TheVariants as job
use Rattle.jobs.specs.declared.job.JobFault.{JobFault}
use Rattle.jobs.specs.declared.job.JobFault.TheVariants as job_fault
use Rattle.promise.specs.Offers.{MessageAnswer, TaskAnswer}
use Rattle.plan.specs.Loading.{file_order, job_part}
use Rattle.plan.specs.declared.fault.LayoutFault.{LayoutFault}
use Rattle.plan.specs.declared.fault.LoadFault.{LoadFault}
use Rattle.plan.specs.declared.fault.LoadFault.TheVariants.{Layout, Offer}

-- ---- the offers of a load

-- an offer as it is tried: what is held before it, the job, and the answer
pub record Try : Type 0 where
  pub before : Jobs
  pub job : Job
  pub answer : Result (Unit {0}) JobFault

-- what follows where an offer is taken; after a refusal, nothing
abbrev pub if_taken : {T E X : Type 0} → Result T E → List X → List X
if_taken (Ok x) next = next
if_taken (Err e) next = []

-- jobs offered in turn, each to what the offers before it leave held, up to and with the first that is refused
abbrev pub tries : Setting → Jobs → List Job → List Try
tries g js [] = []
tries g js (x ∷ xs) = record { before = js; job = x; answer = (offer g js x).0 } ∷ if_taken (offer g js x).0 (tries g (offer g js x).1 xs)

-- the records that a load has to offer, in file order; a fault of the layout offers nothing
abbrev pub part_records : Result (List Task × List Message) LayoutFault → List Job
part_records (Err e) = []
part_records (Ok p) = file_order p

abbrev pub load_tries : Setting → Jobs → List ℕ → List Try
load_tries g js part = tries g js (part_records (job_part part))

-- ---- what is promised of each

-- what is held with some jobs more, one after the other
abbrev pub all_joined : Jobs → List Job → Jobs
all_joined js [] = js
all_joined js (x ∷ xs) = all_joined (joined js x) xs

-- the k-th offer is that of record k, to what was held and the records before it
pub record OfRecord (js : Jobs) (records : List Job) (k : ℕ) (y : Try) : Type 0 where
  pub job : slice_get records k ≡ Some y.job
  pub before : y.before ≡ all_joined js (take k records)

-- an offer is answered by one of the earlier faults exactly where one of their conditions holds; past them it is refused exactly where
-- taking it then would break the plan, and for the reason told
abbrev pub JobAnswer : Setting → Jobs → Job → Result (Unit {0}) JobFault → Type 0
JobAnswer g js (job.Task t) r = (x : Result (Unit {0}) TaskFault) × (r ≡ result_map_both (λ u. u) job_fault.Task x) × TaskAnswer g js t x
JobAnswer g js (job.Message m) r = (x : Result (Unit {0}) MessageFault) × (r ≡ result_map_both (λ u. u) job_fault.Message x) × MessageAnswer g js m x

-- ---- what a load answers

-- all records were offered and taken, and are counted
pub record AllTaken (ys : List Try) (part : Result (List Task × List Message) LayoutFault) (n : Counts) : Type 0 where
  pub tasks : List Task
  pub messages : List Message
  pub records : part ≡ Ok (tasks, messages)
  pub counts : (n.tasks ≡ length tasks) × (n.messages ≡ length messages)
  pub tried : length ys ≡ length tasks + length messages
  pub taken : (y : Try) → In y ys → y.answer ≡ Ok tt

-- where in the file the record of place k stands that a fault of its kind names, and which job it is
abbrev pub file_place : List Task → ℕ → JobFault → ℕ
file_place ts k (job_fault.Task e) = k
file_place ts k (job_fault.Message e) = length ts + k

abbrev pub named_record : List Task → List Message → ℕ → JobFault → Option Job
named_record ts ms k (job_fault.Task e) = option_map job.Task (slice_get ts k)
named_record ts ms k (job_fault.Message e) = option_map job.Message (slice_get ms k)

-- the offer of the record of place k in its section was refused for this, and was the last that was tried
pub record RefusedAt (ys : List Try) (part : Result (List Task × List Message) LayoutFault) (k : ℕ) (e : JobFault) : Type 0 where
  pub tasks : List Task
  pub messages : List Message
  pub records : part ≡ Ok (tasks, messages)
  pub try : Try
  pub at : slice_get ys (file_place tasks k e) ≡ Some try
  pub job : named_record tasks messages k e ≡ Some try.job
  pub answer : try.answer ≡ Err e
  pub last : length ys ≡ suc (file_place tasks k e)

-- what a load answers, by the offers that it tries and what its bytes read as
abbrev pub PartAnswer : List Try → Result (List Task × List Message) LayoutFault → Result Counts LoadFault → Type 0
PartAnswer ys part (Ok n) = AllTaken ys part n
PartAnswer ys part (Err (Layout e)) = part ≡ Err e
PartAnswer ys part (Err (Offer k e)) = RefusedAt ys part k e

-- the offers are those of the records in file order; each is answered as promised, and all but the last were taken; and the answer tells
-- that all were taken, what is wrong with the layout, or which was refused and why
pub record LoadAnswer (g : Setting) (js : Jobs) (part : List ℕ) (r : Result Counts LoadFault) : Type 0 where
  pub each : (k : ℕ) (y : Try) → slice_get (load_tries g js part) k ≡ Some y → OfRecord js (part_records (job_part part)) k y
  pub exact : (y : Try) → In y (load_tries g js part) → JobAnswer g y.before y.job y.answer
  pub taken : (k : ℕ) (y : Try) → suc k < length (load_tries g js part) → slice_get (load_tries g js part) k ≡ Some y → y.answer ≡ Ok tt
  pub answer : PartAnswer (load_tries g js part) (job_part part) r

-- ---- what a load leaves

-- a job, those held before, and no other
abbrev pub JobMore : Jobs → Job → Jobs → Type 0
JobMore js x after = (y : Job) → IsHeld after y ↔ ((y ≡ x) ⊎ IsHeld js y)

-- one of the offers of a job was taken
abbrev pub Taken : List Try → Job → Type 0
Taken ys x = (y : Try) × In y ys × (y.job ≡ x) × (y.answer ≡ Ok tt)

-- the jobs held before and those of its taken offers, and no other
abbrev pub LoadLeft : List Try → Jobs → Jobs → Type 0
LoadLeft ys js after = (x : Job) → IsHeld after x ↔ (Taken ys x ⊎ IsHeld js x)
