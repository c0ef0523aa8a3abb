-- Meaning. The main promise, over every lawful network: of one call on any clean plan in ascending names, and of every list of calls on a new one.
--   Promised, After        what is promised of the answer to a call, and of what is held after it
--   WriteAnswer            what is promised of the answer to a write
--   CallPromise, EachCall  what is promised of one call on any clean plan in ascending names, within its room
--   Promise, MainPromise   what is promised of a list of calls on a new plan
use Rattle.std.specs.Prelude.{◌≡◌, ℕ, suc, ◌<◌, ◌≤◌, List, length, take, ℤ, Some, Ok, Err, Option, Result}
use Rattle.std.specs.List.{slice_get}
use Rattle.fabric.specs.Network.{IsFabric}
use Rattle.refusals.specs.declared.refusal.BufferFault.{BufferFault}
use Rattle.refusals.specs.declared.refusal.Counts.{Counts}
use Rattle.jobs.specs.declared.fault.TaskFault.{TaskFault}
use Rattle.jobs.specs.declared.fault.MessageFault.{MessageFault}
use Rattle.jobs.specs.declared.fault.DropFault.{DropFault}
use Rattle.jobs.specs.declared.fault.PlaceFault.{PlaceFault}
use Rattle.jobs.specs.declared.fault.PlacingFault.{PlacingFault}
use Rattle.jobs.specs.Jobs.{In, Jobs, Setting, nothing}
use Rattle.jobs.specs.Open.{message_at, task_at}
use Rattle.plan.specs.After.{Leaves, MessageLess, MessageMore, TaskLess, TaskMore}
use Rattle.plan.specs.Loading.{load}
use Rattle.plan.specs.Loads.{LoadLeft, LoadAnswer, load_tries}
use Rattle.plan.specs.Writing.{part_bytes}
use Rattle.plan.specs.declared.fault.LoadFault.{LoadFault}
use Rattle.plan.specs.Round.{LoadsBack}
use Rattle.promise.specs.Canonical.{Canonical, SameMembers, ShortNames}
use Rattle.promise.specs.Clean.{Clean}
use Rattle.promise.specs.Droppings.{MessageDropped, TaskDropped}
use Rattle.promise.specs.Offers.{MessageAnswer, MessagePlacing, TaskAnswer, TaskPlacing}
use Rattle.promise.specs.Questions.{CoreAnswer, LinkAnswer, SlackAnswer}
use Rattle.replay.specs.declared.calls.Answer.TheVariants as answer
use Rattle.replay.specs.declared.calls.Call.TheVariants as call
use Rattle.replay.specs.Calls.{Ask, Said, answers, ask, held}
use Rattle.replay.specs.Short.{ShortAsk}

-- ---- answers

-- a write gives the whole job part, which has the room, and is refused where it has not
abbrev pub WriteAnswer : Jobs → ℕ → Result (List ℕ) BufferFault → Type 0
WriteAnswer js room (Ok bytes) = (bytes ≡ part_bytes js) × (length bytes ≤ room)
WriteAnswer js room (Err e) = room < length (part_bytes js)

-- what is promised of the answer r to a call, with the jobs held before it
abbrev pub Promised : Setting → Jobs → Ask → Said → Type 0
Promised g js (call.OfferTask t) r = (x : Result (Unit {0}) TaskFault) × (r ≡ answer.TaskOffered x) × TaskAnswer g js t x
Promised g js (call.OfferMessage m) r = (x : Result (Unit {0}) MessageFault) × (r ≡ answer.MessageOffered x) × MessageAnswer g js m x
Promised g js (call.PlaceTask t) r = (x : Result ℕ (PlacingFault TaskFault)) × (r ≡ answer.TaskPlaced x) × TaskPlacing g js t x
Promised g js (call.PlaceMessage m) r = (x : Result ℕ (PlacingFault MessageFault)) × (r ≡ answer.MessagePlaced x) × MessagePlacing g js m x
Promised g js (call.DropTask n) r = (x : Result (Unit {0}) DropFault) × (r ≡ answer.Dropped x) × TaskDropped js n x
Promised g js (call.DropMessage n) r = (x : Result (Unit {0}) DropFault) × (r ≡ answer.Dropped x) × MessageDropped js n x
Promised g js (call.Load part) r = (x : Result Counts LoadFault) × (r ≡ answer.Loaded x) × LoadAnswer g js part x
Promised g js (call.Slack n) r = (x : Result ℤ DropFault) × (r ≡ answer.Slack x) × SlackAnswer g js n x
Promised g js (call.CoreHolder c n) r = (x : Result (Option (ℕ × ℕ)) PlaceFault) × (r ≡ answer.Holder x) × CoreAnswer g js c n x
Promised g js (call.LinkHolder l n) r = (x : Result (Option (ℕ × ℕ)) PlaceFault) × (r ≡ answer.Holder x) × LinkAnswer g js l n x
Promised g js (call.Write room) r = (x : Result (List ℕ) BufferFault) × (r ≡ answer.Written x) × WriteAnswer js room x

-- ---- what is held after

-- by the answer: a taken task or message joins, a dropped one leaves, those of a load's taken offers join, and nothing else changes
abbrev pub After : Setting → Jobs → Ask → Said → Jobs → Type 0
After g js (call.OfferTask t) r after = (x : Result (Unit {0}) TaskFault) × (r ≡ answer.TaskOffered x) × Leaves js (λ _. TaskMore js t) x after
After g js (call.OfferMessage m) r after = (x : Result (Unit {0}) MessageFault) × (r ≡ answer.MessageOffered x) × Leaves js (λ _. MessageMore js m) x after
After g js (call.PlaceTask t) r after = (x : Result ℕ (PlacingFault TaskFault)) × (r ≡ answer.TaskPlaced x) × Leaves js (λ v. TaskMore js (task_at t v)) x after
After g js (call.PlaceMessage m) r after = (x : Result ℕ (PlacingFault MessageFault)) × (r ≡ answer.MessagePlaced x) × Leaves js (λ v. MessageMore js (message_at m v)) x after
After g js (call.DropTask n) r after = (x : Result (Unit {0}) DropFault) × (r ≡ answer.Dropped x) × Leaves js (λ _. TaskLess js n) x after
After g js (call.DropMessage n) r after = (x : Result (Unit {0}) DropFault) × (r ≡ answer.Dropped x) × Leaves js (λ _. MessageLess js n) x after
After g js (call.Load part) r after = (after ≡ (load g js part).1) × LoadLeft (load_tries g js part) js after
After g js question r after = after ≡ js

-- ---- one call

-- the call a on a clean plan that holds js, over the setting g: what is held then is clean and in ascending names, the call is answered as
-- promised, and leaves held what its answer says; and where the names held before fit in two bytes, and a caller can make the call, those
-- held then fit too, and their job part loads back
pub record CallPromise (g : Setting) (js : Jobs) (a : Ask) : Type 0 where
  pub clean : Clean g (ask g js a).1
  pub canonical : Canonical (ask g js a).1
  pub answered : Promised g js a (ask g js a).0
  pub left : After g js a (ask g js a).0 (ask g js a).1
  pub short : ShortNames js → ShortAsk a → ShortNames (ask g js a).1
  pub back : ShortNames js → ShortAsk a → LoadsBack g (ask g js a).1

-- for every network that keeps the laws, every clean plan in ascending names within its room, and every call
abbrev pub EachCall : Type 0
EachCall = (g : Setting) → IsFabric g.network → (js : Jobs) → Clean g js → Canonical js → (a : Ask) → CallPromise g js a

-- ---- lists of calls

-- after the list the plan is clean, for all of time, its names ascend and its numbers are kept; each call of the list is answered as
-- promised, with the jobs that the calls before it leave held, and leaves held what its answer says; the job part of what is held loads
-- back, where the names in the calls fit in two bytes and what they load are bytes, or where the names held fit, whatever was refused or
-- dropped; and lists that leave the same members held have the same job part
pub record Promise (g : Setting) (asks : List Ask) : Type 0 where
  pub clean : Clean g (held g nothing asks)
  pub calls : (i : ℕ) (a : Ask) → slice_get asks i ≡ Some a
      → (r : Said) × (slice_get (answers g nothing asks) i ≡ Some r) × Promised g (held g nothing (take i asks)) a r
      × After g (held g nothing (take i asks)) a r (held g nothing (take (suc i) asks))
  pub canonical : Canonical (held g nothing asks)
  pub back : ((a : Ask) → In a asks → ShortAsk a) → LoadsBack g (held g nothing asks)
  pub back_held : ShortNames (held g nothing asks) → LoadsBack g (held g nothing asks)
  pub same : (others : List Ask) → SameMembers (held g nothing asks) (held g nothing others) → part_bytes (held g nothing asks) ≡ part_bytes (held g nothing others)

-- for every network that keeps the laws, and every list of calls
abbrev pub MainPromise : Type 0
MainPromise = (g : Setting) → IsFabric g.network → (asks : List Ask) → Promise g asks
