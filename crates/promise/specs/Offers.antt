-- Meaning. What an offer and a placing say of a clean plan.
--   TaskPassed, MessagePassed    none of the conditions of the checks before lateness and meetings holds
--   TaskFails, MessageFails      which of these checks fails first, number by number
--   Meets                        an offered and a held job have one place at one instant
--   FirstMeeting                 the first meeting of all time, then the smallest held name, then the smallest place
--   TaskOffer, MessageOffer      an offer past the checks is refused exactly where taking it would make the plan unsafe
--   TaskWhy, MessageWhy          why an offer past the checks is refused
--   TaskAnswer, MessageAnswer    what an offer answers, past the checks or not
--   TaskFits, MessageFits        a value of the range with which an offer would be taken
--   TaskPlacing, MessagePlacing  what a placing answers
--   Smallest                     a placing answers the smallest value that an offer would be taken with
use Rattle.std.specs.Prelude.{◌≡◌, ℕ, ◌+◌, ◌<◌, ◌≤◌, true, false, ◌↔◌, ◌⊎◌, List, length, None, pos, Ok, Err, Result, Some, ◌≢◌, int_lt}
use Rattle.holds.specs.Slack.{LeastSlack}
use Rattle.records.specs.declared.record.Task.{Task}
use Rattle.records.specs.declared.record.Message.{Message}
use Rattle.jobs.specs.declared.fault.TaskFault.{TaskFault}
use Rattle.jobs.specs.declared.fault.TaskFault.TheVariants as task_fault
use Rattle.jobs.specs.declared.fault.MessageFault.{MessageFault}
use Rattle.jobs.specs.declared.fault.MessageFault.TheVariants as message_fault
use Rattle.jobs.specs.declared.fault.PlacingFault.{PlacingFault}
use Rattle.jobs.specs.declared.fault.PlacingFault.TheVariants as placing
use Rattle.jobs.specs.declared.job.Job.{Job}
use Rattle.jobs.specs.declared.job.Job.TheVariants as job
use Rattle.jobs.specs.declared.meeting.Meeting.{Meeting}
use Rattle.jobs.specs.declared.open.OpenTask.{OpenTask}
use Rattle.jobs.specs.declared.open.OpenMessage.{OpenMessage}
use Rattle.jobs.specs.declared.place.Place.{Place}
use Rattle.jobs.specs.Jobs.{In, Jobs, Setting, message_name, task_name, task_named, with_message, with_task}
use Rattle.jobs.specs.Open.{message_at, task_at}
use Rattle.jobs.specs.Places.{place_before}
use Rattle.jobs.specs.Rules.{offer_message, offer_task}
use Rattle.jobs.specs.Timing.{task_span}
use Rattle.jobs.specs.Trips.{Trip, message_flow, trip_of}
use Rattle.promise.specs.Clean.{Clean, InTime, Safe, Uses}

-- ---- the checks that come first

-- a task's name is not 0 and not held, its core is in the fabric, its times are within the limits, and there is room
pub record TaskPassed (g : Setting) (js : Jobs) (t : Task) : Type 0 where
  pub named : 0 < t.name
  pub fresh : (u : Task) → In u js.tasks → u.name ≢ t.name
  pub on_core : t.core < g.network.nodes
  pub some_period : 1 ≤ t.period
  pub short : t.period ≤ 65536
  pub some : 1 ≤ t.width
  pub narrow : t.width ≤ t.period
  pub fits : t.phase + t.width ≤ t.period
  pub room : length js.tasks < 64

-- a message's name is not 0 and not held, its two tasks are held with a route between them, its times are within the limits, and there
-- is room
pub record MessagePassed (g : Setting) (js : Jobs) (m : Message) (t : Trip) : Type 0 where
  pub named : 0 < m.name
  pub fresh : (o : Message) → In o js.messages → o.name ≢ m.name
  pub going : trip_of g js.tasks m ≡ Some t
  pub kind : m.kind < 2
  pub delay : m.delay < t.source.period
  pub some : 1 ≤ m.width
  pub fits : m.width ≤ t.source.period
  pub room : length js.messages < 128

-- ---- which of them fails first

-- a name is taken where it is 0 or a held job has it
abbrev pub NameTaken : {X : Type 0} → (X → ℕ) → ℕ → List X → Type 0
NameTaken {X = X} name n xs = (n ≡ 0) ⊎ ((x : X) × In x xs × (name x ≡ n))

-- a task's times: a period from 1 to 65,536, a width of at least 1, phase and width together at most the period
pub record TaskTimes (t : Task) : Type 0 where
  pub some_period : 1 ≤ t.period
  pub short : t.period ≤ 65536
  pub some : 1 ≤ t.width
  pub fits : t.phase + t.width ≤ t.period

-- a message's kind, delay and width, beside its source
pub record MessageTimes (s : Task) (m : Message) : Type 0 where
  pub kind : m.kind < 2
  pub delay : m.delay < s.period
  pub some : 1 ≤ m.width
  pub fits : m.width ≤ s.period

-- a task fails first for its name; for its core, where not for its name; for its times, where for neither; for want of room, where for none
abbrev pub TaskFails : Setting → Jobs → Task → TaskFault → Type 0
TaskFails g js t task_fault.Name = NameTaken task_name t.name js.tasks
TaskFails g js t task_fault.Core = (NameTaken task_name t.name js.tasks → ⊥) × (g.network.nodes ≤ t.core)
TaskFails g js t task_fault.Times = (NameTaken task_name t.name js.tasks → ⊥) × (t.core < g.network.nodes) × (TaskTimes t → ⊥)
TaskFails g js t task_fault.Full = (NameTaken task_name t.name js.tasks → ⊥) × (t.core < g.network.nodes) × TaskTimes t × (64 ≤ length js.tasks)
TaskFails g js t (task_fault.Meets x) = ⊥

-- a message's source and destination are held
pub record EndsHeld (js : Jobs) (m : Message) : Type 0 where
  pub source : Task
  pub destination : Task
  pub sent_by : task_named js.tasks m.source ≡ Some source
  pub read_by : task_named js.tasks m.destination ≡ Some destination

-- a message whose name is free, between held tasks
abbrev pub Sent : (js : Jobs) (m : Message) → (EndsHeld js m → Type 0) → Type 0
Sent js m More = (NameTaken message_name m.name js.messages → ⊥) × (h : EndsHeld js m) × More h

-- a message fails first for its name; for its tasks; for its times; for want of a route; for want of room
abbrev pub MessageFails : Setting → Jobs → Message → MessageFault → Type 0
MessageFails g js m message_fault.Name = NameTaken message_name m.name js.messages
MessageFails g js m message_fault.Ends = (NameTaken message_name m.name js.messages → ⊥) × (EndsHeld js m → ⊥)
MessageFails g js m message_fault.Times = Sent js m (λ h. MessageTimes h.source m → ⊥)
MessageFails g js m message_fault.NoRoute = Sent js m (λ h. MessageTimes h.source m × (g.network.route h.source.core h.destination.core ≡ None))
MessageFails g js m message_fault.Full =
    Sent js m (λ h. MessageTimes h.source m × ((r : List ℕ) × (g.network.route h.source.core h.destination.core ≡ Some r)) × (128 ≤ length js.messages))
MessageFails g js m (message_fault.Late v) = ⊥
MessageFails g js m (message_fault.Meets x) = ⊥

-- ---- meetings

-- runs of an offered job and of the job y have the place at the instant n
abbrev pub Meets : Setting → Jobs → Job → Job → ℕ → Place → Type 0
Meets g js x y n place = (k j : ℕ) × Uses g js x k place n × Uses g js y j place n

-- the meeting happens with a held job of the name that it tells; no earlier instant of all time has a meeting with any held job, at
-- that instant none has a smaller name, and with that name there is none on a smaller place
pub record FirstMeeting {X : Type 0} (name : X → ℕ) (held : List X) (At : X → ℕ → Place → Type 0) (m : Meeting) : Type 0 where
  pub job : X
  pub is_held : In job held
  pub is_named : name job ≡ m.held
  pub meets : At job m.instant m.place
  pub earliest : (x : X) → In x held → (n : ℕ) (p : Place) → At x n p → m.instant ≤ n
  pub smallest : (x : X) → In x held → (p : Place) → At x m.instant p → m.held ≤ name x
  pub lowest : (x : X) → In x held → name x ≡ m.held → (p : Place) → At x m.instant p → place_before p m.place ≡ false

-- ---- offers

-- an answer is a refusal
abbrev pub Refused : {T E : Type 0} → Result T E → Type 0
Refused {E = E} r = (e : E) × (r ≡ Err e)

-- why a task past the checks is refused: the first meeting with a held task
abbrev pub TaskWhy : Setting → Jobs → Task → TaskFault → Type 0
TaskWhy g js t task_fault.Name = ⊥
TaskWhy g js t task_fault.Core = ⊥
TaskWhy g js t task_fault.Times = ⊥
TaskWhy g js t task_fault.Full = ⊥
TaskWhy g js t (task_fault.Meets x) = FirstMeeting task_name js.tasks (λ u. Meets g js (job.Task t) (job.Task u)) x

-- an answer r to a task past the checks is a refusal exactly where the plan with the task would not be safe
pub record TaskOffer (g : Setting) (js : Jobs) (t : Task) (r : Result (Unit {0}) TaskFault) : Type 0 where
  pub exact : Refused r ↔ (Safe g (with_task js t) → ⊥)
  pub taken : r ≡ Ok tt → Clean g (with_task js t)
  pub why : (e : TaskFault) → r ≡ Err e → TaskWhy g js t e

-- why a message past the checks is refused: late by the least slack over all packets, which is below 0, or else the first meeting
abbrev pub MessageWhy : Setting → Jobs → Message → Trip → MessageFault → Type 0
MessageWhy g js m t message_fault.Name = ⊥
MessageWhy g js m t message_fault.Ends = ⊥
MessageWhy g js m t message_fault.Times = ⊥
MessageWhy g js m t message_fault.NoRoute = ⊥
MessageWhy g js m t message_fault.Full = ⊥
MessageWhy g js m t (message_fault.Late v) = LeastSlack (message_flow g.network t m) (task_span t.destination) v × (int_lt v (pos 0) ≡ true)
MessageWhy g js m t (message_fault.Meets x) =
    InTime g.network t m × FirstMeeting message_name js.messages (λ o. Meets g js (job.Message m) (job.Message o)) x

-- an answer r to a message past the checks is a refusal exactly where the plan with the message would not be safe
pub record MessageOffer (g : Setting) (js : Jobs) (m : Message) (t : Trip) (r : Result (Unit {0}) MessageFault) : Type 0 where
  pub exact : Refused r ↔ (Safe g (with_message js m) → ⊥)
  pub taken : r ≡ Ok tt → Clean g (with_message js m)
  pub why : (e : MessageFault) → r ≡ Err e → MessageWhy g js m t e

-- ---- answers to offers

-- the faults of the checks that come before meetings
abbrev pub EarlyTask : TaskFault → Type 0
EarlyTask task_fault.Name = Unit {0}
EarlyTask task_fault.Core = Unit {0}
EarlyTask task_fault.Times = Unit {0}
EarlyTask task_fault.Full = Unit {0}
EarlyTask (task_fault.Meets x) = ⊥

-- the faults of the checks that come before lateness and meetings
abbrev pub EarlyMessage : MessageFault → Type 0
EarlyMessage message_fault.Name = Unit {0}
EarlyMessage message_fault.Ends = Unit {0}
EarlyMessage message_fault.Times = Unit {0}
EarlyMessage message_fault.NoRoute = Unit {0}
EarlyMessage message_fault.Full = Unit {0}
EarlyMessage (message_fault.Late v) = ⊥
EarlyMessage (message_fault.Meets x) = ⊥

-- an answer is an early fault exactly where one of the earlier conditions holds, and that of the one that fails first; past them it is a
-- refusal exactly where the plan with the job would not be safe
pub record TaskAnswer (g : Setting) (js : Jobs) (t : Task) (r : Result (Unit {0}) TaskFault) : Type 0 where
  pub first : (e : TaskFault) → EarlyTask e → (r ≡ Err e) ↔ TaskFails g js t e
  pub early : ((e : TaskFault) × (r ≡ Err e) × EarlyTask e) ↔ (TaskPassed g js t → ⊥)
  pub past : TaskPassed g js t → TaskOffer g js t r

pub record MessageAnswer (g : Setting) (js : Jobs) (m : Message) (r : Result (Unit {0}) MessageFault) : Type 0 where
  pub first : (e : MessageFault) → EarlyMessage e → (r ≡ Err e) ↔ MessageFails g js m e
  pub early : ((e : MessageFault) × (r ≡ Err e) × EarlyMessage e) ↔ ((t : Trip) → MessagePassed g js m t → ⊥)
  pub past : (t : Trip) → MessagePassed g js m t → MessageOffer g js m t r

-- ---- placings

-- v is in the range and its offer would be taken
pub record TaskFits (g : Setting) (js : Jobs) (t : OpenTask) (v : ℕ) : Type 0 where
  pub in_range : v + t.width ≤ t.period
  pub taken : (offer_task g js (task_at t v)).0 ≡ Ok tt

pub record MessageFits (g : Setting) (js : Jobs) (m : OpenMessage) (s : Task) (v : ℕ) : Type 0 where
  pub in_range : v < s.period
  pub taken : (offer_message g js (message_at m v)).0 ≡ Ok tt

-- the answer is the smallest value that fits, and a refusal, then with `none`, exactly where no value fits
pub record Smallest {E : Type 0} (Fits : ℕ → Type 0) (none : E) (r : Result ℕ E) : Type 0 where
  pub some : (v : ℕ) → (r ≡ Ok v) ↔ (Fits v × ((w : ℕ) → w < v → Fits w → ⊥))
  pub no_value : (r ≡ Err none) ↔ ((v : ℕ) → Fits v → ⊥)

-- a placing is answered by one of the earlier faults exactly where one of their conditions holds, by that of the one that fails first; and
-- past them by the smallest value
pub record TaskPlacing (g : Setting) (js : Jobs) (t : OpenTask) (r : Result ℕ (PlacingFault TaskFault)) : Type 0 where
  pub first : (e : TaskFault) → EarlyTask e → (r ≡ Err (placing.Offer e)) ↔ TaskFails g js (task_at t 0) e
  pub early : ((e : TaskFault) × (r ≡ Err (placing.Offer e)) × EarlyTask e) ↔ (TaskPassed g js (task_at t 0) → ⊥)
  pub past : TaskPassed g js (task_at t 0) → Smallest (TaskFits g js t) placing.NoFit r

pub record MessagePlacing (g : Setting) (js : Jobs) (m : OpenMessage) (r : Result ℕ (PlacingFault MessageFault)) : Type 0 where
  pub first : (e : MessageFault) → EarlyMessage e → (r ≡ Err (placing.Offer e)) ↔ MessageFails g js (message_at m 0) e
  pub early : ((e : MessageFault) × (r ≡ Err (placing.Offer e)) × EarlyMessage e) ↔ ((t : Trip) → MessagePassed g js (message_at m 0) t → ⊥)
  pub past : (t : Trip) → MessagePassed g js (message_at m 0) t → Smallest (MessageFits g js m t.source) placing.NoFit r
