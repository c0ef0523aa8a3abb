-- Rule. The number of each refusal of an offer, a placing, a dropping, a slack or a holder, and the values that stand beside it.
use Rattle.std.specs.Prelude.{ℕ}
use Rattle.refusals.specs.Told.{plain}
use Rattle.refusals.specs.declared.refusal.Refusal.{Refusal}
use Rattle.refusals.specs.declared.refusal.Detail.TheVariants as detail
use Rattle.jobs.specs.declared.meeting.Meeting.{Meeting}
use Rattle.jobs.specs.declared.fault.TaskFault.{TaskFault}
use Rattle.jobs.specs.declared.fault.TaskFault.TheVariants as task_fault
use Rattle.jobs.specs.declared.fault.MessageFault.{MessageFault}
use Rattle.jobs.specs.declared.fault.MessageFault.TheVariants as message_fault
use Rattle.jobs.specs.declared.fault.PlacingFault.{PlacingFault}
use Rattle.jobs.specs.declared.fault.PlacingFault.TheVariants as placing
use Rattle.jobs.specs.declared.fault.DropFault.{DropFault}
use Rattle.jobs.specs.declared.fault.PlaceFault.{PlaceFault}
use Rattle.jobs.specs.declared.fault.DropFault.TheVariants as drop_fault
use Rattle.jobs.specs.declared.job.JobFault.{JobFault}
use Rattle.jobs.specs.declared.job.JobFault.TheVariants as job_fault

-- a refusal with the first meeting: its instant, the held name and the number of the place
abbrev pub meets : ℕ → Meeting → Refusal
meets n m = record { number = n; detail = detail.Meeting (record { instant = m.instant; held = m.held; place = m.place.number }) }

abbrev pub task_told : TaskFault → Refusal
task_told task_fault.Name = plain 9
task_told task_fault.Core = plain 10
task_told task_fault.Times = plain 11
task_told task_fault.Full = plain 12
task_told (task_fault.Meets m) = meets 13 m

abbrev pub message_told : MessageFault → Refusal
message_told message_fault.Name = plain 14
message_told message_fault.Ends = plain 15
message_told message_fault.Times = plain 16
message_told message_fault.NoRoute = plain 17
message_told message_fault.Full = plain 18
message_told (message_fault.Late v) = record { number = 19; detail = detail.Slack v }
message_told (message_fault.Meets m) = meets 20 m

-- of a job of either kind
abbrev pub job_told : JobFault → Refusal
job_told (job_fault.Task e) = task_told e
job_told (job_fault.Message e) = message_told e

-- a placing tells what the offer's check tells, or that no value works
abbrev pub placing_told : {E : Type 0} → (E → Refusal) → PlacingFault E → Refusal
placing_told tell (placing.Offer e) = tell e
placing_told tell placing.NoFit = plain 23

abbrev pub drop_told : DropFault → Refusal
drop_told drop_fault.Unknown = plain 21
drop_told drop_fault.InUse = plain 22

abbrev pub place_told : PlaceFault → Refusal
place_told e = plain 26
