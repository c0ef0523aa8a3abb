-- Rule. Section, record and refusal of each fault of a load.
use Rattle.refusals.specs.Told.{plain, told}
use Rattle.refusals.specs.declared.refusal.Told.{Told}
use Rattle.std.specs.Prelude.{ℕ}
use Rattle.jobs.specs.Numbers.{job_told}
use Rattle.jobs.specs.declared.job.JobFault.{JobFault}
use Rattle.jobs.specs.declared.job.JobFault.TheVariants.{Message, Task}
use Rattle.plan.specs.declared.fault.LayoutFault.{LayoutFault}
use Rattle.plan.specs.declared.fault.LayoutFault.TheVariants.{TasksShort, MessagesShort, Extra, NoTask, NoMessage}
use Rattle.plan.specs.declared.fault.LoadFault.{LoadFault}
use Rattle.plan.specs.declared.fault.LoadFault.TheVariants.{Layout, Offer}

-- tasks are section 3, messages section 4, the end is section 5; of records that are cut off, so many fit
abbrev pub layout_told : LayoutFault → Told
layout_told (TasksShort whole) = told 3 whole (plain 1)
layout_told (MessagesShort whole) = told 4 whole (plain 1)
layout_told Extra = told 5 0 (plain 25)
layout_told (NoTask k) = told 3 k (plain 24)
layout_told (NoMessage k) = told 4 k (plain 24)

-- the section of the record whose offer was refused for this
abbrev pub section_of : JobFault → ℕ
section_of (Task e) = 3
section_of (Message e) = 4

-- the refusal of the offer beneath is carried whole
abbrev pub load_told : LoadFault → Told
load_told (Layout e) = layout_told e
load_told (Offer k e) = told (section_of e) k (job_told e)
