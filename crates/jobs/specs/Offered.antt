-- Rule. The offer of a job of either kind: why it is refused, and what is held with it.
use Rattle.std.specs.Prelude.{Option, Result}
use Rattle.std.specs.Option.{option_map}
use Rattle.jobs.specs.declared.job.Job.{Job}
use Rattle.jobs.specs.declared.job.Job.TheVariants as job
use Rattle.jobs.specs.declared.job.JobFault.{JobFault}
use Rattle.jobs.specs.declared.job.JobFault.TheVariants as job_fault
use Rattle.jobs.specs.Jobs.{Jobs, Setting, with_message, with_task}
use Rattle.jobs.specs.Rules.{message_refusal, offered, task_refusal}

-- why a job is refused
abbrev pub refused : Setting → Jobs → Job → Option JobFault
refused g js (job.Task t) = option_map job_fault.Task (task_refusal g.network.nodes js t)
refused g js (job.Message m) = option_map job_fault.Message (message_refusal g js m)

-- what is held with the job
abbrev pub joined : Jobs → Job → Jobs
joined js (job.Task t) = with_task js t
joined js (job.Message m) = with_message js m

-- what an offer answers, and what is held after it
abbrev pub offer : Setting → Jobs → Job → Result (Unit {0}) JobFault × Jobs
offer g js x = offered (refused g js x) js (joined js x)
