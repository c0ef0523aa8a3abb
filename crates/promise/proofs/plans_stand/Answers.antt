use Rattle.promise.proofs.Used.{message_uses, task_uses, trip_tasks}
use Rattle.promise.proofs.plans_stand.Goals as goal

pub returns-clause-tasks : goal.returns-clause-tasks
returns-clause-tasks c = task_uses

pub returns-clause-messages : goal.returns-clause-messages
returns-clause-messages c = message_uses

pub returns-clause-trips : goal.returns-clause-trips
returns-clause-trips c = trip_tasks
