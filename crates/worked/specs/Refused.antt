-- Meaning. Calls and loads that are refused, worked by hand, with the refusals found there; beside each limit, what is within it.
use Rattle.std.specs.Prelude.{ℕ, suc, cond, List, [], ◌∷◌, ◌++◌, map, take, pos, negsuc, Some, None, Err, ◌==◌}
use Rattle.std.specs.List.{range_with_len}
use Rattle.fabric.specs.Grid.{grid}
use Rattle.jobs.specs.Jobs.{Setting, created_on}
use Rattle.jobs.specs.declared.fault.TaskFault.{TaskFault}
use Rattle.jobs.specs.declared.fault.TaskFault.TheVariants as task_fault
use Rattle.jobs.specs.declared.fault.MessageFault.{MessageFault}
use Rattle.jobs.specs.declared.fault.MessageFault.TheVariants as message_fault
use Rattle.jobs.specs.declared.fault.PlacingFault.TheVariants as placing
use Rattle.jobs.specs.declared.job.JobFault.{JobFault}
use Rattle.jobs.specs.declared.job.JobFault.TheVariants as job_fault
use Rattle.plan.specs.declared.fault.LayoutFault.{LayoutFault}
use Rattle.plan.specs.declared.fault.LayoutFault.TheVariants as layout
use Rattle.plan.specs.declared.fault.LoadFault.TheVariants as load_fault
use Rattle.replay.specs.declared.calls.Answer.TheVariants as answer
use Rattle.replay.specs.declared.calls.Call.TheVariants as call
use Rattle.replay.specs.Calls.{Ask, Said}
use Rattle.worked.specs.Cases.{Case, Give, calling}
use Rattle.worked.specs.Cases.{mesh, task, message, open_task, open_message}
use Rattle.worked.specs.Cases.{task_taken, message_taken, late, dropped}
use Rattle.worked.specs.Cases.{all_loaded, slack, has, free, written}
use Rattle.worked.specs.Cases.{task_bytes, message_bytes, two_tasks, two_nodes}

-- answers
abbrev pub task_refused : TaskFault → Said
task_refused e = answer.TaskOffered (Err e)

abbrev pub message_refused : MessageFault → Said
message_refused e = answer.MessageOffered (Err e)

abbrev pub open_task_refused : TaskFault → Said
open_task_refused e = answer.TaskPlaced (Err (placing.Offer e))

abbrev pub open_message_refused : MessageFault → Said
open_message_refused e = answer.MessagePlaced (Err (placing.Offer e))

abbrev pub record_refused : (place : ℕ) → JobFault → Said
record_refused k e = answer.Loaded (Err (load_fault.Offer k e))

-- calls that are answered alike beside the jobs of two nodes: tasks 1 and 2, and message 1 between them
abbrev pub beside : List Ask → Said → Case
beside asks said = calling (mesh 2 1 3) (call.Load (two_nodes 0) ∷ asks) (all_loaded 2 1 ∷ map (λ _. said) asks)

-- a job part with such a layout, after which nothing is held
abbrev pub loading : List ℕ → LayoutFault → Case
loading part e = calling (mesh 2 1 3) (call.Load part ∷ call.Write 4 ∷ []) (answer.Loaded (Err (load_fault.Layout e)) ∷ written (0 ∷ 0 ∷ 0 ∷ 0 ∷ []) ∷ [])

-- two nodes without a route between them
abbrev pub no_route : Setting
no_route = created_on (record (grid 2 1 3) { route = λ a b. cond (a == b) (Some []) None })

-- two tasks on one core and one on another
abbrev pub three_tasks : List Ask
three_tasks = task 1 0 20 0 4 ∷ task 2 0 20 4 5 ∷ task 3 1 20 0 4 ∷ []

abbrev pub three_taken : List Said
three_taken = task_taken ∷ task_taken ∷ task_taken ∷ []

-- tasks 1 to 64, each on a core of its own and never off it
abbrev pub all_tasks : List Ask
all_tasks = map (λ k. task (suc k) k 1 0 1) (range_with_len 0 64)

-- messages 1 to 128 on one core
abbrev pub all_messages : List Ask
all_messages = map (λ k. message (suc k) 1 2 0 0 1) (range_with_len 0 128)

-- records with a wrong zero byte
abbrev pub no_task : List ℕ
no_task = 0 ∷ 2 ∷ 1 ∷ 1 ∷ 0 ∷ 0 ∷ 0 ∷ 20 ∷ 0 ∷ 0 ∷ 0 ∷ 15 ∷ 0 ∷ 0 ∷ 0 ∷ 5 ∷ []

abbrev pub no_message : List ℕ
no_message = 0 ∷ 1 ∷ 0 ∷ 1 ∷ 0 ∷ 2 ∷ 0 ∷ 1 ∷ 0 ∷ 0 ∷ 0 ∷ 0 ∷ 0 ∷ 0 ∷ 0 ∷ 2 ∷ []

-- task 258 has period 65,536, phase 258 and width 256, and message 513 from it to itself the delay 260
abbrev pub wide_numbers : List ℕ
wide_numbers =
    0 ∷ 1 ∷ 1 ∷ 2 ∷ 0 ∷ 0 ∷ 0 ∷ 1 ∷ 0 ∷ 0 ∷ 0 ∷ 0 ∷ 1 ∷ 2 ∷ 0 ∷ 0 ∷ 1 ∷ 0
    ∷ 0 ∷ 1 ∷ 2 ∷ 1 ∷ 1 ∷ 2 ∷ 1 ∷ 2 ∷ 1 ∷ 0 ∷ 0 ∷ 0 ∷ 1 ∷ 4 ∷ 0 ∷ 0 ∷ 1 ∷ 0 ∷ []

-- the calls that are refused
abbrev pub refused : List Case
refused =
    -- 9: the name 0, and a held name, on a core where it would be free
    beside (task 0 1 20 0 1 ∷ task 1 1 20 0 1 ∷ task 2 1 20 0 1 ∷ []) (task_refused task_fault.Name)
    -- 10: the cores are 0 and 1
    ∷ beside (task 3 2 20 0 1 ∷ task 3 255 20 0 1 ∷ []) (task_refused task_fault.Core)
    -- 11: a period of 0 or over 65,536, a width of 0 or over the period, and a phase that takes the width over it
    ∷ beside (task 3 1 0 0 0 ∷ task 3 1 0 0 1 ∷ task 3 1 65537 0 1 ∷ task 3 1 20 0 0 ∷ task 3 1 20 0 21 ∷ task 3 1 20 17 4 ∷ task 3 1 20 20 1 ∷ [])
    (task_refused task_fault.Times)
    -- the longest period and the last phase, and a width of the whole period, are within the limits
    ∷ calling (mesh 2 1 0) (task 1 0 65537 0 1 ∷ task 1 0 65536 65535 1 ∷ task 2 1 20 0 20 ∷ []) (task_refused task_fault.Times ∷ task_taken ∷ task_taken ∷ [])
    -- the name is looked at before the core, the core before the times, and these before a meeting
    ∷ beside (task 0 2 20 0 1 ∷ task 1 2 20 0 1 ∷ []) (task_refused task_fault.Name)
    ∷ beside (task 3 2 20 0 0 ∷ task 3 2 65537 0 1 ∷ []) (task_refused task_fault.Core)
    ∷ beside (task 3 0 20 2 19 ∷ task 3 0 65537 0 1 ∷ []) (task_refused task_fault.Times)
    -- 12: 64 tasks are held; the times are looked at before this, and this before a meeting; with one task less there is room for one
    ∷ calling (mesh 8 8 0)
    (all_tasks ++ task 65 0 0 0 0 ∷ task 65 0 1 0 1 ∷ open_task 65 0 1 1 ∷ call.DropTask 64 ∷ task 65 63 1 0 1 ∷ [])
    (map (λ _. task_taken) all_tasks ++ task_refused task_fault.Times ∷ task_refused task_fault.Full ∷ open_task_refused task_fault.Full ∷ dropped ∷ task_taken ∷ [])
    -- 14: the name 0, and a held name
    ∷ beside (message 0 1 2 1 2 2 ∷ message 1 1 2 1 2 2 ∷ []) (message_refused message_fault.Name)
    -- 15: a source or a destination that is not held
    ∷ beside (message 2 3 2 1 2 2 ∷ message 2 1 3 1 2 2 ∷ []) (message_refused message_fault.Ends)
    -- 16: kind 2, the source's period as delay, a width of 0 or over that period
    ∷ beside (message 2 1 2 2 2 2 ∷ message 2 1 2 1 20 1 ∷ message 2 1 2 1 2 0 ∷ message 2 1 2 1 0 21 ∷ []) (message_refused message_fault.Times)
    -- the greatest delay and the greatest width are within the limits
    ∷ beside (message 2 1 2 1 19 1 ∷ []) message_taken
    ∷ calling (mesh 2 1 3) (task 1 0 20 0 4 ∷ task 2 1 20 15 5 ∷ message 1 1 2 1 0 20 ∷ []) (task_taken ∷ task_taken ∷ message_taken ∷ [])
    -- that period is the source's: 8 of task 2, and 20 of task 1
    ∷ calling (mesh 2 1 3) (task 1 0 20 0 4 ∷ task 2 1 8 5 1 ∷ message 1 2 1 1 8 1 ∷ message 1 2 1 1 0 9 ∷ message 1 1 2 1 8 2 ∷ call.Slack 1 ∷ [])
    (task_taken ∷ task_taken ∷ message_refused message_fault.Times ∷ message_refused message_fault.Times ∷ message_taken ∷ slack (pos 4) ∷ [])
    -- 17: there is no route between the cores, and there is one from a core to itself
    ∷ calling no_route (three_tasks ++ message 1 1 3 1 0 2 ∷ message 1 3 1 1 0 2 ∷ message 1 1 2 1 0 2 ∷ [])
    (three_taken ++ message_refused message_fault.NoRoute ∷ message_refused message_fault.NoRoute ∷ message_taken ∷ [])
    -- the name is looked at before the ends, these before the times, and these before the route
    ∷ beside (message 0 3 2 1 2 2 ∷ message 1 1 3 1 2 2 ∷ []) (message_refused message_fault.Name)
    ∷ beside (message 2 3 2 2 2 2 ∷ message 2 1 3 1 2 0 ∷ []) (message_refused message_fault.Ends)
    ∷ calling no_route (three_tasks ++ message 1 1 3 2 0 2 ∷ []) (three_taken ++ message_refused message_fault.Times ∷ [])
    -- 18: 128 messages are held; the route is looked at before this, and this before lateness
    ∷ calling no_route
    (three_tasks ++ all_messages ++ message 129 1 3 1 0 2 ∷ message 129 1 2 0 1 1 ∷ open_message 129 1 2 0 1 ∷ call.DropMessage 128 ∷ message 129 1 2 0 0 1 ∷ [])
    (three_taken ++ map (λ _. message_taken) all_messages
    ++ message_refused message_fault.NoRoute ∷ message_refused message_fault.Full ∷ open_message_refused message_fault.Full ∷ dropped ∷ message_taken ∷ [])
    -- late by one instant and in the way at 4: late
    ∷ beside (message 2 1 2 0 0 9 ∷ []) (late (negsuc 0))
    -- placings are refused early as offers are, with the same checks in the same order
    ∷ beside (open_task 0 1 20 1 ∷ open_task 1 1 20 1 ∷ open_task 0 2 20 1 ∷ []) (open_task_refused task_fault.Name)
    ∷ beside (open_task 3 2 20 1 ∷ open_task 3 2 20 0 ∷ []) (open_task_refused task_fault.Core)
    ∷ beside (open_task 3 1 0 0 ∷ open_task 3 1 0 1 ∷ open_task 3 1 65537 1 ∷ open_task 3 1 20 0 ∷ open_task 3 1 20 21 ∷ []) (open_task_refused task_fault.Times)
    ∷ beside (open_message 0 1 2 1 2 ∷ open_message 1 1 2 1 2 ∷ open_message 0 3 2 1 2 ∷ []) (open_message_refused message_fault.Name)
    ∷ beside (open_message 2 3 2 1 2 ∷ open_message 2 1 3 1 2 ∷ open_message 2 3 2 2 2 ∷ []) (open_message_refused message_fault.Ends)
    ∷ beside (open_message 2 1 2 2 2 ∷ open_message 2 1 2 1 0 ∷ open_message 2 1 2 1 21 ∷ []) (open_message_refused message_fault.Times)
    ∷ calling no_route (three_tasks ++ open_message 1 1 3 1 2 ∷ open_message 1 1 3 2 2 ∷ [])
    (three_taken ++ open_message_refused message_fault.NoRoute ∷ open_message_refused message_fault.Times ∷ [])
    -- loads: names may descend, and what is written ascends
    ∷ calling (mesh 2 1 3)
    (call.Load (0 ∷ 2 ∷ task_bytes 2 1 20 15 5 ++ task_bytes 1 0 20 0 4 ++ 0 ∷ 2 ∷ message_bytes 2 1 2 0 2 2 ++ message_bytes 1 1 2 0 0 2) ∷ call.Write 68 ∷ [])
    (all_loaded 2 2 ∷ written (two_tasks ++ 0 ∷ 2 ∷ message_bytes 1 1 2 0 0 2 ++ message_bytes 2 1 2 0 2 2) ∷ [])
    -- numbers of more than one byte, as they are read and as they are written
    ∷ calling (mesh 1 1 0) (call.Load wide_numbers
    ∷ call.CoreHolder 0 257 ∷ call.CoreHolder 0 258 ∷ call.CoreHolder 0 513 ∷ call.CoreHolder 0 514 ∷ call.CoreHolder 0 65794 ∷ call.Slack 513 ∷ call.Write 36 ∷ [])
    (all_loaded 1 1 ∷ free ∷ has 258 0 ∷ has 258 0 ∷ free ∷ has 258 1 ∷ slack (pos 65020) ∷ written wide_numbers ∷ [])
    -- 1: a section's count is cut off, or a record of it, after so many whole ones
    ∷ loading [] (layout.TasksShort 0)
    ∷ loading (take 1 (two_nodes 0)) (layout.TasksShort 0)
    ∷ loading (take 17 (two_nodes 0)) (layout.TasksShort 0)
    ∷ loading (take 33 (two_nodes 0)) (layout.TasksShort 1)
    ∷ loading (take 34 (two_nodes 0)) (layout.MessagesShort 0)
    ∷ loading (take 35 (two_nodes 0)) (layout.MessagesShort 0)
    ∷ loading (take 51 (two_nodes 0)) (layout.MessagesShort 0)
    ∷ loading (two_tasks ++ 0 ∷ 2 ∷ message_bytes 1 1 2 0 0 2 ++ 0 ∷ []) (layout.MessagesShort 1)
    -- 25: one byte follows
    ∷ loading (two_nodes 0 ++ 0 ∷ []) layout.Extra
    -- 24: a zero byte that is not 0, and kind 2
    ∷ loading (0 ∷ 2 ∷ task_bytes 1 0 20 0 4 ++ no_task ++ 0 ∷ 0 ∷ []) (layout.NoTask 1)
    ∷ loading (two_tasks ++ 0 ∷ 1 ∷ no_message) (layout.NoMessage 0)
    ∷ loading (two_tasks ++ 0 ∷ 2 ∷ message_bytes 1 1 2 0 0 2 ++ message_bytes 2 1 2 2 2 2) (layout.NoMessage 1)
    -- a cut section is told before bytes that follow, these before a task, a task before a message, and a message before any offer
    ∷ loading (0 ∷ 1 ∷ no_task ++ 0 ∷ 1 ∷ []) (layout.MessagesShort 0)
    ∷ loading (0 ∷ 1 ∷ no_task ++ 0 ∷ 0 ∷ 0 ∷ []) layout.Extra
    ∷ loading (0 ∷ 1 ∷ no_task ++ 0 ∷ 1 ∷ no_message) (layout.NoTask 0)
    ∷ loading (0 ∷ 1 ∷ task_bytes 0 0 20 0 4 ++ 0 ∷ 1 ∷ no_message) (layout.NoMessage 0)
    -- a task on no core is refused, and the one before it is held; and so it is with a message from a task that is not held
    ∷ calling (mesh 2 1 3) (call.Load (0 ∷ 2 ∷ task_bytes 1 0 20 0 4 ++ task_bytes 2 2 20 15 5 ++ 0 ∷ 0 ∷ []) ∷ call.CoreHolder 0 3 ∷ call.Write 20 ∷ [])
    (record_refused 1 (job_fault.Task task_fault.Core) ∷ has 1 0 ∷ written (0 ∷ 1 ∷ task_bytes 1 0 20 0 4 ++ 0 ∷ 0 ∷ []) ∷ [])
    ∷ calling (mesh 2 1 3) (call.Load (two_tasks ++ 0 ∷ 2 ∷ message_bytes 1 1 2 0 0 2 ++ message_bytes 2 3 2 0 2 2) ∷ call.Write 52 ∷ [])
    (record_refused 1 (job_fault.Message message_fault.Ends) ∷ written (two_nodes 0) ∷ [])
    -- what is held is not loaded again
    ∷ beside (call.Load (two_nodes 0) ∷ []) (record_refused 0 (job_fault.Task task_fault.Name))
    ∷ []

-- the definitions give every refusal
abbrev pub Refused : Type 0
Refused = Give refused
