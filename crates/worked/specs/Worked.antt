-- Meaning. Plans that were worked by hand, with the answers found there.
use Rattle.std.specs.Prelude.{List, [], ◌∷◌, ◌++◌, pos, negsuc, Err, codes}
use Rattle.jobs.specs.declared.fault.MessageFault.TheVariants as message_fault
use Rattle.jobs.specs.declared.fault.DropFault.TheVariants as drop_fault
use Rattle.plan.specs.declared.fault.LoadFault.TheVariants as load_fault
use Rattle.jobs.specs.declared.job.JobFault.TheVariants as job_fault
use Rattle.replay.specs.declared.calls.Answer.TheVariants as answer
use Rattle.replay.specs.declared.calls.Call.TheVariants as call
use Rattle.replay.specs.Calls.{Ask, Said}
use Rattle.worked.specs.Cases.{Case, Give, calling, routing, judging}
use Rattle.worked.specs.Cases.{mesh, task, message, open_task, open_message}
use Rattle.worked.specs.Cases.{task_taken, message_taken, task_meets, message_meets, late, task_placed, message_placed, no_phase, no_delay, dropped, in_use, unknown}
use Rattle.worked.specs.Cases.{all_loaded, slack, has, free, no_place, written, no_room}
use Rattle.worked.specs.Cases.{task_bytes, message_bytes, two_tasks, two_nodes, two_nodes_file}

-- on 3 by 3 nodes: tasks on nodes 0, 5, 1 and 2, and a message from the first to the second, over the links 0, 4 and 10
abbrev pub three_links : List Ask
three_links = task 1 0 20 0 4 ∷ task 2 5 20 15 5 ∷ task 3 1 20 0 5 ∷ task 4 2 20 0 9 ∷ message 1 1 2 0 0 2 ∷ []

abbrev pub three_taken : List Said
three_taken = task_taken ∷ task_taken ∷ task_taken ∷ task_taken ∷ message_taken ∷ []

-- on 4 by 1 nodes: a message over the links 0, 4 and 8, and the core that a second one comes from over link 8 alone
abbrev pub four_nodes : List Ask
four_nodes = task 1 0 20 0 4 ∷ task 2 2 20 0 4 ∷ task 3 3 20 15 5 ∷ message 1 1 3 1 0 2 ∷ []

abbrev pub four_taken : List Said
four_taken = task_taken ∷ task_taken ∷ task_taken ∷ message_taken ∷ []

-- the example of the calls, on two nodes
abbrev pub example : List Ask
example =
    task 1 0 20 0 4 ∷ task 2 1 20 15 5 ∷ message 1 1 2 0 0 2 ∷ call.Slack 1 ∷ message 2 1 2 0 1 2 ∷ open_message 2 1 2 0 2
    ∷ call.LinkHolder 0 27 ∷ call.DropTask 1 ∷ message 3 1 2 0 7 2 ∷ call.Write 67 ∷ call.Write 100 ∷ []

abbrev pub example_answers : List Said
example_answers =
    task_taken ∷ task_taken ∷ message_taken ∷ slack (pos 6) ∷ message_meets 5 1 0 ∷ message_placed 2
    ∷ has 2 1 ∷ in_use ∷ late (negsuc 0) ∷ no_room ∷ written (two_tasks ++ 0 ∷ 2 ∷ message_bytes 1 1 2 0 0 2 ++ message_bytes 2 1 2 0 2 2) ∷ []

-- the cases
abbrev pub worked : List Case
worked =
    -- beside a task of period 4, one of period 6 fits at phase 1, and not at phase 2
    calling (mesh 1 1 0) (task 1 0 4 0 1 ∷ task 2 0 6 1 1 ∷ []) (task_taken ∷ task_taken ∷ [])
    ∷ calling (mesh 1 1 0) (task 1 0 4 0 1 ∷ task 2 0 6 2 1 ∷ []) (task_taken ∷ task_meets 8 1 0 ∷ [])
    -- one of period 9 meets it wherever it starts
    ∷ calling (mesh 1 1 0) (task 1 0 4 0 1 ∷ task 2 0 9 1 1 ∷ []) (task_taken ∷ task_meets 28 1 0 ∷ [])
    ∷ calling (mesh 1 1 0) (task 1 0 4 0 1 ∷ open_task 2 0 9 1 ∷ []) (task_taken ∷ no_phase ∷ [])
    ∷ calling (mesh 1 1 0) (task 1 0 4 0 1 ∷ open_task 2 0 6 1 ∷ []) (task_taken ∷ task_placed 1 ∷ [])
    -- routes go along x first
    ∷ routing (mesh 3 3 0) 0 5 (0 ∷ 4 ∷ 10 ∷ [])
    ∷ routing (mesh 3 3 0) 5 0 (21 ∷ 17 ∷ 15 ∷ [])
    -- on one core a message may have no slack, and no delay then
    ∷ calling (mesh 1 1 0) (task 1 0 20 0 4 ∷ task 2 0 20 4 5 ∷ message 1 1 2 0 0 1 ∷ call.Slack 1 ∷ [])
    (task_taken ∷ task_taken ∷ message_taken ∷ slack (pos 0) ∷ [])
    ∷ calling (mesh 1 1 0) (task 1 0 20 0 4 ∷ task 2 0 20 4 5 ∷ message 1 1 2 0 1 1 ∷ []) (task_taken ∷ task_taken ∷ late (negsuc 0) ∷ [])
    -- two nodes: slack 6 with no delay, 0 with delay 6, and late with delay 7
    ∷ calling (mesh 2 1 3) (call.Load (two_nodes 0) ∷ call.Slack 1 ∷ []) (all_loaded 2 1 ∷ slack (pos 6) ∷ [])
    ∷ calling (mesh 2 1 3) (call.Load (two_nodes 6) ∷ call.Slack 1 ∷ []) (all_loaded 2 1 ∷ slack (pos 0) ∷ [])
    ∷ calling (mesh 2 1 3) (call.Load (two_nodes 7) ∷ []) (answer.Loaded (Err (load_fault.Offer 0 (job_fault.Message (message_fault.Late (negsuc 0))))) ∷ [])
    -- the whole file of two nodes, and what is printed of it
    ∷ judging (two_nodes_file 0) (codes "CLEAR 2 1\n")
    ∷ judging (two_nodes_file 6) (codes "CLEAR 2 1\n")
    ∷ judging (two_nodes_file 7) (codes "REFUSED 4 0 19 LATE -1\n")
    -- what was loaded is written, where it has the room, and in ascending names whatever the order of the offers
    ∷ calling (mesh 2 1 3) (call.Load (two_nodes 0) ∷ call.Write 51 ∷ call.Write 52 ∷ []) (all_loaded 2 1 ∷ no_room ∷ written (two_nodes 0) ∷ [])
    ∷ calling (mesh 2 1 3) (task 2 1 20 15 5 ∷ task 1 0 20 0 4 ∷ message 1 1 2 0 0 2 ∷ call.Write 4096 ∷ [])
    (task_taken ∷ task_taken ∷ message_taken ∷ written (two_nodes 0) ∷ [])
    -- a second message meets the first on its link, and is placed behind it
    ∷ calling (mesh 2 1 3) (call.Load (two_nodes 0) ∷ message 2 1 2 0 1 2 ∷ open_message 2 1 2 0 2 ∷ []) (all_loaded 2 1 ∷ message_meets 5 1 0 ∷ message_placed 2 ∷ [])
    -- to a faster reader the least slack is not that of packet 0, and by kind 1 there is a period more
    ∷ calling (mesh 2 1 3) (task 1 0 20 0 4 ∷ task 2 1 8 5 1 ∷ message 1 1 2 0 0 2 ∷ message 1 1 2 1 0 2 ∷ call.Slack 1 ∷ [])
    (task_taken ∷ task_taken ∷ late (negsuc 7) ∷ message_taken ∷ slack (pos 12) ∷ [])
    -- its packets are apart by the source's period
    ∷ calling (mesh 2 1 3) (task 1 0 20 0 4 ∷ task 2 1 8 5 1 ∷ message 1 1 2 1 0 2 ∷ call.LinkHolder 0 12 ∷ call.LinkHolder 0 24 ∷ [])
    (task_taken ∷ task_taken ∷ message_taken ∷ free ∷ has 1 1 ∷ [])
    -- a run that starts when a packet is due reads it: the first by kind 0, and the second, at 20, by kind 1
    ∷ calling (mesh 2 1 3) (task 1 0 20 0 4 ∷ task 2 1 20 0 4 ∷ message 1 1 2 0 0 2 ∷ message 1 1 2 1 0 2 ∷ call.Slack 1 ∷ [])
    (task_taken ∷ task_taken ∷ late (negsuc 8) ∷ message_taken ∷ slack (pos 11) ∷ [])
    -- on three links with delay 2 a message takes each 2 instants after the one before: others meet it at 6 on the second and at 9 on the third
    ∷ calling (mesh 3 3 2) (three_links ++ message 2 3 4 1 0 2 ∷ message 3 4 2 1 0 2 ∷ []) (three_taken ++ message_meets 6 1 4 ∷ message_meets 9 1 10 ∷ [])
    -- who has a core or a link, by the run or packet that has it; after its width it is free
    ∷ calling (mesh 3 3 2) (three_links ++ call.LinkHolder 10 29 ∷ call.LinkHolder 10 30 ∷ call.CoreHolder 0 23 ∷ call.CoreHolder 0 24 ∷ [])
    (three_taken ++ has 1 1 ∷ free ∷ has 1 1 ∷ free ∷ [])
    -- a task whose message is held is not dropped, and is once the message is
    ∷ calling (mesh 3 3 2) (three_links ++ call.DropTask 1 ∷ call.DropMessage 1 ∷ call.DropTask 1 ∷ call.DropTask 1 ∷ [])
    (three_taken ++ in_use ∷ dropped ∷ dropped ∷ unknown ∷ [])
    -- widths over 1: from 0 a task has its core up to 3, so another one meets it from 3, and not from 4
    ∷ calling (mesh 1 1 0) (task 1 0 10 0 4 ∷ task 2 0 10 3 2 ∷ task 2 0 10 4 2 ∷ []) (task_taken ∷ task_meets 3 1 0 ∷ task_taken ∷ [])
    -- the second instant of the run at 19 is met by the run at 20; a run of one instant is not
    ∷ calling (mesh 1 1 0) (task 1 0 10 0 4 ∷ task 2 0 15 4 2 ∷ task 2 0 15 4 1 ∷ []) (task_taken ∷ task_meets 20 1 0 ∷ task_taken ∷ [])
    -- of two held tasks met at one instant or the other, the one met first is named
    ∷ calling (mesh 1 1 0) (task 1 0 20 10 2 ∷ task 2 0 20 4 2 ∷ task 3 0 20 3 9 ∷ []) (task_taken ∷ task_taken ∷ task_meets 4 2 0 ∷ [])
    -- on one core two messages go at the same instants: they have no link
    ∷ calling (mesh 1 1 0) (task 1 0 20 0 4 ∷ task 2 0 20 4 5 ∷ message 1 1 2 0 0 1 ∷ message 2 1 2 0 0 1 ∷ [])
    (task_taken ∷ task_taken ∷ message_taken ∷ message_taken ∷ [])
    -- packet 0 leaves after the first period, and meets a packet then
    ∷ calling (mesh 2 1 0) (task 1 0 10 0 4 ∷ task 2 0 10 6 4 ∷ task 3 1 10 8 1 ∷ message 1 1 3 1 0 2 ∷ message 2 2 3 1 4 2 ∷ [])
    (task_taken ∷ task_taken ∷ task_taken ∷ message_taken ∷ message_meets 14 1 0 ∷ [])
    -- on 4 by 1 nodes the last of three links is taken at 8: a message on it at 8 is refused, and at 4 is taken
    ∷ calling (mesh 4 1 2) (four_nodes ++ message 2 2 3 1 4 2 ∷ message 2 2 3 1 0 2 ∷ call.Slack 1 ∷ call.Slack 2 ∷ [])
    (four_taken ++ message_meets 8 1 8 ∷ message_taken ∷ slack (pos 23) ∷ slack (pos 27) ∷ [])
    -- each link of the route is taken 2 instants after the one before it
    ∷ calling (mesh 4 1 2) (four_nodes ++ call.LinkHolder 0 4 ∷ call.LinkHolder 4 5 ∷ call.LinkHolder 4 6 ∷ call.LinkHolder 8 7 ∷ call.LinkHolder 8 8 ∷ [])
    (four_taken ++ has 1 0 ∷ free ∷ has 1 0 ∷ free ∷ has 1 0 ∷ [])
    -- by kind 1 a message is placed where none by kind 0 is in time, and there is a period more
    ∷ calling (mesh 2 1 3) (task 1 0 20 0 4 ∷ task 2 1 20 5 5 ∷ open_message 1 1 2 0 2 ∷ open_message 1 1 2 1 2 ∷ call.Slack 1 ∷ [])
    (task_taken ∷ task_taken ∷ no_delay ∷ message_placed 0 ∷ slack (pos 16) ∷ [])
    ∷ calling (mesh 2 1 3) (call.Load (two_nodes 0) ∷ open_message 2 1 2 1 2 ∷ call.Slack 2 ∷ []) (all_loaded 2 1 ∷ message_placed 2 ∷ slack (pos 24) ∷ [])
    -- the example of the calls
    ∷ calling (mesh 2 1 3) example example_answers
    -- the last core and the last link are free, and there is none after them; runs count from 0
    ∷ calling (mesh 2 1 3) (call.CoreHolder 1 0 ∷ call.CoreHolder 2 0 ∷ call.LinkHolder 7 0 ∷ call.LinkHolder 8 0 ∷ []) (free ∷ no_place ∷ free ∷ no_place ∷ [])
    ∷ calling (mesh 2 1 3) (call.Load (two_nodes 0) ∷ call.CoreHolder 1 14 ∷ call.CoreHolder 1 15 ∷ call.CoreHolder 1 35 ∷ call.LinkHolder 0 5 ∷ call.LinkHolder 0 6 ∷ [])
    (all_loaded 2 1 ∷ free ∷ has 2 0 ∷ has 2 1 ∷ has 1 0 ∷ free ∷ [])
    -- neither end of a held message is dropped, and what is dropped is no longer known
    ∷ calling (mesh 2 1 3) (call.Load (two_nodes 0) ∷ call.DropTask 3 ∷ call.DropMessage 2 ∷ call.DropTask 1 ∷ call.DropTask 2 ∷ call.DropMessage 1
    ∷ call.Slack 1 ∷ call.DropMessage 1 ∷ call.DropTask 2 ∷ call.Write 20 ∷ call.DropTask 1 ∷ call.Write 4 ∷ [])
    (all_loaded 2 1 ∷ unknown ∷ unknown ∷ in_use ∷ in_use ∷ dropped
    ∷ answer.Slack (Err drop_fault.Unknown) ∷ unknown ∷ dropped ∷ written (0 ∷ 1 ∷ task_bytes 1 0 20 0 4 ++ 0 ∷ 0 ∷ []) ∷ dropped ∷ written (0 ∷ 0 ∷ 0 ∷ 0 ∷ []) ∷ [])
    -- the task between two others is dropped, and those stay
    ∷ calling (mesh 1 1 0) (task 1 0 20 0 4 ∷ task 2 0 20 4 5 ∷ task 3 0 20 10 5 ∷ call.DropTask 2 ∷ call.CoreHolder 0 0 ∷ call.CoreHolder 0 4
    ∷ call.CoreHolder 0 10 ∷ [])
    (task_taken ∷ task_taken ∷ task_taken ∷ dropped ∷ has 1 0 ∷ free ∷ has 3 0 ∷ [])
    -- two held messages met at one instant on two links: the smaller name is told; one met on three links: the smallest link
    ∷ calling (mesh 3 1 0) (task 1 0 20 0 4 ∷ task 2 1 20 0 4 ∷ task 3 2 20 15 5 ∷ message 2 1 2 1 0 2 ∷ message 1 2 3 0 0 2 ∷ message 3 1 3 0 0 2 ∷ [])
    (task_taken ∷ task_taken ∷ task_taken ∷ message_taken ∷ message_taken ∷ message_meets 4 1 4 ∷ [])
    ∷ calling (mesh 3 3 0) (task 1 5 20 0 4 ∷ task 2 0 20 15 5 ∷ message 1 1 2 0 0 2 ∷ message 2 1 2 0 1 2 ∷ [])
    (task_taken ∷ task_taken ∷ message_taken ∷ message_meets 5 1 15 ∷ [])
    -- beside a width of 4 of 10 there is room for 6, from 4 on, and not for 7
    ∷ calling (mesh 1 1 0) (task 1 0 10 0 4 ∷ open_task 2 0 10 7 ∷ open_task 2 0 10 6 ∷ call.CoreHolder 0 4 ∷ call.CoreHolder 0 19 ∷ [])
    (task_taken ∷ no_phase ∷ task_placed 4 ∷ has 2 0 ∷ has 2 1 ∷ [])
    -- beside one of 19 of 20, a packet of one instant has room by the greatest delay alone, and a second one has none
    ∷ calling (mesh 2 1 3) (task 1 0 20 0 4 ∷ task 2 1 20 15 5 ∷ message 1 1 2 1 0 19 ∷ open_message 2 1 2 1 1 ∷ open_message 3 1 2 1 1 ∷ [])
    (task_taken ∷ task_taken ∷ message_taken ∷ message_placed 19 ∷ no_delay ∷ [])
    -- a message is placed with no slack where each delay before has the link taken, and not one instant later
    ∷ calling (mesh 2 1 3) (task 1 0 20 0 4 ∷ task 2 1 20 15 5 ∷ message 1 1 2 1 0 6 ∷ open_message 2 1 2 0 2 ∷ call.Slack 2 ∷ [])
    (task_taken ∷ task_taken ∷ message_taken ∷ message_placed 6 ∷ slack (pos 0) ∷ [])
    ∷ calling (mesh 2 1 3) (task 1 0 20 0 4 ∷ task 2 1 20 15 5 ∷ message 1 1 2 1 0 7 ∷ open_message 2 1 2 0 2 ∷ [])
    (task_taken ∷ task_taken ∷ message_taken ∷ no_delay ∷ [])
    -- names in any order are held in ascending order
    ∷ calling (mesh 1 1 0) (task 3 0 20 10 1 ∷ task 1 0 20 0 1 ∷ task 2 0 20 5 1 ∷ call.Write 52 ∷ [])
    (task_taken ∷ task_taken ∷ task_taken ∷ written (0 ∷ 3 ∷ task_bytes 1 0 20 0 1 ++ task_bytes 2 0 20 5 1 ++ task_bytes 3 0 20 10 1 ++ 0 ∷ 0 ∷ []) ∷ [])
    -- the first of two messages is dropped, and the other stays
    ∷ calling (mesh 2 1 3) (call.Load (two_nodes 0) ∷ open_message 2 1 2 0 2 ∷ call.DropMessage 1 ∷ call.LinkHolder 0 4 ∷ call.LinkHolder 0 6 ∷ call.Slack 2 ∷ [])
    (all_loaded 2 1 ∷ message_placed 2 ∷ dropped ∷ free ∷ has 2 0 ∷ slack (pos 4) ∷ [])
    -- the link of a dropped message is free for another
    ∷ calling (mesh 2 1 3) (call.Load (two_nodes 0) ∷ call.DropMessage 1 ∷ message 2 1 2 0 1 2 ∷ call.LinkHolder 0 4 ∷ call.LinkHolder 0 5 ∷ [])
    (all_loaded 2 1 ∷ dropped ∷ message_taken ∷ free ∷ has 2 0 ∷ [])
    -- among the last instants of 64 bits
    ∷ calling (mesh 2 1 3) (call.Load (two_nodes 0) ∷ call.CoreHolder 0 18446744073709551603 ∷ call.LinkHolder 0 18446744073709551605
    ∷ call.LinkHolder 0 18446744073709551606 ∷ [])
    (all_loaded 2 1 ∷ has 1 922337203685477580 ∷ has 1 922337203685477580 ∷ free ∷ [])
    ∷ []

-- the definitions give every case
abbrev pub Worked : Type 0
Worked = Give worked
