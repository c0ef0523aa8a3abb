-- Meaning. Plan files with their verdict lines, and refusals with their text, worked by hand byte for byte.
use Rattle.std.specs.Prelude.{ℕ, List, [], ◌∷◌, ◌++◌, map, take, negsuc, Err, codes}
use Rattle.std.specs.List.{range_with_len}
use Rattle.jobs.specs.declared.fault.TaskFault.TheVariants as task_fault
use Rattle.jobs.specs.declared.fault.MessageFault.TheVariants as message_fault
use Rattle.jobs.specs.declared.fault.DropFault.TheVariants as drop_fault
use Rattle.jobs.specs.declared.job.JobFault.TheVariants as job_fault
use Rattle.plan.specs.declared.fault.LayoutFault.TheVariants as layout
use Rattle.plan.specs.declared.fault.LoadFault.TheVariants as load_fault
use Rattle.replay.specs.declared.calls.Answer.TheVariants as answer
use Rattle.worked.specs.Cases.{Case, Give, judging, telling}
use Rattle.worked.specs.Cases.{task_taken, task_meets, message_meets, late, no_phase, no_delay, in_use, unknown}
use Rattle.worked.specs.Cases.{no_place, no_room}
use Rattle.worked.specs.Cases.{task_bytes, message_bytes, two_tasks, two_nodes, mesh_file, two_nodes_file}
use Rattle.worked.specs.Refused.{task_refused, message_refused, open_task_refused, open_message_refused, record_refused, no_task, no_message}

-- files with one verdict line
abbrev pub alike : List (List ℕ) → (line : List ℕ) → List Case
alike files line = map (λ f. judging f line) files

-- a file of a head and four empty sections
abbrev pub headed : (version kind x y delay zero : ℕ) → List ℕ
headed v k x y d z = v ∷ k ∷ x ∷ y ∷ d ∷ z ∷ 0 ∷ 0 ∷ 0 ∷ 0 ∷ 0 ∷ 0 ∷ 0 ∷ 0 ∷ []

-- two nodes on a mesh with one task, or with one message between two tasks
abbrev pub one_task : (name core period phase width : ℕ) → List ℕ
one_task n c p f w = mesh_file 2 1 (0 ∷ 1 ∷ task_bytes n c p f w ++ 0 ∷ 0 ∷ [])

abbrev pub one_message : (name source destination kind delay width : ℕ) → List ℕ
one_message n s d k delay w = mesh_file 2 1 (two_tasks ++ 0 ∷ 1 ∷ message_bytes n s d k delay w)

-- a listed fabric of so many nodes with hop delay 3, and what follows its head
abbrev pub listed_file : ℕ → List ℕ → List ℕ
listed_file nodes rest = 1 ∷ 2 ∷ nodes ∷ 1 ∷ 3 ∷ 0 ∷ rest

-- a route record of up to three links
abbrev pub route_bytes : (from to length zero a b c : ℕ) → List ℕ
route_bytes x y n z a b c = x ∷ y ∷ n ∷ z ∷ a ∷ b ∷ c ∷ 0 ∷ 0 ∷ 0 ∷ 0 ∷ 0 ∷ 0 ∷ 0 ∷ 0 ∷ 0 ∷ []

-- two nodes with link 0 from node 0 to node 1, and two with link 1 back besides
abbrev pub one_link : List ℕ → List ℕ
one_link rest = listed_file 2 (0 ∷ 1 ∷ 0 ∷ 1 ∷ rest)

abbrev pub two_links : List ℕ → List ℕ
two_links rest = listed_file 2 (0 ∷ 2 ∷ 0 ∷ 1 ∷ 1 ∷ 0 ∷ rest)

-- the two nodes of the mesh file, listed: one link and the route over it
abbrev pub one_route : List ℕ → List ℕ
one_route part = one_link (0 ∷ 1 ∷ route_bytes 0 1 1 0 0 0 0 ++ part)

-- one route record alone
abbrev pub of_route : List ℕ → List ℕ
of_route bytes = one_link (0 ∷ 1 ∷ bytes)

-- three nodes in a row, listed, with a message from the first to the third over the links 0 and 1
abbrev pub three_nodes : ℕ → List ℕ
three_nodes delay =
    listed_file 3 (0 ∷ 2 ∷ 0 ∷ 1 ∷ 1 ∷ 2 ∷ 0 ∷ 1 ∷ route_bytes 0 2 2 0 0 1 0
    ++ 0 ∷ 2 ∷ task_bytes 1 0 20 0 4 ++ task_bytes 2 2 20 15 5 ++ 0 ∷ 1 ∷ message_bytes 1 1 2 0 delay 2)

-- tasks on nodes 0 and 2, and a message between them, which a reader at 11 reads in time over one link with delay 3, and not over two
abbrev pub to_node_2 : List ℕ
to_node_2 = 0 ∷ 2 ∷ task_bytes 1 0 20 0 4 ++ task_bytes 2 2 20 11 5 ++ 0 ∷ 1 ∷ message_bytes 1 1 2 0 0 2

-- so many zeros
abbrev pub zeros : ℕ → List ℕ
zeros n = map (λ _. 0) (range_with_len 0 n)

-- the files with their lines
abbrev pub lines : List Case
lines =
    -- a mesh of three columns and two rows has node 2 two links from node 0, and one of two columns has it one link away
    judging (mesh_file 3 2 to_node_2) (codes "REFUSED 4 0 19 LATE -1\n")
    ∷ judging (mesh_file 2 3 to_node_2) (codes "CLEAR 2 1\n")
    -- a file that is cut off: in the head, in a count, or in a record of tasks or messages
    ∷ judging (take 5 (two_nodes_file 0)) (codes "REFUSED 0 0 1 SHORT\n")
    ∷ judging (take 7 (two_nodes_file 0)) (codes "REFUSED 1 0 1 SHORT\n")
    ∷ judging (take 9 (two_nodes_file 0)) (codes "REFUSED 2 0 1 SHORT\n")
    ∷ judging (take 11 (two_nodes_file 0)) (codes "REFUSED 3 0 1 SHORT\n")
    ∷ judging (take 30 (two_nodes_file 0)) (codes "REFUSED 3 1 1 SHORT\n")
    ∷ judging (take 61 (two_nodes_file 0)) (codes "REFUSED 4 0 1 SHORT\n")
    -- a version, a kind or a zero byte that is wrong, before a size that is
    ∷ alike (headed 2 1 2 1 3 0 ∷ headed 1 0 2 1 3 0 ∷ headed 1 3 2 1 3 0 ∷ headed 1 1 2 1 3 1 ∷ headed 1 3 9 1 3 0 ∷ []) (codes "REFUSED 0 0 2 VERSION\n")
    -- sizes and hop delays past their limits, of a mesh and of a listed fabric
    ++ alike (headed 1 1 0 1 0 0 ∷ headed 1 1 9 1 0 0 ∷ headed 1 1 1 0 0 0 ∷ headed 1 1 1 9 0 0 ∷ headed 1 1 1 1 65 0 ∷ []) (codes "REFUSED 0 0 3 HEAD\n")
    ++ alike (headed 1 2 0 1 0 0 ∷ headed 1 2 65 1 0 0 ∷ headed 1 2 1 0 0 0 ∷ headed 1 2 1 2 0 0 ∷ headed 1 2 1 1 65 0 ∷ []) (codes "REFUSED 0 0 3 HEAD\n")
    -- and those at them
    ++ alike (headed 1 1 1 1 0 0 ∷ headed 1 1 8 8 64 0 ∷ headed 1 2 1 1 0 0 ∷ headed 1 2 64 1 64 0 ∷ []) (codes "CLEAR 0 0\n")
    -- a mesh has no link and no route record; a listed fabric up to 128 and 256, which are then cut off
    ++ judging (1 ∷ 1 ∷ 2 ∷ 1 ∷ 3 ∷ 0 ∷ 0 ∷ 1 ∷ []) (codes "REFUSED 1 0 4 COUNT\n")
    ∷ judging (1 ∷ 1 ∷ 2 ∷ 1 ∷ 3 ∷ 0 ∷ 0 ∷ 0 ∷ 0 ∷ 1 ∷ []) (codes "REFUSED 2 0 4 COUNT\n")
    ∷ judging (listed_file 2 (0 ∷ 129 ∷ [])) (codes "REFUSED 1 0 4 COUNT\n")
    ∷ judging (listed_file 2 (0 ∷ 128 ∷ 0 ∷ 1 ∷ 1 ∷ [])) (codes "REFUSED 1 1 1 SHORT\n")
    ∷ judging (one_link (1 ∷ 1 ∷ [])) (codes "REFUSED 2 0 4 COUNT\n")
    ∷ judging (one_link (1 ∷ 0 ∷ take 15 (route_bytes 0 1 1 0 0 0 0))) (codes "REFUSED 2 0 1 SHORT\n")
    -- a link from or to no node, and from a node to itself, before the count of routes that is cut off
    ∷ alike (listed_file 2 (0 ∷ 1 ∷ 2 ∷ 0 ∷ []) ∷ listed_file 2 (0 ∷ 1 ∷ 0 ∷ 2 ∷ []) ∷ listed_file 2 (0 ∷ 1 ∷ 1 ∷ 1 ∷ []) ∷ []) (codes "REFUSED 1 0 5 LINK\n")
    ++ judging (listed_file 2 (0 ∷ 2 ∷ 0 ∷ 1 ∷ 1 ∷ 1 ∷ [])) (codes "REFUSED 1 1 5 LINK\n")
    -- a route from or to no node, from a node to itself, of no link or of 13, with a zero byte that is not 0, over no link, or with a link byte too many
    ∷ alike (of_route (route_bytes 2 1 1 0 0 0 0) ∷ of_route (route_bytes 0 2 1 0 0 0 0) ∷ of_route (route_bytes 0 0 1 0 0 0 0)
    ∷ of_route (route_bytes 0 1 0 0 0 0 0) ∷ of_route (route_bytes 0 1 13 0 0 0 0) ∷ of_route (route_bytes 0 1 1 1 0 0 0)
    ∷ of_route (route_bytes 0 1 1 0 1 0 0) ∷ of_route (route_bytes 0 1 1 0 0 0 1) ∷ []) (codes "REFUSED 2 0 6 ROUTE\n")
    -- a route that begins or ends elsewhere, has a gap, or has a link twice
    ++ alike (of_route (route_bytes 1 0 1 0 0 0 0) ∷ two_links (0 ∷ 1 ∷ route_bytes 0 1 2 0 0 1 0)
    ∷ of_route (route_bytes 0 1 2 0 0 0 0) ∷ two_links (0 ∷ 1 ∷ route_bytes 0 1 3 0 0 1 0)
    ∷ listed_file 3 (0 ∷ 2 ∷ 0 ∷ 1 ∷ 1 ∷ 2 ∷ 0 ∷ 1 ∷ route_bytes 0 2 1 0 1 0 0)
    ∷ listed_file 4 (0 ∷ 2 ∷ 0 ∷ 1 ∷ 2 ∷ 3 ∷ 0 ∷ 1 ∷ route_bytes 0 3 2 0 0 1 0) ∷ []) (codes "REFUSED 2 0 7 CHAIN\n")
    -- routes that do not ascend; a record's own faults come before its order, and all of them before the next record
    ++ judging (one_link (0 ∷ 2 ∷ route_bytes 0 1 1 0 0 0 0 ++ route_bytes 0 1 1 0 0 0 0)) (codes "REFUSED 2 1 8 ORDER\n")
    ∷ judging (two_links (0 ∷ 2 ∷ route_bytes 1 0 1 0 1 0 0 ++ route_bytes 0 1 1 0 0 0 0)) (codes "REFUSED 2 1 8 ORDER\n")
    ∷ judging (two_links (0 ∷ 2 ∷ route_bytes 0 1 1 0 0 0 0 ++ route_bytes 1 0 1 0 1 0 0 ++ 0 ∷ 0 ∷ 0 ∷ 0 ∷ [])) (codes "CLEAR 0 0\n")
    ∷ judging (one_link (0 ∷ 2 ∷ route_bytes 0 1 1 0 0 0 0 ++ route_bytes 0 1 2 0 0 0 0)) (codes "REFUSED 2 1 7 CHAIN\n")
    ∷ judging (one_link (0 ∷ 2 ∷ route_bytes 1 0 1 0 0 0 0 ++ route_bytes 0 1 0 0 0 0 0)) (codes "REFUSED 2 0 7 CHAIN\n")
    -- the two nodes, listed, and no route back; and three nodes in a row with slack 3
    ∷ judging (one_route (two_nodes 0)) (codes "CLEAR 2 1\n")
    ∷ judging (one_route (two_nodes 7)) (codes "REFUSED 4 0 19 LATE -1\n")
    ∷ judging (one_route (two_tasks ++ 0 ∷ 1 ∷ message_bytes 1 2 1 1 0 2)) (codes "REFUSED 4 0 17 NOROUTE\n")
    ∷ judging (three_nodes 3) (codes "CLEAR 2 1\n")
    ∷ judging (three_nodes 4) (codes "REFUSED 4 0 19 LATE -1\n")
    -- tasks that are refused
    ∷ judging (one_task 0 0 20 0 4) (codes "REFUSED 3 0 9 NAME\n")
    ∷ judging (one_task 1 2 20 0 4) (codes "REFUSED 3 0 10 CORE\n")
    ∷ judging (one_task 1 0 20 0 0) (codes "REFUSED 3 0 11 TIMES\n")
    ∷ judging (mesh_file 2 1 (0 ∷ 2 ∷ task_bytes 1 0 4 0 1 ++ task_bytes 2 0 6 2 1 ++ 0 ∷ 0 ∷ [])) (codes "REFUSED 3 1 13 MEETS 8 1 0\n")
    -- messages that are refused
    ∷ judging (one_message 0 1 2 0 0 2) (codes "REFUSED 4 0 14 NAME\n")
    ∷ judging (one_message 1 3 2 0 0 2) (codes "REFUSED 4 0 15 ENDS\n")
    ∷ judging (one_message 1 1 2 0 0 0) (codes "REFUSED 4 0 16 TIMES\n")
    ∷ judging (mesh_file 2 1 (two_tasks ++ 0 ∷ 2 ∷ message_bytes 1 1 2 0 0 2 ++ message_bytes 2 1 2 0 1 2)) (codes "REFUSED 4 1 20 MEETS 5 1 0\n")
    -- records are offered in the order of the file, whatever their names
    ∷ judging (mesh_file 1 1 (0 ∷ 2 ∷ task_bytes 2 0 10 0 4 ++ task_bytes 1 0 10 3 2 ++ 0 ∷ 0 ∷ [])) (codes "REFUSED 3 1 13 MEETS 3 2 0\n")
    ∷ judging (mesh_file 2 1 (two_tasks ++ 0 ∷ 2 ∷ message_bytes 2 1 2 0 0 2 ++ message_bytes 1 1 2 0 1 2)) (codes "REFUSED 4 1 20 MEETS 5 2 0\n")
    -- records that are none, and a byte too many
    ∷ judging (mesh_file 2 1 (0 ∷ 2 ∷ task_bytes 1 0 20 0 4 ++ no_task ++ 0 ∷ 0 ∷ [])) (codes "REFUSED 3 1 24 RECORD\n")
    ∷ judging (mesh_file 2 1 (two_tasks ++ 0 ∷ 1 ∷ no_message)) (codes "REFUSED 4 0 24 RECORD\n")
    ∷ judging (one_message 1 1 2 2 0 2) (codes "REFUSED 4 0 24 RECORD\n")
    ∷ judging (two_nodes_file 0 ++ 0 ∷ []) (codes "REFUSED 5 0 25 EXTRA\n")
    -- a file has at most 8,192 bytes, whatever they are
    ∷ judging (zeros 8193) (codes "REFUSED 5 0 25 EXTRA\n")
    ∷ judging (zeros 8192) (codes "REFUSED 0 0 2 VERSION\n")
    ∷ []

-- the refusals with their text
abbrev pub texts : List Case
texts =
    -- of a task
    telling (task_refused task_fault.Name) (codes "REFUSED 9 NAME")
    ∷ telling (task_refused task_fault.Core) (codes "REFUSED 10 CORE")
    ∷ telling (task_refused task_fault.Times) (codes "REFUSED 11 TIMES")
    ∷ telling (task_refused task_fault.Full) (codes "REFUSED 12 FULL")
    ∷ telling (task_meets 8 1 0) (codes "REFUSED 13 MEETS 8 1 0")
    -- of a message
    ∷ telling (message_refused message_fault.Name) (codes "REFUSED 14 NAME")
    ∷ telling (message_refused message_fault.Ends) (codes "REFUSED 15 ENDS")
    ∷ telling (message_refused message_fault.Times) (codes "REFUSED 16 TIMES")
    ∷ telling (message_refused message_fault.NoRoute) (codes "REFUSED 17 NOROUTE")
    ∷ telling (message_refused message_fault.Full) (codes "REFUSED 18 FULL")
    ∷ telling (late (negsuc 7)) (codes "REFUSED 19 LATE -8")
    ∷ telling (message_meets 14 1 0) (codes "REFUSED 20 MEETS 14 1 0")
    -- of a placing, a dropping, a slack, a holder and a write
    ∷ telling (open_task_refused task_fault.Full) (codes "REFUSED 12 FULL")
    ∷ telling (open_message_refused message_fault.NoRoute) (codes "REFUSED 17 NOROUTE")
    ∷ telling no_phase (codes "REFUSED 23 NOFIT")
    ∷ telling no_delay (codes "REFUSED 23 NOFIT")
    ∷ telling unknown (codes "REFUSED 21 UNKNOWN")
    ∷ telling in_use (codes "REFUSED 22 INUSE")
    ∷ telling (answer.Slack (Err drop_fault.Unknown)) (codes "REFUSED 21 UNKNOWN")
    ∷ telling no_place (codes "REFUSED 26 PLACE")
    ∷ telling no_room (codes "REFUSED 27 BUFFER")
    -- of a load, with section and record
    ∷ telling (record_refused 1 (job_fault.Task (task_fault.Core))) (codes "REFUSED 3 1 10 CORE")
    ∷ telling (record_refused 2 (job_fault.Message (message_fault.Late (negsuc 0)))) (codes "REFUSED 4 2 19 LATE -1")
    ∷ telling (answer.Loaded (Err (load_fault.Layout layout.Extra))) (codes "REFUSED 5 0 25 EXTRA")
    -- nothing of what is taken
    ∷ telling task_taken []
    ∷ []

-- the definitions give every byte
abbrev pub Printed : Type 0
Printed = Give (lines ++ texts)
