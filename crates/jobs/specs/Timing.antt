-- Meaning. When runs start and packets go: each word of time, defined once.
--   task_span        the runs of a task
--   departure        when packet 0 of a message leaves
--   packet_period    how far apart packets leave
--   run_number       the run that a run or packet counts as
--   link_delay       how long after a link the next one is taken
--   travel, offset   how long a route takes, and how long it takes to a place of it
--   arrival, due     when packets arrive, and from when on they must be read
use Rattle.std.specs.Prelude.{ℕ, ◌+◌, cond, List, [], ◌∷◌, take, ◌==◌}
use Rattle.holds.specs.Span.{Span}
use Rattle.records.specs.declared.record.Task.{Task}
use Rattle.records.specs.declared.record.Message.{Message}
use Rattle.fabric.specs.Network.{Network}
use Rattle.jobs.specs.declared.job.Job.{Job}

-- run k of a task starts at its phase and k periods, and lasts for its width
abbrev pub task_span : Task → Span
task_span t = record { start = t.phase; period = t.period; width = t.width }

-- packet 0 leaves when run 0 of the source has ended and the delay has passed
abbrev pub departure : Task → Message → ℕ
departure s m = s.phase + s.width + m.delay

-- a packet leaves after each run of the source
abbrev pub packet_period : Task → Message → ℕ
packet_period s m = s.period

-- run k of a task is its own; packet k belongs to run k of the source
abbrev pub run_number : Job → ℕ → ℕ
run_number x k = k

-- how long after a link a packet takes the next one
abbrev pub link_delay : Network → ℕ → ℕ
link_delay net l = net.delay

-- how long after the first link of a route a packet is past the last
abbrev pub travel : Network → List ℕ → ℕ
travel net [] = 0
travel net (l ∷ ls) = link_delay net l + travel net ls

-- how long after the first link a packet takes the link at place i
abbrev pub offset : Network → List ℕ → ℕ → ℕ
offset net route i = travel net (take i route)

-- packets that leave at start arrive past all links with their width; with no link, when they leave
abbrev pub arrival : (start links travel width : ℕ) → ℕ
arrival start links travel width = start + cond (links == 0) 0 (travel + width)

-- packet 0 is due at the start of time by kind 0, a period of the source later by kind 1
abbrev pub due : ℕ → ℕ → ℕ
due kind period = cond (kind == 0) 0 period
