-- Meaning. What is not safe to hold: two runs or packets that have one place, with the instant; and late packets, where the lines say which.
use Rattle.std.specs.Prelude.{ℕ, ◌+◌, ◌*◌, List, [], ◌∷◌}
use Rattle.records.specs.declared.record.Task.{Task}
use Rattle.records.specs.declared.record.Message.{Message}
use Rattle.jobs.specs.declared.job.Job.{Job}
use Rattle.jobs.specs.declared.job.Job.TheVariants as job
use Rattle.jobs.specs.declared.place.Place.{Place}
use Rattle.jobs.specs.Jobs.{Jobs, Setting}
use Rattle.jobs.specs.Places.{core, link}
use Rattle.promise.specs.Clean.{Safe, Uses}
use Rattle.worked.specs.Cases.{mesh}

abbrev pub Unsafe : Setting → Jobs → Type 0
Unsafe g js = Safe g js → ⊥

-- tasks by name, core and times; messages by name, tasks, kind and times
abbrev pub run_of : (name core period phase width : ℕ) → Task
run_of n c p f w = record { name = n; core = c; period = p; phase = f; width = w }

abbrev pub packet_of : (name source destination kind delay width : ℕ) → Message
packet_of n s d k delay w = record { name = n; source = s; destination = d; kind = k; delay = delay; width = w }

abbrev pub both : List Task → List Message → Jobs
both ts ms = record { tasks = ts; messages = ms }

-- two nodes, where a packet is past the link 3 instants after it takes it
abbrev pub two : Setting
two = mesh 2 1 3

-- four nodes in a row, where a packet is past each link 1 instant after it takes it
abbrev pub row : Setting
row = mesh 4 1 1

-- run k of x and run j of y have the place at the instant n, and what is held is not safe
abbrev pub Clash : Setting → Jobs → (x y : Job) (k j : ℕ) (place : Place) (n : ℕ) → Type 0
Clash g js x y k j place n = Uses g js x k place n × Uses g js y j place n × Unsafe g js

pub record UnsafePlans : Type 0 where
  -- run 0 of a task still has its core at b + 4, when run 1 starts
  pub own_runs :
      (b : ℕ)
      → let t = run_of 1 0 4 b 5 in
      Clash two (both (t ∷ []) []) (job.Task t) (job.Task t) 0 1 (core 0) (b + 4)
  -- two tasks of different periods meet first at (b + 2) * (b + 2), by runs b + 2 and b + 1
  pub late_runs :
      (b : ℕ)
      → let s = run_of 1 1 (b + 2) 0 1 in
      let t = run_of 2 1 (b + 3) 1 1 in
      Clash two (both (s ∷ t ∷ []) []) (job.Task s) (job.Task t) (b + 2) (b + 1) (core 1) ((b + 2) * (b + 2))
  -- two messages have one link first at b + 5; the tasks are apart, and each packet is on time
  pub packets :
      (b : ℕ)
      → let m = packet_of 1 1 2 0 0 2 in
      let o = packet_of 2 1 2 0 1 2 in
      let ts = run_of 1 0 (b + 20) b 4 ∷ run_of 2 1 (b + 20) (b + 15) 5 ∷ [] in
      Clash two (both ts (m ∷ o ∷ [])) (job.Message m) (job.Message o) 0 0 (link 0) (b + 5)
  -- at b + b + 24 packets 0 and 1 of one message first have one link, and each is on time
  pub own_packets :
      (b : ℕ)
      → let m = packet_of 1 1 2 1 0 (b + 30) in
      let ts = run_of 1 1 (b + 20) b 4 ∷ run_of 2 0 (b + 20) (b + 17) 3 ∷ [] in
      Clash two (both ts (m ∷ [])) (job.Message m) (job.Message m) 0 1 (link 5) (b + b + 24)
  -- over two links each, of which they share one, two messages first have it at 2 + (b + 6) * (b + 6), by packets b + 6 and b + 5
  pub late_packets :
      (b : ℕ)
      → let m = packet_of 1 1 2 0 0 1 in
      let o = packet_of 2 3 4 0 2 1 in
      let ts = run_of 1 0 (b + 6) 0 1 ∷ run_of 2 2 (b + 6) 4 1 ∷ run_of 3 1 (b + 7) 0 1 ∷ run_of 4 3 (b + 7) 6 1 ∷ [] in
      Clash row (both ts (m ∷ o ∷ [])) (job.Message m) (job.Message o) (b + 6) (b + 5) (link 4) (2 + (b + 6) * (b + 6))
  -- each packet arrives one instant after the run starts that must read it
  pub just_late : Unsafe two (both (run_of 1 0 20 0 4 ∷ run_of 2 1 20 8 5 ∷ []) (packet_of 1 1 2 0 0 2 ∷ []))
  -- each packet has one instant less than the one before it, and packet b is the first that is late
  pub late_packet : (b : ℕ) → Unsafe two (both (run_of 1 0 (b + 10) 0 4 ∷ run_of 2 1 (b + 9) (b + 8) 1 ∷ []) (packet_of 1 1 2 0 0 2 ∷ []))
  -- and by kind 1
  pub late_next : (b : ℕ) → Unsafe two (both (run_of 1 0 (b + 11) 0 4 ∷ run_of 2 1 (b + 10) (b + 9) 1 ∷ []) (packet_of 1 1 2 1 (b + 9) 4 ∷ []))
