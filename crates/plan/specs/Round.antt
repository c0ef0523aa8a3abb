-- Meaning. The bytes that say what is held: what a write gives, and that it loads back.
--   PartWritten    the answer to a write, and what it leaves of the buffer
--   ReadsBack      the job part reads as the held jobs
--   LoadsBack      the job part reads as the held jobs, and loaded into a new plan it gives them
--   RoundTrip      so it is for what a clean plan holds
--   SameBytes      plans that hold the same jobs write the same bytes
use Rattle.std.specs.Prelude.{◌≡◌, ℕ, ◌<◌, ◌≤◌, List, ◌++◌, drop, length, Ok, Err, Result}
use Rattle.refusals.specs.declared.refusal.BufferFault.{BufferFault}
use Rattle.fabric.specs.Network.{IsFabric}
use Rattle.jobs.specs.Jobs.{Jobs, Setting, nothing}
use Rattle.plan.specs.Held.{counts_of}
use Rattle.plan.specs.Loading.{job_part, load}
use Rattle.plan.specs.Writing.{part_bytes}
use Rattle.promise.specs.Canonical.{Canonical, SameMembers, ShortNames}
use Rattle.promise.specs.Clean.{Clean}

-- a taken write tells the length of the job part, which has the room, and the buffer begins with it, the bytes beyond as they were; one is
-- refused where there is not the room, and the buffer is as it was
abbrev pub PartWritten : Jobs → List ℕ → Result ℕ BufferFault → List ℕ → Type 0
PartWritten js before (Ok n) after = (n ≡ length (part_bytes js)) × (n ≤ length before) × (after ≡ part_bytes js ++ drop n before)
PartWritten js before (Err e) after = (length before < length (part_bytes js)) × (after ≡ before)

-- the bytes read as the held tasks and the held messages, record by record in the order in which they are held
abbrev pub ReadsBack : Jobs → Type 0
ReadsBack js = job_part (part_bytes js) ≡ Ok (js.tasks, js.messages)

-- the job part of the held jobs reads as these jobs in the order in which they are held, and loaded into a new plan over the same network
-- it is taken whole and gives the same jobs
abbrev pub LoadsBack : Setting → Jobs → Type 0
LoadsBack g js = ReadsBack js × (load g nothing (part_bytes js) ≡ (Ok (counts_of js), js))

-- so it is for what a clean plan holds
abbrev pub RoundTrip : Type 0
RoundTrip =
    (g : Setting) → IsFabric g.network → (js : Jobs) → Clean g js → Canonical js → ShortNames js
    → LoadsBack g js

-- plans that hold the same jobs are the same, and write the same bytes
abbrev pub SameBytes : Type 0
SameBytes = (a b : Jobs) → Canonical a → Canonical b → SameMembers a b → (a ≡ b) × (part_bytes a ≡ part_bytes b)
