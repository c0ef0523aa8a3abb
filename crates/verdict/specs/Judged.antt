-- Meaning. What a verdict says of a plan file, in the words of clean plans.
--   FileFabric     the network that a file sets, which keeps the laws of every fabric
--   FileClean      the jobs of a file that was taken whole are a clean plan on its fabric
--   FileRefused    a load that was refused, by the offers that it tries
--   TooLong, NoFabric    what else a file is refused for
use Rattle.std.specs.Prelude.{◌≡◌, ℕ, ◌<◌, ◌≤◌, ◌↔◌, List, length, Ok, Err, Result}
use Rattle.records.specs.declared.record.Task.{Task}
use Rattle.records.specs.declared.record.Message.{Message}
use Rattle.refusals.specs.declared.refusal.Counts.{Counts}
use Rattle.fabric.specs.Network.{IsFabric, Network}
use Rattle.listed.specs.declared.faults.SetFault.{SetFault}
use Rattle.jobs.specs.Jobs.{In, Jobs, created_on, nothing}
use Rattle.plan.specs.Held.{counts_of}
use Rattle.plan.specs.Loading.{job_part}
use Rattle.plan.specs.declared.fault.LoadFault.{LoadFault}
use Rattle.promise.specs.Clean.{Clean}
use Rattle.plan.specs.Loads.{LoadAnswer}
use Rattle.verdict.specs.Verdict.{file_part}
use Rattle.verdict.specs.declared.fault.FileFault.{FileFault}
use Rattle.verdict.specs.declared.fault.FileFault.TheVariants.{Extra, Fabric}

-- the network and the job part are the file's, and the network keeps the laws, with routes of at most 64 links
pub record FileFabric (file : List ℕ) (net : Network) (part : List ℕ) : Type 0 where
  pub read : file_part file ≡ Ok (net, part)
  pub lawful : IsFabric net

-- ---- verdicts

-- the jobs of the file's records, all of them and no other, are clean for all of time on the file's fabric, and n counts them
pub record FileClean (file : List ℕ) (n : Counts) : Type 0 where
  pub net : Network
  pub part : List ℕ
  pub fabric : FileFabric file net part
  pub tasks : List Task
  pub messages : List Message
  pub records : job_part part ≡ Ok (tasks, messages)
  pub held : Jobs
  pub all_tasks : (t : Task) → In t held.tasks ↔ In t tasks
  pub all_messages : (m : Message) → In m held.messages ↔ In m messages
  pub each_once : (length held.tasks ≡ length tasks) × (length held.messages ≡ length messages)
  pub clean : Clean (created_on net) held
  pub counted : n ≡ counts_of held

-- the job part is loaded into a new plan on the file's fabric: it has the layout fault e, or the offer of the record that e names,
-- with the jobs of the records before it held, was refused for this; and each offer that was tried is answered as promised, so a
-- refused one is refused by an earlier check, or because taking it would break the plan, for the reason told
pub record FileRefused (file : List ℕ) (e : LoadFault) : Type 0 where
  pub net : Network
  pub part : List ℕ
  pub fabric : FileFabric file net part
  pub load : LoadAnswer (created_on net) nothing part (Err e)

-- a file is refused as too long exactly where it has over 8,192 bytes
abbrev pub TooLong : List ℕ → Result Counts FileFault → Type 0
TooLong file r = (r ≡ Err Extra) ↔ (8192 < length file)

-- and one that is not, for its head, links or routes exactly where they make no network
abbrev pub NoFabric : List ℕ → Result Counts FileFault → Type 0
NoFabric file r = (e : SetFault) → (r ≡ Err (Fabric e)) ↔ ((length file ≤ 8192) × (file_part file ≡ Err e))
