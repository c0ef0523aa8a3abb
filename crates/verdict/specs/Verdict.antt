-- Rule. The verdict on the bytes of a plan file: how many tasks and messages are held, or the first fault.
use Rattle.std.specs.Prelude.{ℕ, cond, List, length, Ok, Err, Result, nat_lt}
use Rattle.records.specs.Head.{head_read}
use Rattle.records.specs.declared.head.FabricKind.{FabricKind}
use Rattle.records.specs.declared.head.FabricKind.TheVariants.{Mesh as MeshKind, Listed as ListedKind}
use Rattle.records.specs.declared.head.Head.{Head as FileHead}
use Rattle.records.specs.declared.head.HeadFault.{HeadFault}
use Rattle.records.specs.declared.head.HeadFault.TheVariants.{Limits}
use Rattle.fabric.specs.Grid.{grid_made}
use Rattle.fabric.specs.Network.{Network}
use Rattle.refusals.specs.Steps.{◌>>=◌, within}
use Rattle.listed.specs.Description.{description_read, network, section_read}
use Rattle.listed.specs.declared.faults.SetFault.{SetFault}
use Rattle.listed.specs.declared.faults.SetFault.TheVariants.{Head, Links, Routes}
use Rattle.jobs.specs.Jobs.{nothing, created_on}
use Rattle.plan.specs.Loading.{load}
use Rattle.refusals.specs.declared.refusal.Counts.{Counts}
use Rattle.verdict.specs.declared.fault.FileFault.{FileFault}
use Rattle.verdict.specs.declared.fault.FileFault.TheVariants.{Extra, Fabric, Load}

-- ---- the parts of a file

-- a mesh file has no link and no route record; what follows is its job part
abbrev pub mesh_sections : List ℕ → Result (List ℕ) SetFault
mesh_sections bytes = do
  links ← within Links (section_read 2 0 bytes)
  routes ← within Routes (section_read 16 0 links.1)
  Ok routes.1

-- past the head of a mesh file, whose network was made or was outside the limits: the mesh, and its job part
abbrev pub mesh_part : Result Network ℕ → List ℕ → Result (Network × List ℕ) SetFault
mesh_part (Err n) rest = Err (Head Limits)
mesh_part (Ok net) rest = do
  part ← mesh_sections rest
  Ok (net, part)

-- a listed fabric, and what follows its routes
abbrev pub listed_part : List ℕ → Result (Network × List ℕ) SetFault
listed_part file = do
  fabric ← description_read file
  Ok (network fabric.0, fabric.1)

abbrev pub kind_part : FabricKind → List ℕ → FileHead × List ℕ → Result (Network × List ℕ) SetFault
kind_part MeshKind file p = mesh_part (grid_made p.0.x p.0.y p.0.delay) p.1
kind_part ListedKind file p = listed_part file

abbrev pub head_part : List ℕ → Result (FileHead × List ℕ) HeadFault → Result (Network × List ℕ) SetFault
head_part file (Err e) = Err (Head e)
head_part file (Ok p) = kind_part p.0.kind file p

-- the network that the file's head makes, or its records, and the bytes of its job part
abbrev pub file_part : List ℕ → Result (Network × List ℕ) SetFault
file_part file = head_part file (head_read file)

-- ---- the verdict

-- a job part is loaded into a new plan over a network
abbrev pub judged_on : Network → List ℕ → Result Counts FileFault
judged_on net part = within Load (load (created_on net) nothing part).0

-- the job part on its network, or what is wrong before it
abbrev pub on_part : Result (Network × List ℕ) SetFault → Result Counts FileFault
on_part read = do
  part ← within Fabric read
  judged_on part.0 part.1

abbrev pub mesh_verdict : FileHead → List ℕ → Result Counts FileFault
mesh_verdict h rest = on_part (mesh_part (grid_made h.x h.y h.delay) rest)

abbrev pub listed_verdict : List ℕ → Result Counts FileFault
listed_verdict file = on_part (listed_part file)

-- a file has at most 8,192 bytes
abbrev pub verdict_of : List ℕ → Result Counts FileFault
verdict_of file = cond (nat_lt 8192 (length file)) (Err Extra) (on_part (file_part file))
