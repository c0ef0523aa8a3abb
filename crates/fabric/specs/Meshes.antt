-- Rule. What a mesh and its making mean, and the columns, rows and directions of its nodes.
use Rattle.std.specs.Prelude.{◌≡◌, ℕ, ◌*◌, ◌/◌, ◌%◌, ◌<◌, Ok, Err, Result}
use Rattle.fabric.specs.Network.{Network}
use Rattle.fabric.specs.Grid.{grid}
use Rattle.fabric.specs.declared.mesh.Mesh.{Mesh}
use Rattle.fabric.specs.declared.mesh.SizeFault.{SizeFault}
use Rattle.fabric.specs.declared.mesh.direction.Direction.{Direction}
use Rattle.fabric.specs.declared.mesh.direction.Direction.TheVariants.{East, West, North, South}
use Rattle.fabric.specs.declared.mesh.spot.Spot.{Spot}

-- the network that a mesh means
abbrev pub mesh_of : Mesh → Network
mesh_of m = grid m.columns m.rows m.delay

-- a mesh made, by its meaning; a size refused, by its number
abbrev pub made : Result Mesh SizeFault → Result Network ℕ
made (Ok m) = Ok (mesh_of m)
made (Err fault) = Err 3

-- a direction by its number
abbrev pub direction_number : Direction → ℕ
direction_number East = 0
direction_number West = 1
direction_number North = 2
direction_number South = 3

-- the column and row of a node of the mesh
pub record IsSpot (m : Mesh) (node : ℕ) (s : Spot) : Type 0 where
  pub inside : node < m.columns * m.rows
  pub column : s.x ≡ node % m.columns
  pub row : s.y ≡ node / m.columns
