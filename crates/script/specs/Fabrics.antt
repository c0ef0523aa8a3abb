-- Rule. What a line that names a fabric makes, and what it is answered.
--   made_network              the network of a fabric that a line makes
--   mesh_made, listed_made    the network that is made, or the refusal
--   fabric_reply              the fabric's nodes and link numbers, or its refusal
use Rattle.std.specs.Prelude.{ℕ, List, Ok, Err, Result}
use Rattle.std.specs.Result.{result_map_both}
use Rattle.fabric.specs.Grid.{grid_made}
use Rattle.fabric.specs.Meshes.{mesh_of}
use Rattle.fabric.specs.Network.{Network}
use Rattle.listed.specs.Description.{network, description_of, description_read}
use Rattle.listed.specs.Told.{set_told}
use Rattle.refusals.specs.Told.{plain}
use Rattle.script.specs.declared.fabrics.Made.{Made}
use Rattle.script.specs.declared.fabrics.Made.TheVariants as made
use Rattle.script.specs.declared.reply.Reply.{Reply}
use Rattle.script.specs.declared.reply.Reply.TheVariants.{Ready, Refused, Told}

abbrev pub made_network : Made → Network
made_network (made.Mesh m) = mesh_of m
made_network (made.Listed l) = network (description_of l)

abbrev pub ready : Network → Reply
ready net = Ready net.nodes net.links

-- a mesh outside the limits is refused by its number alone
abbrev pub mesh_made : ℕ → ℕ → ℕ → Result Network Reply
mesh_made x y delay = result_map_both (λ net. net) (λ number. Refused (plain number)) (grid_made x y delay)

-- a refused file tells section and record too
abbrev pub listed_made : List ℕ → Result Network Reply
listed_made file = result_map_both (λ p. network p.0) (λ e. Told (set_told e)) (description_read file)

abbrev pub fabric_reply : Result Network Reply → Reply
fabric_reply (Ok net) = ready net
fabric_reply (Err refusal) = refusal
