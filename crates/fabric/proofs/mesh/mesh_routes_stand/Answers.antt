-- The theorem; the check computes the example.
use Rattle.fabric.proofs.XFirst.{mesh_routes}
use Rattle.fabric.proofs.mesh.mesh_routes_stand.Goals as goal

pub returns-clause-routes : goal.returns-clause-routes
returns-clause-routes c = mesh_routes
