use Rattle.script.proofs.ReadBack.{calls_read_back, meshes_read_back, listed_read_back}
use Rattle.script.proofs.reading.lines_stand.Goals as goal

pub returns : goal.returns
returns c = record { calls = calls_read_back; meshes = meshes_read_back; listed = listed_read_back }
