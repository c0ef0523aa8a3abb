use Rattle.listed.proofs.Pairs.{set_records}
use Rattle.listed.proofs.reading.set_records_stand.Goals as goal

pub returns : goal.returns
returns c = record { records = set_records }
