use Rattle.script.proofs.Stretches.{alone_lawful, as_lists, fabrics_begin, new_stretches, texts_split}
use Rattle.script.proofs.transcript.stretches_stand.Goals as goal

pub returns : goal.returns
returns c = record { lists = as_lists; promise = new_stretches; begins = fabrics_begin; alone = alone_lawful; splits = texts_split }
