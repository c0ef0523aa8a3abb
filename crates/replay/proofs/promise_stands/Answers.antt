use Rattle.replay.proofs.Promises.{each_call, promise}
use Rattle.replay.proofs.promise_stands.Goals as goal

pub returns : goal.returns
returns c = record { call = each_call; promise = promise }
