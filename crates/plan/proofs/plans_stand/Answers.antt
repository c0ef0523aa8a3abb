use Rattle.plan.proofs.Round.{round_trip}
use Rattle.plan.proofs.Same.{same_bytes}
use Rattle.plan.proofs.plans_stand.Goals as goal

pub returns : goal.returns
returns c = record { back = round_trip; same = same_bytes }
