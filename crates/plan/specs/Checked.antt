-- Working. What the private checks of a plan hand on.
use Rattle.std.specs.Prelude.{◌≡◌, Ok, Err, Result}
use Rattle.records.specs.declared.record.Message.{Message}
use Rattle.refusals.specs.Told.{checked}
use Rattle.jobs.specs.declared.fault.MessageFault.{MessageFault}
use Rattle.jobs.specs.declared.way.Admitted.{Admitted}
use Rattle.jobs.specs.Checks.{admitted_message}
use Rattle.jobs.specs.Jobs.{Jobs, Setting}
use Rattle.jobs.specs.Routings.{IsAdmitted}
use Rattle.jobs.specs.Rules.{packet_refusal}
use Rattle.jobs.specs.Trips.{Trip}

-- a message past the earlier checks with its trip, or the fault of the first that it is not past
abbrev pub MessageAdmitted : Setting → Jobs → Message → Result Admitted MessageFault → Type 0
MessageAdmitted g js m (Ok a) = (t : Trip) × (admitted_message g js m ≡ Ok t) × IsAdmitted g.network t m a
MessageAdmitted g js m (Err e) = admitted_message g js m ≡ Err e

-- what is tried past them
abbrev pub PacketsChecked : Setting → Jobs → Message → Admitted → Result (Unit {0}) MessageFault → Type 0
PacketsChecked g js m a r = (t : Trip) → IsAdmitted g.network t m a → r ≡ checked (packet_refusal g js m t)
