-- Meaning. The calls that a caller can make: names have two bytes, and a job part is bytes.
--   ShortAsk   the name that a call would have held fits in two bytes, and what it loads are bytes
use Rattle.std.specs.Prelude.{◌≤◌}
use Rattle.records.specs.Bytes.{Bytes}
use Rattle.replay.specs.declared.calls.Call.TheVariants as call
use Rattle.replay.specs.Calls.{Ask}

-- an offered or placed job has a name that fits in two bytes, and a loaded part is bytes; the other calls have nothing held
abbrev pub ShortAsk : Ask → Type 0
ShortAsk (call.OfferTask t) = t.name ≤ 65535
ShortAsk (call.OfferMessage m) = m.name ≤ 65535
ShortAsk (call.PlaceTask t) = t.name ≤ 65535
ShortAsk (call.PlaceMessage m) = m.name ≤ 65535
ShortAsk (call.Load part) = Bytes part
ShortAsk a = Unit {0}
