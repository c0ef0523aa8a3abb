-- Meaning. The byte form of each record kind, and the record that bytes stand for.
-- A field of more than one byte is big-endian. Bytes with a wrong zero byte or kind are no record.
use Rattle.std.specs.Prelude.{ℕ, ◌<◌, cond, ◌&&◌, List, [], ◌∷◌, Some, None, Option, ◌==◌, nat_lt, slice_index}
use Rattle.records.specs.Bytes.{be, bytes_of, listing}
use Rattle.records.specs.declared.record.Link.{Link}
use Rattle.records.specs.declared.record.Route.{Route}
use Rattle.records.specs.declared.record.Task.{Task}
use Rattle.records.specs.declared.record.Message.{Message}

-- a link: from, to
abbrev pub link_form : Link → List ℕ
link_form l = l.from ∷ l.to ∷ []

-- any two bytes are a link
abbrev pub link_of : List ℕ → Option Link
link_of bs = Some (record { from = slice_index bs 0; to = slice_index bs 1 })

-- a route: from, to, length, a zero, twelve link numbers
abbrev pub route_form : Route → List ℕ
route_form r = r.from ∷ r.to ∷ r.length ∷ 0 ∷ listing 0 12 r.links

-- the fields of a route in bytes
abbrev pub route_in : List ℕ → Route
route_in bs = record { from = slice_index bs 0; to = slice_index bs 1; length = slice_index bs 2; links = listing 4 12 bs }

-- bytes are a route where the zero byte is 0
abbrev pub route_of : List ℕ → Option Route
route_of bs = cond (slice_index bs 3 == 0) (Some (route_in bs)) None

-- a task: name in two bytes, core, a zero, then period, phase and width in four bytes each
abbrev pub task_form : Task → List ℕ
task_form t = bytes_of 2 t.name (t.core ∷ 0 ∷ bytes_of 4 t.period (bytes_of 4 t.phase (bytes_of 4 t.width [])))

-- the fields of a task in bytes
abbrev pub task_in : List ℕ → Task
task_in bs = record { name = be 2 bs 0; core = slice_index bs 2; period = be 4 bs 4; phase = be 4 bs 8; width = be 4 bs 12 }

-- the tasks that have a byte form: each field fits its bytes
abbrev pub TaskFits : Task → Type 0
TaskFits t = (t.name < 65536) × (t.period < 4294967296) × (t.phase < 4294967296) × (t.width < 4294967296)

-- bytes are a task where the zero byte is 0
abbrev pub task_of : List ℕ → Option Task
task_of bs = cond (slice_index bs 3 == 0) (Some (task_in bs)) None

-- a message: name, source and destination in two bytes each, kind, a zero, then delay and width in four bytes each
abbrev pub message_form : Message → List ℕ
message_form m =
    bytes_of 2 m.name (bytes_of 2 m.source (bytes_of 2 m.destination
    (m.kind ∷ 0 ∷ bytes_of 4 m.delay (bytes_of 4 m.width []))))

-- the fields of a message in bytes
abbrev pub message_in : List ℕ → Message
message_in bs =
    record { name = be 2 bs 0; source = be 2 bs 2; destination = be 2 bs 4; kind = slice_index bs 6; delay = be 4 bs 8; width = be 4 bs 12 }

-- the messages that have a byte form: each field fits its bytes, and the kind is 0 or 1
abbrev pub MessageFits : Message → Type 0
MessageFits m =
    (m.name < 65536) × (m.source < 65536) × (m.destination < 65536) × (m.kind < 2) × (m.delay < 4294967296) × (m.width < 4294967296)

-- bytes are a message where the kind is 0 or 1 and the zero byte is 0
abbrev pub message_of : List ℕ → Option Message
message_of bs = cond (nat_lt (slice_index bs 6) 2 && slice_index bs 7 == 0) (Some (message_in bs)) None
