-- Meaning. The own line of each call and fabric, and that it reads back.
--   hex, spaced     bytes in upper-case hexadecimal, and decimal numbers between single spaces
--   form_of         the words and the numbers of a call's line, with their bits
--   call_line       the line of a call
--   Fits            the numbers of a call fit their bits
--   CallsReadBack, MeshesReadBack, ListedReadBack
use Rattle.std.specs.Prelude.{◌≡◌, ℕ, ◌/◌, ◌%◌, ◌^◌, ◌<◌, true, List, [], ◌∷◌, ◌++◌, map, codes, decimal}
use Rattle.std.specs.Fmt.{digit_glyph}
use Rattle.std.specs.List.{AllByRecursion}
use Rattle.replay.specs.declared.calls.Call.TheVariants as call
use Rattle.replay.specs.Calls.{Ask}
use Rattle.script.specs.Readings.{read_line, mesh_fabric, listed_fabric, calling}

-- two upper-case hexadecimal digits to a byte
abbrev pub hex : List ℕ → List ℕ
hex [] = []
hex (b ∷ bs) = digit_glyph true (b / 16) ∷ (digit_glyph true (b % 16) ∷ hex bs)

-- decimal numbers, each with a space before the next
abbrev pub spaced : List ℕ → List ℕ
spaced [] = []
spaced (n ∷ []) = decimal n
spaced (n ∷ (m ∷ ns)) = decimal n ++ (32 ∷ spaced (m ∷ ns))

-- the words with which the line of a call begins, and the numbers that follow, each with its bits; a load has no number
abbrev pub form_of : Ask → List ℕ × List (ℕ × ℕ)
form_of (call.OfferTask t) = (codes "offer task ", (t.name, 16) ∷ (t.core, 8) ∷ (t.period, 32) ∷ (t.phase, 32) ∷ (t.width, 32) ∷ [])
form_of (call.OfferMessage m) = (
  codes "offer message ",
  (m.name, 16) ∷ (m.source, 16) ∷ (m.destination, 16) ∷ (m.kind, 8) ∷ (m.delay, 32) ∷ (m.width, 32) ∷ [],
)
form_of (call.PlaceTask t) = (codes "place task ", (t.name, 16) ∷ (t.core, 8) ∷ (t.period, 32) ∷ (t.width, 32) ∷ [])
form_of (call.PlaceMessage m) = (
  codes "place message ",
  (m.name, 16) ∷ (m.source, 16) ∷ (m.destination, 16) ∷ (m.kind, 8) ∷ (m.width, 32) ∷ [],
)
form_of (call.DropTask n) = (codes "drop task ", (n, 16) ∷ [])
form_of (call.DropMessage n) = (codes "drop message ", (n, 16) ∷ [])
form_of (call.Load part) = (codes "load ", [])
form_of (call.Slack n) = (codes "slack ", (n, 16) ∷ [])
form_of (call.CoreHolder core instant) = (codes "holder core ", (core, 16) ∷ (instant, 64) ∷ [])
form_of (call.LinkHolder link instant) = (codes "holder link ", (link, 16) ∷ (instant, 64) ∷ [])
form_of (call.Write room) = (codes "write ", (room, 64) ∷ [])

-- a load ends with the bytes of its job part
abbrev pub call_line : Ask → List ℕ
call_line (call.Load part) = codes "load " ++ hex part
call_line a = (form_of a).0 ++ spaced (map (λ f. f.0) (form_of a).1)

abbrev pub Byte : ℕ → Type 0
Byte n = n < 2 ^ 8

abbrev pub Fits : Ask → Type 0
Fits (call.Load part) = AllByRecursion Byte part
Fits a = AllByRecursion (λ f. f.0 < 2 ^ f.1) (form_of a).1

-- every call's own line reads as that call
abbrev pub CallsReadBack : Type 0
CallsReadBack = (a : Ask) → Fits a → read_line (call_line a) ≡ calling a

-- and every fabric's as that fabric
abbrev pub MeshesReadBack : Type 0
MeshesReadBack =
    (x y delay : ℕ) → Byte x → Byte y → Byte delay → read_line (codes "fabric mesh " ++ spaced (x ∷ y ∷ delay ∷ [])) ≡ mesh_fabric x y delay

abbrev pub ListedReadBack : Type 0
ListedReadBack = (file : List ℕ) → AllByRecursion Byte file → read_line (codes "fabric listed " ++ hex file) ≡ listed_fabric file
