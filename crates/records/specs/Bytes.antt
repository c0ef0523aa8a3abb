-- Meaning. Lists of bytes: big-endian numbers, and parts of a list.
--   Bytes      each element is a byte
--   be         the number that some bytes write
--   bytes_of   the bytes that write a number
--   listing    some elements from a place on
use Rattle.std.specs.Prelude.{ℕ, zero, suc, ◌+◌, ◌*◌, ◌/◌, ◌%◌, ◌<◌, List, [], ◌∷◌, slice_index}

-- each element is a byte
abbrev pub Bytes : List ℕ → Type 0
Bytes bs = (i : ℕ) → slice_index bs i < 256

-- the number that k bytes of bs from place i on write, the first the highest
abbrev pub be : ℕ → List ℕ → ℕ → ℕ
be zero bs i = 0
be (suc k) bs i = be k bs i * 256 + slice_index bs (i + k)

-- the k bytes that write n, in front of what follows them
abbrev pub bytes_of : ℕ → ℕ → List ℕ → List ℕ
bytes_of zero n after = after
bytes_of (suc k) n after = bytes_of k (n / 256) (n % 256 ∷ after)

-- n elements from place i on, 0 past the end
abbrev pub listing : ℕ → ℕ → List ℕ → List ℕ
listing i zero bs = []
listing i (suc n) bs = slice_index bs i ∷ listing (suc i) n bs
