-- Where the records of a section lie in its bytes.
use Rattle.std.proofs.Common.{◌≡◌, ℕ, ◌+◌, ◌*◌, ◌/◌, ◌<◌, ◌≤◌, le_refl, add-mul, one-mul, arith}
use Rattle.std.proofs.lemmas.Nat.{div-add-mod', mul-le}

-- n records of s bytes lie within len bytes
pub count_within : (n s len : ℕ) → n ≤ len / s → n * s ≤ len
count_within n s len h = omega (arith, mul-le n s (len / s) s h (le_refl s), div-add-mod' len s)

-- so does the record at place i
pub place_within : (i s len : ℕ) → i < len / s → i * s + s ≤ len
place_within i s len h = omega (arith, count_within (i + 1) s len (omega arith), add-mul i 1 s, one-mul s)

-- the same from what the calls of the code ensure
pub record_within : {i s n each : ℕ} (len : ℕ) → n ≡ len / s → each ≡ s → i < n → i * each + each ≤ len
record_within {i} {s} {n} {each} len counted sized h = rw sized (place_within i s len (omega arith))
