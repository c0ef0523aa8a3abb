-- Meaning. Sections: a 16-bit count and then so many records of one size.
--   count_of          the count at the front of a file
--   fitting           how many whole records a file has after its count
--   cut_of            the section at the front of a file, and the rest
--   record_at         the record at a place of a section
--   section_records   all records of a section, or the place of the first that is none
--   section_bytes     a section as it is written; section_fits where it can be, and what a buffer then holds
use Rattle.std.specs.Prelude.{ℕ, zero, suc, ◌+◌, ◌-◌, ◌*◌, ◌/◌, Bool, cond, if◌then◌else◌, ◌&&◌, List, [], ◌∷◌, ◌++◌, length, take, drop, Some, None, Ok, Err, Option, Result, nat_le, nat_lt}
use Rattle.std.specs.List.{flat_map}
use Rattle.records.specs.Bytes.{be, bytes_of}

-- the count at the front of a file, or none where fewer than two bytes are left
abbrev pub count_of : List ℕ → Option ℕ
count_of file = cond (nat_lt (length file) 2) None (Some (be 2 file 0))

-- how many whole records fit after the count
abbrev pub fitting : ℕ → List ℕ → ℕ
fitting size file = (length file - 2) / size

-- the bytes of the section at the front of a file and the rest, or how many whole records there are
abbrev pub cut_of : ℕ → List ℕ → Result (List ℕ × List ℕ) ℕ
cut_of size file =
    cond (nat_lt (length file) 2) (Err 0)
    (cond (nat_lt (fitting size file) (be 2 file 0)) (Err (fitting size file))
    (Ok (take (be 2 file 0 * size) (drop 2 file), drop (2 + be 2 file 0 * size) file)))

-- the bytes of the record at place i
abbrev pub record_bytes : ℕ → List ℕ → ℕ → List ℕ
record_bytes size bs i = take size (drop (i * size) bs)

-- the record at place i of a section, by how bytes are read: none past the end or where the bytes are no record
abbrev pub record_at : {R : Type 0} → (List ℕ → Option R) → ℕ → List ℕ → ℕ → Option R
record_at parsed size bs i = cond (nat_lt i (length bs / size)) (parsed (record_bytes size bs i)) None

-- the record of place k, in front of those that follow it; the first place without a record is the fault
abbrev pub in_front : {R : Type 0} → ℕ → Option R → Result (List R) ℕ → Result (List R) ℕ
in_front k None rest = Err k
in_front k (Some x) (Ok xs) = Ok (x ∷ xs)
in_front k (Some x) (Err j) = Err j

-- the records of m places from place k on
abbrev pub read_from : {R : Type 0} → (ℕ → Option R) → ℕ → ℕ → Result (List R) ℕ
read_from at k zero = Ok []
read_from at k (suc m) = in_front k (at k) (read_from at (k + 1) m)

-- the records of a section, or the place of the first whose bytes are no record
abbrev pub section_records : {R : Type 0} → (List ℕ → Option R) → ℕ → List ℕ → Result (List R) ℕ
section_records parsed size bs = read_from (record_at parsed size bs) 0 (length bs / size)

-- a section as it is written: the count in two bytes, then the records
abbrev pub section_bytes : {R : Type 0} → (R → List ℕ) → List R → List ℕ
section_bytes form xs = bytes_of 2 (length xs) (flat_map form xs)

-- two bytes can count the records, and the section has at most so many bytes
abbrev pub section_fits : {R : Type 0} → (R → List ℕ) → List R → ℕ → Bool
section_fits form xs room = nat_lt (length xs) 65536 && nat_le (length (section_bytes form xs)) room

-- how many bytes of a buffer of so many are written, or none where the section does not fit
abbrev pub length_written : {R : Type 0} → (R → List ℕ) → List R → ℕ → Option ℕ
length_written form xs room = if section_fits form xs room then Some (length (section_bytes form xs)) else None

-- what the buffer then holds: the section, and behind it what stood there; or all that stood there
abbrev pub section_written : {R : Type 0} → (R → List ℕ) → List R → List ℕ → List ℕ
section_written form xs out =
    if section_fits form xs (length out) then section_bytes form xs ++ drop (length (section_bytes form xs)) out else out
