-- Records that were written are read back.
use Rattle.std.proofs.Common.{◌≡◌, ℕ, zero, suc, ◌+◌, ◌-◌, ◌*◌, ◌/◌, ◌<◌, ◌≤◌, ⊎_elim, true, false, cond, ltb, List, [], ◌∷◌, ◌++◌, length, get_or, take, drop, Some, None, Ok, Err, Option, sym, ap, ◌∙◌, le_of_suc-le-suc, not-suc-le-zero, suc-mul, zero-mul, arith, length-append}
use Rattle.std.specs.List.{flat_map}
use Rattle.std.proofs.lemmas.Nat.{le-div, div-mul-add}
use Rattle.std.proofs.lemmas.List.{take_at, drop_at, drop-drop}
use Rattle.std.proofs.lemmas.Bool.{cases_lt, cond-false, le-ltb}
use Rattle.std.proofs.lemmas.Bool.Decides.{nat_tests}
use Rattle.records.specs.Bytes.{be, bytes_of}
use Rattle.records.specs.Sections.{cut_of, fitting, record_at, record_bytes, section_fits, section_records}
use Rattle.records.proofs.Sections.{section_whole}

module _ {R : Type 0} (form : R → List ℕ) (size : ℕ) (long : (x : R) → length (form x) ≡ size) where
  -- as many bytes as records times their size
  pub length_joined : (xs : List R) → length (flat_map form xs) ≡ length xs * size
  length_joined [] = sym (zero-mul size)
  length_joined (x ∷ xs) = omega (arith, length-append (form x) (flat_map form xs), long x, length_joined xs, suc-mul (length xs) size)

  -- the bytes at a place are those of the record written there
  pub bytes_back : (xs : List R) (i : ℕ) (d : R) → i < length xs → record_bytes size (flat_map form xs) i ≡ form (get_or xs i d)
  bytes_back [] i d h = absurd (not-suc-le-zero h)
  bytes_back (x ∷ xs) zero d h = rw (zero-mul size) (take_at (form x) (flat_map form xs) size (long x))
  bytes_back (x ∷ xs) (suc i) d h =
      let e : suc i * size ≡ size + i * size = omega (arith, suc-mul i size) in
      ap (λ k. take size (drop k (form x ++ flat_map form xs))) e
      ∙ ap (take size) (sym (drop-drop (i * size) size (form x ++ flat_map form xs)))
      ∙ ap (λ l. take size (drop (i * size) l)) (drop_at (form x) (flat_map form xs) size (long x))
      ∙ bytes_back xs i d (le_of_suc-le-suc h)

  -- as many places as records
  pub count_back : (xs : List R) → 0 < size → length (flat_map form xs) / size ≡ length xs
  count_back xs some = let e = div-mul-add (length xs) size 0 some in ap (λ n. n / size) (length_joined xs ∙ omega arith) ∙ e

  -- a record that reads back from its bytes is read at its place
  pub reads_back : (parsed : List ℕ → Option R) (xs : List R) (i : ℕ) (d : R) → 0 < size → i < length xs → parsed (form (get_or xs i d)) ≡ Some (get_or xs i d) → record_at parsed size (flat_map form xs) i ≡ Some (get_or xs i d)
  reads_back parsed xs i d some h back =
      let n = count_back xs some in
      let b = bytes_back xs i d h in
      let t : ltb i (length (flat_map form xs) / size) ≡ true = grind (arith, nat_tests, n, h) in
      ap (λ x. cond x (parsed (record_bytes size (flat_map form xs) i)) None) t ∙ ap parsed b ∙ back

  -- a section of written records reads as those records
  pub records_back : (parsed : List ℕ → Option R) (xs : List R) → 0 < size → ((i : ℕ) (d : R) → i < length xs → parsed (form (get_or xs i d)) ≡ Some (get_or xs i d)) → section_records parsed size (flat_map form xs) ≡ Ok xs
  records_back parsed xs some back =
      section_whole parsed size (flat_map form xs) xs (count_back xs some) (λ i d h. reads_back parsed xs i d some h (back i d h))

  -- a written section is cut off the front of a file
  pub cut_back : (xs : List R) (rest : List ℕ) → 0 < size → length xs < 65536 → cut_of size (bytes_of 2 (length xs) (flat_map form xs ++ rest)) ≡ Ok (flat_map form xs, rest)
  cut_back xs rest some few =
      let file = bytes_of 2 (length xs) (flat_map form xs ++ rest) in
      let body = flat_map form xs ++ rest in
      let count : be 2 file 0 ≡ length xs = omega arith in
      let long : length (flat_map form xs) ≡ be 2 file 0 * size = length_joined xs ∙ ap (λ n. n * size) (sym count) in
      let whole : length body ≡ be 2 file 0 * size + length rest = length-append (flat_map form xs) rest ∙ ap (λ n. n + length rest) long in
      let enough : be 2 file 0 ≤ fitting size file = le-div (be 2 file 0) (length file - 2) size some (omega arith) in
      let front : take (be 2 file 0 * size) (drop 2 file) ≡ flat_map form xs = take_at (flat_map form xs) rest (be 2 file 0 * size) long in
      let after : drop (2 + be 2 file 0 * size) file ≡ rest =
      sym (drop-drop (be 2 file 0 * size) 2 file) ∙ drop_at (flat_map form xs) rest (be 2 file 0 * size) long in
      cond-false (ltb (length file) 2) (Err 0) _ (le-ltb (length file) 2 (omega arith))
      ∙ cond-false (ltb (fitting size file) (be 2 file 0)) (Err (fitting size file)) _ (le-ltb (fitting size file) (be 2 file 0) enough)
      ∙ ap (λ l. Ok (l, drop (2 + be 2 file 0 * size) file)) front
      ∙ ap (λ l. Ok (flat_map form xs, l)) after

  -- where fewer records fit after the count than there are, the section is too long
  pub too_long : (xs : List R) (all room : ℕ) → 0 < size → room + 2 ≡ all → room / size < length xs → section_fits form xs all ≡ false
  too_long xs all room some whole few =
      let short : room < length xs * size = ⊎_elim (λ l. l) (λ h. absurd (omega (arith, few, le-div (length xs) room size some h))) (cases_lt room (length xs * size)) in
      grind (arith, nat_tests, short, length_joined xs, whole)
