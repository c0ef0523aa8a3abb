-- The records of a section as a list.
use Rattle.std.proofs.Common.{◌≡◌, ℕ, zero, suc, ◌+◌, ◌/◌, ◌<◌, not, cond, List, [], ◌∷◌, length, get_or, is_some, Some, None, Ok, Err, Option, Result, sym, refl, ap, ◌∙◌, subst, add-zero, zero-add, arith}
use Rattle.std.specs.List.{find, range_with_len}
use Rattle.std.specs.Result.{result_err}
use Rattle.records.specs.Sections.{record_at, in_front, read_from, section_records}

module _ {R : Type 0} where
  -- a record in front adds no fault
  front_unread : (k : ℕ) (x : R) (r : Result (List R) ℕ) → result_err (in_front k (Some x) r) ≡ result_err r
  front_unread k x (Ok xs) = refl
  front_unread k x (Err j) = refl

  -- what was read with a record in front
  front_parts : (k : ℕ) (o : Option R) (r : Result (List R) ℕ) (xs : List R) → in_front k o r ≡ Ok xs → (x : R) × (ys : List R) × (o ≡ Some x) × (r ≡ Ok ys) × (xs ≡ x ∷ ys)
  front_parts k None r xs e = cc
  front_parts k (Some x) (Ok ys) xs e = (x, ys, refl, refl, cc)
  front_parts k (Some x) (Err j) xs e = cc

module _ {R : Type 0} (at : ℕ → Option R) where
  -- the first fault is the first place without a record
  pub unread_is : (k m : ℕ) → result_err (read_from at k m) ≡ find (λ i. not (is_some (at i))) (range_with_len k m)
  unread_is k zero = refl
  unread_is k (suc m) = go (at k) (unread_is (k + 1) m)
    where
      go : (o : Option R) → result_err (read_from at (k + 1) m) ≡ find (λ i. not (is_some (at i))) (range_with_len (k + 1) m) → result_err (in_front k o (read_from at (k + 1) m)) ≡ cond (not (is_some o)) (Some k) (find (λ i. not (is_some (at i))) (range_with_len (k + 1) m))
      go None rest = refl
      go (Some x) rest = front_unread k x (read_from at (k + 1) m) ∙ rest

  -- a list that was read has a record for each place
  pub read_each : (k m : ℕ) (xs : List R) → read_from at k m ≡ Ok xs → (length xs ≡ m) × ((i : ℕ) (d : R) → i < m → at (k + i) ≡ Some (get_or xs i d))
  read_each k zero xs e =
      let none : xs ≡ [] = cc in
      (ap length none, λ i d h. absurd (omega arith))
  read_each k (suc m) xs e =
      let (x, ys, here, rest, is) = front_parts k (at k) (read_from at (k + 1) m) xs e in
      let (long, each) = read_each (k + 1) m ys rest in
      (ap length is ∙ ap suc long, λ i d h. subst (λ l. at (k + i) ≡ Some (get_or l i d)) (sym is) (placed x ys here each i d h))
    where
      placed : (x : R) (ys : List R) → at k ≡ Some x → ((i : ℕ) (d : R) → i < m → at (k + 1 + i) ≡ Some (get_or ys i d)) → (i : ℕ) (d : R) → i < suc m → at (k + i) ≡ Some (get_or (x ∷ ys) i d)
      placed x ys here each zero d h = ap at (add-zero k) ∙ here
      placed x ys here each (suc i) d h = let e : k + suc i ≡ k + 1 + i = omega arith in ap at e ∙ each i d (omega arith)

  -- a list with a record for each place is what is read
  pub read_whole : (k : ℕ) (xs : List R) → ((i : ℕ) (d : R) → i < length xs → at (k + i) ≡ Some (get_or xs i d)) → read_from at k (length xs) ≡ Ok xs
  read_whole k [] each = refl
  read_whole k (x ∷ xs) each =
      let here : at k ≡ Some x = ap at (sym (add-zero k)) ∙ each 0 x (omega arith) in
      let rest : read_from at (k + 1) (length xs) ≡ Ok xs =
      read_whole (k + 1) xs (λ i d h. let e : k + 1 + i ≡ k + suc i = omega arith in ap at e ∙ each (suc i) d (omega arith)) in
      ap (λ o. in_front k o (read_from at (k + 1) (length xs))) here ∙ ap (in_front k (Some x)) rest

module _ {R : Type 0} (parsed : List ℕ → Option R) (size : ℕ) (bs : List ℕ) where
  -- the records of a section are as many as its places
  pub section_length : (xs : List R) → section_records parsed size bs ≡ Ok xs → length xs ≡ length bs / size
  section_length xs e = (read_each (record_at parsed size bs) 0 (length bs / size) xs e).0

  -- and each stands at its place
  pub section_each : (xs : List R) → section_records parsed size bs ≡ Ok xs → (i : ℕ) (d : R) → i < length xs → record_at parsed size bs i ≡ Some (get_or xs i d)
  section_each xs e i d h =
      ap (record_at parsed size bs) (sym (zero-add i)) ∙ (read_each (record_at parsed size bs) 0 (length bs / size) xs e).1 i d (omega (arith, section_length xs e))

  -- a list with a record for each place of a section is its records
  pub section_whole : (xs : List R) → length bs / size ≡ length xs → ((i : ℕ) (d : R) → i < length xs → record_at parsed size bs i ≡ Some (get_or xs i d)) → section_records parsed size bs ≡ Ok xs
  section_whole xs long each =
      ap (read_from (record_at parsed size bs) 0) long
      ∙ read_whole (record_at parsed size bs) 0 xs (λ i d h. ap (record_at parsed size bs) (zero-add i) ∙ each i d h)
