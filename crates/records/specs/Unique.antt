-- Working. A record's bytes are the only ones that read as it: what the record kinds' own laws cite.
use Rattle.std.specs.Prelude.{◌≡◌, ℕ, zero, suc, ◌+◌, ◌*◌, ◌/◌, ◌%◌, Bool, true, false, cond, List, ◌∷◌, ◌++◌, length, drop, Some, None, slice_index, slice_index_or, refl}
use Rattle.std.proofs.Common.{ap, ◌∙◌, add-zero, arith, drop-cons}
use Rattle.std.proofs.lemmas.List.{drop_all}
use Rattle.records.specs.Bytes.{Bytes, be, bytes_of, listing}

-- what is left from place i on is the n elements from there
pub drop_listing : (n i : ℕ) (bs : List ℕ) → i + n ≡ length bs → drop i bs ≡ listing i n bs
drop_listing zero i bs h = drop_all i bs (omega arith)
drop_listing (suc n) i bs h = drop-cons bs i 0 (omega arith) ∙ ap (λ t. slice_index bs i ∷ t) (drop_listing n (suc i) bs (omega arith))

-- the last of k + 1 elements
listing_push : (i k : ℕ) (bs after : List ℕ) → listing i k bs ++ (slice_index bs (i + k) ∷ after) ≡ listing i (suc k) bs ++ after
listing_push i zero bs after = rw add-zero
listing_push i (suc k) bs after =
    let e : i + suc k ≡ suc i + k = omega arith in
    rw e (ap (λ t. slice_index bs i ∷ t) (listing_push (suc i) k bs after))

-- a list of n elements is those n
pub list_is : (n : ℕ) (bs : List ℕ) → length bs ≡ n → bs ≡ listing 0 n bs
list_is n bs h = drop_listing n 0 bs (omega arith)

-- the bytes that write the number of k bytes are those bytes
pub same_bytes : (k : ℕ) (bs : List ℕ) (i : ℕ) (after : List ℕ) → Bytes bs → bytes_of k (be k bs i) after ≡ listing i k bs ++ after
same_bytes zero bs i after h = refl
same_bytes (suc k) bs i after h =
    let q : (be k bs i * 256 + slice_index bs (i + k)) / 256 ≡ be k bs i = omega (arith, h (i + k)) in
    let r : (be k bs i * 256 + slice_index bs (i + k)) % 256 ≡ slice_index_or bs (i + k) 0 = omega (arith, h (i + k)) in
    rw (q, r) (same_bytes k bs i (slice_index bs (i + k) ∷ after) h ∙ listing_push i k bs after)

-- what was read under a test
pub chosen : {R : Type 0} (b : Bool) (y x : R) → cond b (Some y) None ≡ Some x → (b ≡ true) × (y ≡ x)
chosen true y x e = (refl, cc)
chosen false y x e = cc
