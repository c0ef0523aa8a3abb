-- A record put into a part of a table, or taken out, by one turn from its place on.
use Rattle.std.proofs.Common.{◌≡◌, ℕ, suc, ◌+◌, ◌-◌, ◌<◌, ◌≤◌, List, [], ◌∷◌, ◌++◌, length, take, drop, set, sym, ap, ◌∙◌, add-one, arith}
use Rattle.std.specs.List.{insert, remove}
use borrow.Rule.Slice.PartMut.{put_mid}
use Rattle.std.proofs.lemmas.List.{take_more_set, take-append-le, drop-append-le, take_all, drop_all, take_at, drop_at, length_push, length-take-le, length-drop, length-set, append_assoc, append-nil, drop-drop}

module _ {X : Type 0} where
  -- a part from a place on is all that lies there
  to_end : (xs : List X) (at : ℕ) → take (length xs - at) (drop at xs) ≡ drop at xs
  to_end xs at = take_all (length xs - at) (drop at xs) (omega (arith, length-drop at xs))

  -- what stands there now ends the whole
  put_end : (xs : List X) (at : ℕ) (q : List X) → put_mid at (length xs - at) xs q ≡ take at xs ++ q
  put_end xs at q = ap (λ l. take at xs ++ l) (ap (λ l. q ++ l) (drop_all (length xs - at) (drop at xs) (omega (arith, length-drop at xs))) ∙ append-nil q)

  -- the record at a place goes to the end
  pub turned_out : (xs : List X) (at : ℕ) (q : List X) → at < length xs →
      q ≡ drop 1 (take (length xs - at) (drop at xs)) ++ take 1 (take (length xs - at) (drop at xs)) →
      put_mid at (length xs - at) xs q ≡ remove xs at ++ take 1 (drop at xs)
  turned_out xs at q within e =
      let above : drop 1 (drop at xs) ≡ drop (suc at) xs = drop-drop 1 at xs ∙ ap (λ k. drop k xs) (add-one at) in
      let is : q ≡ drop (suc at) xs ++ take 1 (drop at xs) = e ∙ ap (λ p. drop 1 p ++ take 1 p) (to_end xs at) ∙ ap (λ r. r ++ take 1 (drop at xs)) above in
      put_end xs at q ∙ ap (λ l. take at xs ++ l) is ∙ sym (append_assoc (take at xs) (drop (suc at) xs) (take 1 (drop at xs)))

  -- the last goes to a place
  last_in : (xs ys : List X) (at : ℕ) (x : X) (q : List X) → at ≤ length xs → ys ≡ xs ++ x ∷ [] →
      q ≡ drop (length (take (length ys - at) (drop at ys)) - 1) (take (length ys - at) (drop at ys)) ++ take (length (take (length ys - at) (drop at ys)) - 1) (take (length ys - at) (drop at ys)) →
      put_mid at (length ys - at) ys q ≡ insert xs at x
  last_in xs ys at x q within whole e =
      let part : take (length ys - at) (drop at ys) ≡ drop at xs ++ x ∷ [] = to_end ys at ∙ ap (drop at) whole ∙ drop-append-le at xs (x ∷ []) within in
      let less : length (drop at xs) ≡ length (drop at xs ++ x ∷ []) - 1 = omega (arith, length_push (drop at xs) x) in
      let turned : q ≡ x ∷ drop at xs =
      e ∙ ap (λ p. drop (length p - 1) p ++ take (length p - 1) p) part
      ∙ ap (λ l. l ++ take (length (drop at xs ++ x ∷ []) - 1) (drop at xs ++ x ∷ [])) (drop_at (drop at xs) (x ∷ []) _ less)
      ∙ ap (λ l. x ∷ l) (take_at (drop at xs) (x ∷ []) _ less) in
      put_end ys at q ∙ ap (λ l. take at l ++ q) whole ∙ ap (λ l. l ++ q) (take-append-le at xs (x ∷ []) within) ∙ ap (λ l. take at xs ++ l) turned

  -- x is written to the last place, and goes to its own
  pub turned_in : (xs : List X) (at : ℕ) (x : X) (q : List X) → at < length xs →
      let ys = set xs (length xs - 1) x in
      q ≡ drop (length (take (length ys - at) (drop at ys)) - 1) (take (length ys - at) (drop at ys)) ++ take (length (take (length ys - at) (drop at ys)) - 1) (take (length ys - at) (drop at ys)) →
      put_mid at (length ys - at) ys q ≡ insert (take (length xs - 1) xs) at x
  turned_in xs at x q within e =
      let n = length xs - 1 in
      let whole : set xs n x ≡ take n xs ++ x ∷ [] = sym (take_all (n + 1) (set xs n x) (omega (arith, length-set xs n x))) ∙ take_more_set xs n x (omega arith) in
      last_in (take n xs) (set xs n x) at x q (omega (arith, length-take-le n xs (omega arith))) whole e
