-- A write into the front of a page that has room for any job part.
use Rattle.std.proofs.Common.{◌≡◌, ℕ, ◌+◌, ◌≤◌, Bool, true, false, if◌then◌else◌, List, [], ◌∷◌, ◌++◌, length, map, min, take, drop, Ok, Err, Result, sym, refl, ap, ◌∙◌, zero-add, arith}
use Rattle.std.proofs.lemmas.Bool.Decides.{nat_tests}
use Rattle.std.proofs.lemmas.List.{append_assoc, drop-append-le, length-take, take-append-drop, take_at}
use Rattle.refusals.specs.Lines.{too_short}
use Rattle.refusals.specs.Written.{written}
use Rattle.refusals.specs.declared.refusal.BufferFault.{BufferFault}
use Rattle.jobs.specs.Jobs.{Jobs}
use Rattle.plan.specs.Writing.{part_bytes, too_long, write}
use Rattle.replay.specs.declared.calls.Answer.{Answer}
use Rattle.replay.specs.declared.calls.Answer.TheVariants as answer
use Rattle.replay.specs.Calls.{Said, answer_told, bytes_given, giving, read_off}

module _ (js : Jobs) (room k : ℕ) (page : List ℕ) (small : length (part_bytes js) ≤ 3076) (is : k ≡ min room 3076) (long : length page ≡ 3076) where
  -- the part of the page is too short exactly where the room is
  same_test : too_long js (length (take k page)) ≡ too_long js room
  same_test = grind (arith, nat_tests, small, is, long, length-take k page)

  abbrev part : List ℕ
  part = part_bytes js

  -- the answer tells the length
  pub told_length : {r : Result ℕ BufferFault} → r ≡ (if too_long js (length (take k page)) then Err too_short else Ok (length part))
      → ◌≡◌ {A = Answer ℕ} (answer.Written r) (giving length (answer.Written (write js room)))
  told_length e = ap answer.Written (e ∙ ap (λ b. if b then Err too_short else Ok (length part)) same_test) ∙ go (too_long js room)
    where
      go : (b : Bool) → ◌≡◌ {A = Answer ℕ} (answer.Written (if b then Err too_short else Ok (length part))) (giving length (answer.Written (if b then Err too_short else Ok part)))
      go true = refl
      go false = refl

  -- the page begins with the bytes, and what follows them is as it was
  pub page_written : {out : List ℕ} → out ≡ (if too_long js (length (take k page)) then take k page else written (take k page) 0 part)
      → out ++ drop k page ≡ written page 0 (bytes_given (answer.Written (write js room)))
  page_written e = ap (λ l. l ++ drop k page) (e ∙ ap (λ b. if b then take k page else written (take k page) 0 part) same_test) ∙ go (too_long js room) refl
    where
      go : (b : Bool) → b ≡ too_long js room
          → (if b then take k page else written (take k page) 0 part) ++ drop k page ≡ written page 0 (bytes_given (answer.Written (if b then Err too_short else Ok part)))
      go true e = take-append-drop k page
      go false e =
          let fits : length part ≤ length (take k page) = grind (arith, nat_tests, e, small, is, long, length-take k page) in
          ap (λ n. (part ++ drop n (take k page)) ++ drop k page) (zero-add (length part))
          ∙ append_assoc part (drop (length part) (take k page)) (drop k page)
          ∙ ap (λ l. part ++ l) (sym (drop-append-le (length part) (take k page) (drop k page) fits) ∙ ap (drop (length part)) (take-append-drop k page))
          ∙ ap (λ n. part ++ drop n page) (sym (zero-add (length part)))

-- what was written is read off the page again
pub read_back : (r : Said) (page : List ℕ) {after : List ℕ} → after ≡ written page 0 (bytes_given r) → read_off after (giving length r) ≡ r
read_back (answer.Written (Ok bytes)) page e =
    ap (λ l. answer.Written (Ok l)) (ap (take (length bytes)) e ∙ take_at bytes (drop (0 + length bytes) page) (length bytes) refl)
read_back (answer.Written (Err x)) page e = refl
read_back other page e = refl

-- what an answer refuses does not hang on what a write gives
pub told_same : {V W : Type 0} (f : V → W) (r : Answer V) → answer_told (giving f r) ≡ answer_told r
told_same f (answer.Written (Ok x)) = refl
told_same f (answer.Written (Err e)) = refl
told_same f other = refl

pub all_told_same : {V W : Type 0} (f : V → W) (rs : List (Answer V)) → map answer_told (map (giving f) rs) ≡ map answer_told rs
all_told_same f [] = refl
all_told_same f (r ∷ rs) = ap (λ t. t ∷ map answer_told (map (giving f) rs)) (told_same f r) ∙ ap (λ l. answer_told r ∷ l) (all_told_same f rs)
