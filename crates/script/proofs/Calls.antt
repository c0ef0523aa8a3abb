-- The calls of lines, line by line.
use Rattle.std.proofs.Common.{◌≡◌, ℕ, ◌+◌, ◌<◌, ◌≤◌, List, [], ◌∷◌, ◌++◌, map, length, get_or, drop, Vec, sym, refl, ap, ◌∙◌}
use Rattle.std.proofs.lemmas.List.{append_assoc, append-nil, at_drop_more, at_drop_all, map_push}
use Rattle.replay.specs.Calls.{Ask, Lent, asked}
use Rattle.script.specs.Readings.{Reading, asks, calling, reading}
use Rattle.script.specs.declared.line.Line.{Line}
use Rattle.script.specs.declared.line.Line.TheVariants as line
use Rattle.std.specs.declared.alloc.Global.{Global}

-- the calls so far, and those of the lines from a place on
abbrev pub with_rest : List Lent → List Line → List Ask
with_rest calls lines = map asked calls ++ asks (map reading lines)

-- a line that is neither a load nor another call says no call
pub says_none : (x : Line) → ((part : Vec ℕ Global) → x ≡ line.Load part → ⊥) → ((call : Lent) → x ≡ line.Plain call → ⊥) → (rest : List Reading) → asks (reading x ∷ rest) ≡ asks rest
says_none line.Blank a b rest = refl
says_none line.Unread a b rest = refl
says_none (line.Mesh x y delay) a b rest = refl
says_none (line.Listed file) a b rest = refl
says_none (line.Load part) a b rest = absurd (a part refl)
says_none (line.Plain call) a b rest = absurd (b call refl)

module _ (lines : List Line) (i : ℕ) (x : Line) (calls : List Lent) (here : i < length lines) (is : x ≡ get_or lines i x) (all : List Ask)
    (so_far : with_rest calls (drop i lines) ≡ all) where
  -- a line at a place stands before the lines after it
  line_at : map asked calls ++ asks (reading x ∷ map reading (drop (i + 1) lines)) ≡ all
  line_at = sym (at_drop_more (with_rest calls) lines i x here ∙ ap (λ y. map asked calls ++ asks (reading y ∷ map reading (drop (i + 1) lines))) (sym is)) ∙ so_far

  -- a call is added
  pub call_more : (grown : List Lent) (call : Lent) → reading x ≡ calling (asked call) → grown ≡ calls ++ (call ∷ []) → with_rest grown (drop (i + 1) lines) ≡ all
  call_more grown call says pushed =
      let rest = asks (map reading (drop (i + 1) lines)) in
      ap (λ l. map asked l ++ rest) pushed
      ∙ ap (λ l. l ++ rest) (map_push asked calls call)
      ∙ append_assoc (map asked calls) (asked call ∷ []) rest
      ∙ ap (λ s. map asked calls ++ asks (s ∷ map reading (drop (i + 1) lines))) (sym says)
      ∙ line_at

  -- a line that is no call is passed over
  pub other_more : ((rest : List Reading) → asks (reading x ∷ rest) ≡ asks rest) → with_rest calls (drop (i + 1) lines) ≡ all
  other_more passes = ap (λ l. map asked calls ++ l) (sym (passes (map reading (drop (i + 1) lines)))) ∙ line_at

-- no line is left
pub calls_all : (lines : List Line) (i : ℕ) (calls : List Lent) (all : List Ask) → length lines ≤ i → with_rest calls (drop i lines) ≡ all → map asked calls ≡ all
calls_all lines i calls all h so_far = sym (append-nil (map asked calls)) ∙ sym (at_drop_all (with_rest calls) lines i h) ∙ so_far
