-- Lines that are printed in turn, by the lines that their texts are read as.
use Rattle.std.proofs.Common.{◌≡◌, ℕ, suc, ◌+◌, ◌-◌, ◌<◌, ◌≤◌, List, [], ◌∷◌, ◌++◌, map, length, get_or, drop, Some, None, Option, Bor, sym, refl, ap, ◌∙◌, arith}
use Rattle.std.proofs.lemmas.List.{append_assoc, at_drop_all, at_drop_more, get_or-map, length-map}
use Rattle.script.specs.Readings.{read_line, reading}
use Rattle.script.specs.Running.{Onward, texts_of}
use Rattle.script.specs.Transcripts.{Session, after_line, line_printed, printed, reply_to}
use Rattle.script.specs.declared.fabrics.Made.{Made}
use Rattle.script.specs.declared.line.Line.{Line}

-- how many lines are left after a fabric line, and one more; none where none is left
abbrev pub left_after : ℕ → Option (Made × ℕ) → ℕ
left_after lines None = 0
left_after lines (Some n) = suc (lines - n.1)

pub fewer : (from lines : ℕ) (next : Option (Made × ℕ)) → Onward from lines next → from ≤ lines → left_after lines next < suc (lines - from)
fewer from lines None h within = omega arith
fewer from lines (Some n) h within = omega (arith, h.0, h.1)

pub none_of : {X : Type 0} (o : Option X) → ((x : X) → o ≡ Some x → ⊥) → None ≡ o
none_of None h = refl
none_of (Some x) h = absurd (h x refl)

-- where two lists have the same images, so have the elements at a place
image_at : {X Y Z : Type 0} (f : X → Z) (g : Y → Z) (xs : List X) (ys : List Y) (i : ℕ) (x : X) (y : Y) → map f xs ≡ map g ys
    → i < length xs → i < length ys → f (get_or xs i x) ≡ g (get_or ys i y)
image_at f g xs ys i x y e hx hy =
    sym (get_or-map f xs i x (f x) hx) ∙ ap (λ l. get_or l i (f x)) e ∙ get_or-map g ys i y (f x) hy

-- and the lists are of one length
pub image_length : {X Y Z : Type 0} (f : X → Z) (g : Y → Z) (xs : List X) (ys : List Y) → map f xs ≡ map g ys → length xs ≡ length ys
image_length f g xs ys e = sym (length-map xs f) ∙ ap length e ∙ length-map ys g

module _ (lines : List Line) (texts : List (Bor (List ℕ))) (at : ℕ) (read : map reading lines ≡ map (λ t. read_line t.now) texts)
    (s : Session) (out whole : List ℕ) (makes : out ++ printed s (texts_of (drop at texts)) ≡ whole) where
  -- the line at a place is printed, and the lines after it go on in the session that it leaves
  pub line_more : (l : Line) (d : Bor (List ℕ)) (after : Session) (grown : List ℕ) (o : Option (List ℕ)) → at < length lines → l ≡ get_or lines at l
      → o ≡ reply_to s (reading l) → after ≡ after_line s (reading l) → grown ≡ out ++ line_printed (get_or texts at d).now o
      → grown ++ printed after (texts_of (drop (at + 1) texts)) ≡ whole
  line_more l d after grown o here is_line reply left more =
      let long = image_length reading (λ t. read_line t.now) lines texts read in
      let there : at < length texts = omega arith in
      let t = get_or texts at d in
      let says : reading l ≡ read_line t.now = ap reading is_line ∙ image_at reading (λ u. read_line u.now) lines texts at l d read here there in
      let rest = texts_of (drop (at + 1) texts) in
      let first : texts_of (drop at texts) ≡ t.now ∷ rest = at_drop_more texts_of texts at d there in
      ap (λ l. l ++ printed after rest) (more ∙ ap (λ p. out ++ line_printed t.now p) (reply ∙ ap (reply_to s) says))
      ∙ ap (λ z. (out ++ line_printed t.now (reply_to s (read_line t.now))) ++ printed z rest) (left ∙ ap (after_line s) says)
      ∙ append_assoc out (line_printed t.now (reply_to s (read_line t.now))) (printed (after_line s (read_line t.now)) rest)
      ∙ ap (λ ts. out ++ printed s ts) (sym first)
      ∙ makes

  -- no line is left
  pub lines_end : length lines ≤ at → out ++ [] ≡ whole
  lines_end past =
      let long = image_length reading (λ t. read_line t.now) lines texts read in
      sym (at_drop_all (λ ts. out ++ printed s (texts_of ts)) texts at (omega arith)) ∙ makes
