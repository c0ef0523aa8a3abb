-- One write after another.
use Rattle.std.proofs.Common.{◌≡◌, ℕ, ◌+◌, ◌≤◌, List, ◌++◌, length, sym, refl, ap, ◌∙◌, arith, length-append}
use Rattle.std.proofs.lemmas.List.Edits.{paste_all, paste-paste}
use lib.Seq.{paste}
use Rattle.refusals.specs.Written.{Puts, written}
use Rattle.refusals.specs.declared.pen.Pen.{Pen}

-- a write is a paste of the whole text
pub written_is : (b : List ℕ) (i : ℕ) (s : List ℕ) → paste b i s (length s) ≡ written b i s
written_is b i s = paste_all b i s (length s) refl

-- a write where the one before ended is one write of both texts
pub written_written : (b : List ℕ) (i : ℕ) (s t : List ℕ) → i ≤ length b → written (written b i s) (i + length s) t ≡ written b i (s ++ t)
written_written b i s t h =
    sym (written_is (written b i s) (i + length s) t)
    ∙ ap (λ x. paste x (i + length s) t (length t)) (sym (written_is b i s))
    ∙ paste-paste b i s t (length s) (length t) refl refl h
    ∙ ap (paste b i (s ++ t)) (sym (length-append s t))
    ∙ written_is b i (s ++ t)

-- one text and then another are both texts in one
pub goes_on : {a b c : Pen} {s t : List ℕ} → a.at ≤ length a.out.now → Puts a b s → Puts b c t → Puts a c (s ++ t)
goes_on {a} {b} {c} {s} {t} fits p q = record {
  same = q.same ∙ p.same;
  room = q.room ∙ p.room;
  end = omega (arith, p.end, q.end, length-append s t);
  holds = q.holds ∙ cc (p.holds, p.end, written_written a.out.now a.at s t fits);
}
