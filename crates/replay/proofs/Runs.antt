-- One call more of a list.
use Rattle.std.proofs.Common.{◌≡◌, ℕ, ◌+◌, ◌<◌, ◌≤◌, List, [], ◌∷◌, ◌++◌, map, length, get_or, drop, sym, ap, ◌∙◌}
use Rattle.std.proofs.lemmas.List.{drop_more, drop_all, append_assoc, append-nil}
use Rattle.jobs.specs.Jobs.{Setting, Jobs}
use Rattle.replay.specs.Calls.{Lent, Said, asked, ask, held, answers}

module _ (g : Setting) (calls : List Lent) (i : ℕ) (js : Jobs) where
  module _ (d : Lent) (after : Jobs) (more : i < length calls) (moved : after ≡ (ask g js (asked (get_or calls i d))).1) where
    -- the answer of the call at a place comes next, and the others follow from what is held then
    pub answers_on : (out next : List Said) (r : Said) (all : List Said) → r ≡ (ask g js (asked (get_or calls i d))).0 → next ≡ out ++ r ∷ []
        → out ++ answers g js (map asked (drop i calls)) ≡ all → next ++ answers g after (map asked (drop (i + 1) calls)) ≡ all
    answers_on out next r all is pushed inv =
        let rest = answers g (ask g js (asked (get_or calls i d))).1 (map asked (drop (i + 1) calls)) in
        ap (λ l. l ++ answers g after (map asked (drop (i + 1) calls))) pushed
        ∙ append_assoc out (r ∷ []) (answers g after (map asked (drop (i + 1) calls)))
        ∙ ap (λ j. out ++ r ∷ answers g j (map asked (drop (i + 1) calls))) moved
        ∙ ap (λ x. out ++ x ∷ rest) is
        ∙ ap (λ l. out ++ answers g js (map asked l)) (sym (drop_more calls i d more))
        ∙ inv

    pub held_on : (all : Jobs) → held g js (map asked (drop i calls)) ≡ all → held g after (map asked (drop (i + 1) calls)) ≡ all
    held_on all inv =
        ap (λ j. held g j (map asked (drop (i + 1) calls))) moved
        ∙ ap (λ l. held g js (map asked l)) (sym (drop_more calls i d more))
        ∙ inv

  pub answers_end : (out all : List Said) → length calls ≤ i → out ++ answers g js (map asked (drop i calls)) ≡ all → out ≡ all
  answers_end out all h inv = sym (append-nil out) ∙ ap (λ l. out ++ answers g js (map asked l)) (sym (drop_all i calls h)) ∙ inv

  pub held_end : (all : Jobs) → length calls ≤ i → held g js (map asked (drop i calls)) ≡ all → js ≡ all
  held_end all h inv = ap (λ l. held g js (map asked l)) (sym (drop_all i calls h)) ∙ inv
