-- A place is known by its number and kind.
use Rattle.std.proofs.Common.{◌≡◌, ℕ, zero, suc, true, sym, refl, ap, ◌∙◌, eqb}
use Rattle.std.proofs.lemmas.Bool.{and_parts, eq-eqb, eqb-true}
use Rattle.jobs.specs.declared.place.Place.{Place}
use Rattle.jobs.specs.declared.place.PlaceKind.{PlaceKind}
use Rattle.jobs.specs.declared.place.PlaceKind.TheVariants as kind
use Rattle.jobs.specs.Places.{rank, same_place}

kind_of : ℕ → PlaceKind
kind_of zero = kind.Core
kind_of (suc n) = kind.Link

kind_back : (k : PlaceKind) → kind_of (rank k) ≡ k
unfolding kind_of
kind_back kind.Core = refl
kind_back kind.Link = refl

-- kinds of one rank are one kind
rank_once : (a b : PlaceKind) → rank a ≡ rank b → a ≡ b
rank_once a b e = sym (kind_back a) ∙ ap kind_of e ∙ kind_back b

pub place_is : (p q : Place) → p.number ≡ q.number → rank p.kind ≡ rank q.kind → p ≡ q
place_is p q n k =
    ap (λ x. record { number = x; kind = p.kind }) n ∙ ap (λ x. record { number = q.number; kind = x }) (rank_once p.kind q.kind k)

pub same_place_true : (p q : Place) → same_place p q ≡ true → p ≡ q
same_place_true p q e =
    let h = and_parts (eqb p.number q.number) (eqb (rank p.kind) (rank q.kind)) e in
    place_is p q (eqb-true p.number q.number h.0) (eqb-true (rank p.kind) (rank q.kind) h.1)

pub same_place_refl : (p : Place) → same_place p p ≡ true
same_place_refl p = rw (eq-eqb p.number p.number refl, eq-eqb (rank p.kind) (rank p.kind) refl) refl
