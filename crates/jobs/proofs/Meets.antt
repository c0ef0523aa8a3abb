-- The earliest of several lists of meetings.
use Rattle.std.proofs.Common.{◌≡◌, ℕ, Bool, true, false, cond, List, [], ◌∷◌, ◌++◌, map, Some, None, Option, sym, refl, ap, ◌∙◌, arith}
use Rattle.std.proofs.lemmas.Bool.{both_ways}
use Rattle.std.proofs.lemmas.Bool.Decides.{nat_tests}
use Rattle.std.specs.List.{fold}
use Rattle.jobs.specs.declared.meeting.Meeting.{Meeting}
use Rattle.jobs.specs.Meetings.{before, sooner, earliest_from, met, meetings, all_meetings, HeldJob}
use Rattle.jobs.specs.Takes.{Take}
use Rattle.jobs.specs.declared.place.Place.{Place}
use Rattle.jobs.proofs.PlaceLemmas.{place_is}

-- the earliest of two lists is that of the second, with the earliest of the first in hand
pub earliest_append : (best : Option Meeting) (xs ys : List (Option Meeting)) → earliest_from best (xs ++ ys) ≡ earliest_from (earliest_from best xs) ys
earliest_append best [] ys = refl
earliest_append best (x ∷ xs) ys = earliest_append (sooner best x) xs ys

-- one held job more is compared with all that the offered job takes
pub all_more : (best : Option Meeting) (own : List Take) (h : HeldJob) (hs : List HeldJob)
    → earliest_from best (all_meetings own (h ∷ hs)) ≡ earliest_from (earliest_from best (meetings h.name own h.takes)) (all_meetings own hs)
all_more best own h hs = earliest_append best (meetings h.name own h.takes) (all_meetings own hs)

-- ---- the order in which meetings are compared does not matter

same : (n h : ℕ) (p : Place) (b : Meeting) → n ≡ b.instant → h ≡ b.held → p ≡ b.place → ◌≡◌ {A = Meeting} (record { instant = n; held = h; place = p }) b
same n h p b x y z = rw (x, y, z)

-- two meetings of which none comes before the other are the same
tied : (a b : Meeting) → before a b ≡ false → before b a ≡ false → a ≡ b
tied a b x y =
    same a.instant a.held a.place b (grind (arith, nat_tests, x, y)) (grind (arith, nat_tests, x, y))
    (place_is a.place b.place (grind (arith, nat_tests, x, y)) (grind (arith, nat_tests, x, y)))

not_both : (a b : Meeting) → before a b ≡ true → before b a ≡ false
not_both a b x = grind (arith, nat_tests, x)

not_later : (a b c : Meeting) → before a c ≡ true → before b c ≡ false → before b a ≡ false
not_later a b c x y = grind (arith, nat_tests, x, y)

-- the sooner of two, in either order
two_first : (a b : Meeting) → sooner (Some a) (Some b) ≡ sooner (Some b) (Some a)
two_first a b = go (before b a) (before a b) refl refl
  where
    go : (x y : Bool) → before b a ≡ x → before a b ≡ y → cond x (Some b) (Some a) ≡ cond y (Some a) (Some b)
    go true true p q = let e = not_both b a p in absurd (both_ways (before a b) e q)
    go true false p q = refl
    go false true p q = refl
    go false false p q = ap Some (tied a b q p)

sooner_none : (o : Option Meeting) → sooner o None ≡ o
sooner_none None = refl
sooner_none (Some a) = refl

-- of a and b, after c, either may be compared first
either_first : (c a b : Option Meeting) → sooner (sooner c a) b ≡ sooner (sooner c b) a
either_first None None None = refl
either_first None None (Some b) = refl
either_first None (Some a) None = refl
either_first None (Some a) (Some b) = two_first a b
either_first (Some c) None None = refl
either_first (Some c) None (Some b) = sym (sooner_none (sooner (Some c) (Some b)))
either_first (Some c) (Some a) None = sooner_none (sooner (Some c) (Some a))
either_first (Some c) (Some a) (Some b) = go (before a c) (before b c) refl refl
  where
    go : (x y : Bool) → before a c ≡ x → before b c ≡ y → sooner (cond x (Some a) (Some c)) (Some b) ≡ sooner (cond y (Some b) (Some c)) (Some a)
    go true true p q = two_first a b
    go true false p q = ap (λ t. cond t (Some b) (Some a)) (not_later a b c p q) ∙ sym (ap (λ t. cond t (Some a) (Some c)) p)
    go false true p q = ap (λ t. cond t (Some b) (Some c)) q ∙ sym (ap (λ t. cond t (Some a) (Some b)) (not_later b a c q p))
    go false false p q = ap (λ t. cond t (Some b) (Some c)) q ∙ sym (ap (λ t. cond t (Some a) (Some c)) p)

one_first : (c a : Option Meeting) (bs : List (Option Meeting)) → earliest_from (sooner c a) bs ≡ sooner (earliest_from c bs) a
one_first c a [] = refl
one_first c a (b ∷ bs) = ap (λ d. earliest_from d bs) (either_first c a b) ∙ one_first (sooner c b) a bs

lists_first : (c : Option Meeting) (xs bs : List (Option Meeting)) → earliest_from (earliest_from c xs) bs ≡ earliest_from (earliest_from c bs) xs
lists_first c [] bs = refl
lists_first c (a ∷ xs) bs = lists_first (sooner c a) xs bs ∙ ap (λ d. earliest_from d xs) (one_first c a bs)

-- ---- one held job

-- what a held job takes next may be compared with all of the offered job's takes first
pub take_first : (best : Option Meeting) (name : ℕ) (own : List Take) (y : Take) (ys : List Take)
    → earliest_from (earliest_from best (map (λ x. met name x y) own)) (meetings name own ys) ≡ earliest_from best (meetings name own (y ∷ ys))
take_first best name [] y ys = refl
take_first best name (x ∷ xs) y ys =
    let c = sooner best (met name x y) in
    let with_y = map (λ z. met name z y) xs in
    let of_x = map (met name x) ys in
    earliest_append (earliest_from c with_y) of_x (meetings name xs ys)
    ∙ ap (λ d. earliest_from d (meetings name xs ys)) (lists_first c with_y of_x)
    ∙ take_first (earliest_from c of_x) name xs y ys
    ∙ sym (earliest_append c of_x (meetings name xs (y ∷ ys)))

-- a job that takes nothing more meets nothing more
pub takes_none_met : (best : Option Meeting) (name : ℕ) (own : List Take) → earliest_from best (meetings name own []) ≡ best
takes_none_met best name [] = refl
takes_none_met best name (x ∷ xs) = takes_none_met best name xs

-- a job that takes one place is compared with all of the offered job's takes
pub one_take : (best : Option Meeting) (name : ℕ) (own : List Take) (y : Take) → earliest_from best (map (λ x. met name x y) own) ≡ earliest_from best (meetings name own (y ∷ []))
one_take best name own y = sym (takes_none_met (earliest_from best (map (λ x. met name x y) own)) name own) ∙ take_first best name own y []

-- ---- all held jobs

-- the earliest of the meetings with each held job
pub each_job : {X : Type 0} (job : X → HeldJob) (best : Option Meeting) (own : List Take) (xs : List X)
    → fold (λ b x. earliest_from b (meetings (job x).name own (job x).takes)) best xs ≡ earliest_from best (all_meetings own (map job xs))
each_job job best own [] = refl
each_job job best own (x ∷ xs) =
    each_job job (earliest_from best (meetings (job x).name own (job x).takes)) own xs ∙ sym (all_more best own (job x) (map job xs))
