-- Every call keeps the held names within two bytes, where its own name fits and what it loads are bytes; so does a list of such calls.
use Rattle.std.proofs.Common.{ℕ, zero, suc, List, [], ◌∷◌, map, take, ⊎_elim, sym, refl, subst, arith}
use Rattle.std.specs.List.{All}
use Rattle.jobs.specs.Jobs.{In, Jobs, Setting}
use Rattle.promise.specs.Canonical.{ShortNames}
use Rattle.promise.proofs.Lists.{in_cases, in_here, in_nil, in_there}
use Rattle.plan.proofs.Short.{drop_message_short, drop_task_short, load_short, offer_message_short, offer_task_short, place_message_short, place_task_short}
use Rattle.replay.specs.declared.calls.Call.TheVariants as call
use Rattle.replay.specs.Calls.{Ask, Lent, ask, asked, held}
use Rattle.replay.specs.Short.{ShortAsk}

module _ (g : Setting) where
  pub ask_short : (js : Jobs) (a : Ask) → ShortAsk a → ShortNames js → ShortNames (ask g js a).1
  ask_short js (call.OfferTask t) fits here = offer_task_short g js t fits here
  ask_short js (call.OfferMessage m) fits here = offer_message_short g js m fits here
  ask_short js (call.PlaceTask t) fits here = place_task_short g js t fits here
  ask_short js (call.PlaceMessage m) fits here = place_message_short g js m fits here
  ask_short js (call.DropTask n) fits here = drop_task_short js n here
  ask_short js (call.DropMessage n) fits here = drop_message_short js n here
  ask_short js (call.Load part) fits here = load_short g js part fits here
  ask_short js question fits here = here

  pub held_short : (js : Jobs) (asks : List Ask) → ((a : Ask) → In a asks → ShortAsk a) → ShortNames js → ShortNames (held g js asks)
  held_short js [] fits here = here
  held_short js (a ∷ rest) fits here =
      held_short (ask g js a).1 rest (λ b i. fits b (in_there a b rest i)) (ask_short js a (fits a (in_here a a rest refl)) here)

-- what each call of a list has, each of its arguments has
asks_fit : (calls : List Lent) → All (λ call. ShortAsk (asked call)) calls → (a : Ask) → In a (map asked calls) → ShortAsk a
asks_fit [] all a i = absurd (in_nil a i)
asks_fit (call ∷ calls) all a i =
    ⊎_elim (λ e. subst ShortAsk (sym e) (all 0 call (omega arith))) (asks_fit calls (λ k d h. all (suc k) d (omega (arith, h))) a) (in_cases (asked call) a (map asked calls) i)

-- a member of the front of a list is one of the list
in_front : {X : Type 0} (n : ℕ) (xs : List X) (x : X) → In x (take n xs) → In x xs
in_front zero xs x i = absurd (in_nil x i)
in_front (suc n) [] x i = i
in_front (suc n) (y ∷ xs) x i = ⊎_elim (λ e. in_here y x xs e) (λ j. in_there y x xs (in_front n xs x j)) (in_cases y x (take n xs) i)

pub front_fits : (calls : List Lent) → All (λ call. ShortAsk (asked call)) calls → (n : ℕ) (a : Ask) → In a (take n (map asked calls)) → ShortAsk a
front_fits calls all n a i = asks_fit calls all a (in_front n (map asked calls) a i)
