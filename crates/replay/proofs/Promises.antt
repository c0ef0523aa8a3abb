-- The main promise: by induction over the list, since every call keeps a clean plan clean.
use Rattle.std.proofs.Common.{◌≡◌, ℕ, zero, suc, Bool, true, false, if◌then◌else◌, List, [], ◌∷◌, take, Some, Ok, Err, sym, refl, ap, subst, arith}
use Rattle.std.specs.List.{slice_get}
use Rattle.std.proofs.lemmas.Bool.Decides.{nat_tests}
use Rattle.fabric.specs.Network.{IsFabric}
use Rattle.jobs.specs.Drops.{drop_message, drop_task}
use Rattle.jobs.specs.Holding.{core_holder, link_holder}
use Rattle.jobs.specs.Placings.{place_message, place_task}
use Rattle.jobs.specs.Jobs.{Jobs, Setting, nothing}
use Rattle.jobs.specs.Rules.{offer_message, offer_task}
use Rattle.jobs.specs.Slacks.{slack}
use Rattle.plan.specs.Loading.{load}
use Rattle.plan.specs.Writing.{part_bytes, too_long, write}
use Rattle.refusals.specs.Lines.{too_short}
use Rattle.promise.specs.Canonical.{Canonical}
use Rattle.promise.specs.Clean.{Clean}
use Rattle.promise.proofs.Canonical.{drop_message_canonical, drop_task_canonical, message_offer_canonical, message_place_canonical, nothing_canonical, task_offer_canonical, task_place_canonical}
use Rattle.promise.proofs.Drops.{drop_message_keeps, drop_task_keeps}
use Rattle.promise.proofs.Keeps.{message_offer_keeps, message_place_keeps, task_offer_keeps, task_place_keeps}
use Rattle.plan.proofs.Loads.{load_canonical, load_keeps}
use Rattle.promise.proofs.Droppings.{message_dropping, task_dropping}
use Rattle.promise.proofs.Early.{message_answer, message_placing, task_answer, task_placing}
use Rattle.jobs.specs.Places.{core, link}
use Rattle.promise.proofs.Questions.{holder_answer, slack_told}
use Rattle.plan.proofs.Round.{round_trip}
use Rattle.plan.proofs.Same.{same_bytes}
use Rattle.plan.proofs.Short.{nothing_short}
use Rattle.plan.proofs.Stands.{clean_nothing}
use Rattle.plan.proofs.Tries.{load_told}
use Rattle.replay.proofs.Afters.{after}
use Rattle.replay.proofs.Shorts.{ask_short, held_short}
use Rattle.replay.specs.declared.calls.Call.TheVariants as call
use Rattle.replay.specs.Calls.{Ask, Said, answers, ask, held}
use Rattle.replay.specs.Promise.{After, CallPromise, Promise, Promised, WriteAnswer}

module _ (g : Setting) (fab : IsFabric g.network) where
  -- every call keeps a clean plan clean
  pub ask_keeps : (js : Jobs) (a : Ask) → Clean g js → Clean g (ask g js a).1
  ask_keeps js (call.OfferTask t) c = task_offer_keeps g js t c
  ask_keeps js (call.OfferMessage m) c = message_offer_keeps g fab js m c
  ask_keeps js (call.PlaceTask t) c = task_place_keeps g js t c
  ask_keeps js (call.PlaceMessage m) c = message_place_keeps g fab js m c
  ask_keeps js (call.DropTask n) c = drop_task_keeps g js n c
  ask_keeps js (call.DropMessage n) c = drop_message_keeps g js n c
  ask_keeps js (call.Load part) c = load_keeps g fab js part c
  ask_keeps js (call.Slack n) c = c
  ask_keeps js (call.CoreHolder x n) c = c
  ask_keeps js (call.LinkHolder l n) c = c
  ask_keeps js (call.Write room) c = c

  pub held_keeps : (js : Jobs) (asks : List Ask) → Clean g js → Clean g (held g js asks)
  held_keeps js [] c = c
  held_keeps js (a ∷ rest) c = held_keeps (ask g js a).1 rest (ask_keeps js a c)

  -- a call on a clean plan is answered as promised
  pub answered : (js : Jobs) → Clean g js → (a : Ask) → Promised g js a (ask g js a).0
  answered js c (call.OfferTask t) = ((offer_task g js t).0, refl, task_answer g js t c)
  answered js c (call.OfferMessage m) = ((offer_message g js m).0, refl, message_answer g fab js m c)
  answered js c (call.PlaceTask t) = ((place_task g js t).0, refl, task_placing g js t)
  answered js c (call.PlaceMessage m) = ((place_message g js m).0, refl, message_placing g js m)
  answered js c (call.DropTask n) = ((drop_task js n).0, refl, task_dropping js n)
  answered js c (call.DropMessage n) = ((drop_message js n).0, refl, message_dropping js n)
  answered js c (call.Load part) = ((load g js part).0, refl, load_told g fab js c part)
  answered js c (call.Slack n) = (slack g js n, refl, slack_told g fab js c n)
  answered js c (call.CoreHolder x n) = (core_holder g js x n, refl, holder_answer g fab js c (core x) n)
  answered js c (call.LinkHolder l n) = (link_holder g js l n, refl, holder_answer g fab js c (link l) n)
  answered js c (call.Write room) = (write js room, refl, go (too_long js room) refl)
    where
      go : (b : Bool) → b ≡ too_long js room → WriteAnswer js room (if b then Err too_short else Ok (part_bytes js))
      go true e = grind (arith, nat_tests, e)
      go false e = (refl, grind (arith, nat_tests, e))

  -- each answer of a list is that of its call, after the calls before it, and so is what is held then
  calls : (js : Jobs) → Clean g js → (asks : List Ask) (i : ℕ) (a : Ask) → slice_get asks i ≡ Some a
      → (r : Said) × (slice_get (answers g js asks) i ≡ Some r) × Promised g (held g js (take i asks)) a r × After g (held g js (take i asks)) a r (held g js (take (suc i) asks))
  calls js c [] i a e = cc
  calls js c (b ∷ rest) zero a e =
      let same : b ≡ a = cc in
      ((ask g js a).0, ap (λ x. Some (ask g js x).0) same, answered js c a, subst (λ x. After g js a (ask g js a).0 (ask g js x).1) (sym same) (after g js c a))
  calls js c (b ∷ rest) (suc i) a e = calls (ask g js b).1 (ask_keeps js b c) rest i a e

  -- the held jobs stay in ascending names and within their numbers
  pub ask_canonical : (js : Jobs) (a : Ask) → Canonical js → Canonical (ask g js a).1
  ask_canonical js (call.OfferTask t) c = task_offer_canonical g js t c
  ask_canonical js (call.OfferMessage m) c = message_offer_canonical g js m c
  ask_canonical js (call.PlaceTask t) c = task_place_canonical g js t c
  ask_canonical js (call.PlaceMessage m) c = message_place_canonical g js m c
  ask_canonical js (call.DropTask n) c = drop_task_canonical js n c
  ask_canonical js (call.DropMessage n) c = drop_message_canonical js n c
  ask_canonical js (call.Load part) c = load_canonical g js part c
  ask_canonical js (call.Slack n) c = c
  ask_canonical js (call.CoreHolder x n) c = c
  ask_canonical js (call.LinkHolder l n) c = c
  ask_canonical js (call.Write room) c = c

  held_canonical : (js : Jobs) (asks : List Ask) → Canonical js → Canonical (held g js asks)
  held_canonical js [] c = c
  held_canonical js (a ∷ rest) c = held_canonical (ask g js a).1 rest (ask_canonical js a c)

  pub each_call : (js : Jobs) → Clean g js → Canonical js → (a : Ask) → CallPromise g js a
  each_call js c ordered a =
      record {
        clean = ask_keeps js a c;
        canonical = ask_canonical js a ordered;
        answered = answered js c a;
        left = after g js c a;
        short = λ here fits. ask_short g js a fits here;
        back = λ here fits. round_trip g fab (ask g js a).1 (ask_keeps js a c) (ask_canonical js a ordered) (ask_short g js a fits here);
      }

  pub promise : (asks : List Ask) → Promise g asks
  promise asks =
      let clean = held_keeps nothing asks (clean_nothing g) in
      let ordered = λ (list : List Ask). held_canonical nothing list nothing_canonical in
      let back_held = round_trip g fab (held g nothing asks) clean (ordered asks) in
      record {
        clean = clean;
        calls = calls nothing (clean_nothing g) asks;
        canonical = ordered asks;
        back = λ fits. back_held (held_short g nothing asks fits nothing_short);
        back_held = back_held;
        same = λ others members. (same_bytes (held g nothing asks) (held g nothing others) (ordered asks) (ordered others) members).1;
      }
