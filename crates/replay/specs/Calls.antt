-- Rule. Lists of calls: what they answer and what is held after them, from the setting and the calls' arguments alone.
--   Ask, Lent, asked            a call by its arguments, one whose job part is lent, and what that asks
--   Said                        an answer in which a taken write gives its bytes
--   ask                         what one call answers, and what is held after it
--   answers, held, new_answers  the same of a list of calls, and of one on a new plan
--   keeps_plan                  the answers that leave the plan as it is
--   giving, all_said            the same answer with something made of what a write gives, and answers by the bytes that they own
--   read_off, bytes_given, length_given    of a write: from a page, and what it tells
--   answer_told, new_refusals   the number and values of what an answer refuses, and of what calls answer on a new plan
use Rattle.std.specs.Prelude.{ℕ, Bool, true, false, List, [], ◌∷◌, map, take, ◌⊎◌, Ok, Option, Vec, vec_items}
use Rattle.std.proofs.Common.{inl, inr}
use Rattle.std.specs.Borrow.{Bor}
use Rattle.std.specs.declared.alloc.Global.{Global}
use Rattle.std.specs.Result.{is_err, result_map_both}
use Rattle.refusals.specs.Told.{buffer_told, refusal_of}
use Rattle.refusals.specs.declared.refusal.Refusal.{Refusal}
use Rattle.refusals.specs.declared.refusal.Told.{Told}
use Rattle.jobs.specs.Jobs.{Setting, Jobs, nothing}
use Rattle.jobs.specs.Numbers.{drop_told, message_told, place_told, placing_told, task_told}
use Rattle.jobs.specs.Rules.{offer_task, offer_message}
use Rattle.jobs.specs.Placings.{place_task, place_message}
use Rattle.jobs.specs.Drops.{drop_task, drop_message}
use Rattle.jobs.specs.Slacks.{slack}
use Rattle.jobs.specs.Holding.{core_holder, link_holder}
use Rattle.plan.specs.Loading.{load}
use Rattle.plan.specs.Told.{load_told}
use Rattle.plan.specs.Writing.{write}
use Rattle.replay.specs.declared.calls.Call.{Call}
use Rattle.replay.specs.declared.calls.Call.TheVariants as call
use Rattle.replay.specs.declared.calls.Answer.{Answer}
use Rattle.replay.specs.declared.calls.Answer.TheVariants as answer

-- a call by its arguments, a load with the bytes of its job part
abbrev pub Ask : Type 0
Ask = Call (List ℕ)

-- a call whose job part is lent
abbrev pub Lent : Type 0
Lent = Call (Bor (List ℕ))

abbrev pub asked : Lent → Ask
asked (call.OfferTask t) = call.OfferTask t
asked (call.OfferMessage m) = call.OfferMessage m
asked (call.PlaceTask t) = call.PlaceTask t
asked (call.PlaceMessage m) = call.PlaceMessage m
asked (call.DropTask n) = call.DropTask n
asked (call.DropMessage n) = call.DropMessage n
asked (call.Load part) = call.Load part.now
asked (call.Slack n) = call.Slack n
asked (call.CoreHolder c n) = call.CoreHolder c n
asked (call.LinkHolder l n) = call.LinkHolder l n
asked (call.Write room) = call.Write room

-- an answer in which a taken write gives its bytes
abbrev pub Said : Type 0
Said = Answer (List ℕ)

-- what a call answers, and what is held after it
abbrev pub ask : Setting → Jobs → Ask → Said × Jobs
ask g js (call.OfferTask t) = (answer.TaskOffered (offer_task g js t).0, (offer_task g js t).1)
ask g js (call.OfferMessage m) = (answer.MessageOffered (offer_message g js m).0, (offer_message g js m).1)
ask g js (call.PlaceTask t) = (answer.TaskPlaced (place_task g js t).0, (place_task g js t).1)
ask g js (call.PlaceMessage m) = (answer.MessagePlaced (place_message g js m).0, (place_message g js m).1)
ask g js (call.DropTask n) = (answer.Dropped (drop_task js n).0, (drop_task js n).1)
ask g js (call.DropMessage n) = (answer.Dropped (drop_message js n).0, (drop_message js n).1)
ask g js (call.Load part) = (answer.Loaded (load g js part).0, (load g js part).1)
ask g js (call.Slack n) = (answer.Slack (slack g js n), js)
ask g js (call.CoreHolder c n) = (answer.Holder (core_holder g js c n), js)
ask g js (call.LinkHolder l n) = (answer.Holder (link_holder g js l n), js)
ask g js (call.Write room) = (answer.Written (write js room), js)

-- what is held after the calls
abbrev pub held : Setting → Jobs → List Ask → Jobs
held g js [] = js
held g js (a ∷ rest) = held g (ask g js a).1 rest

-- what the calls answer, in their order
abbrev pub answers : Setting → Jobs → List Ask → List Said
answers g js [] = []
answers g js (a ∷ rest) = (ask g js a).0 ∷ answers g (ask g js a).1 rest

-- what calls answer on a new plan
abbrev pub new_answers : Setting → List Lent → List Said
new_answers g calls = answers g nothing (map asked calls)

-- a refused offer, placing or dropping, a question or a write: the plan stays as it is
abbrev pub keeps_plan : {W : Type 0} → Answer W → Bool
keeps_plan (answer.TaskOffered r) = is_err r
keeps_plan (answer.MessageOffered r) = is_err r
keeps_plan (answer.TaskPlaced r) = is_err r
keeps_plan (answer.MessagePlaced r) = is_err r
keeps_plan (answer.Dropped r) = is_err r
keeps_plan (answer.Loaded r) = false
keeps_plan question = true

-- the same answer, with something made of what a taken write gives
abbrev pub giving : {V W : Type 0} → (V → W) → Answer V → Answer W
giving f (answer.TaskOffered r) = answer.TaskOffered r
giving f (answer.MessageOffered r) = answer.MessageOffered r
giving f (answer.TaskPlaced r) = answer.TaskPlaced r
giving f (answer.MessagePlaced r) = answer.MessagePlaced r
giving f (answer.Dropped r) = answer.Dropped r
giving f (answer.Loaded r) = answer.Loaded r
giving f (answer.Slack r) = answer.Slack r
giving f (answer.Holder r) = answer.Holder r
giving f (answer.Written r) = answer.Written (result_map_both f (λ e. e) r)

-- the answer that tells the length of what a write left at the front of the page, with those bytes
abbrev pub read_off : List ℕ → Answer ℕ → Said
read_off page = giving (λ n. take n page)

-- how many bytes an answer says that a write left; none of any other answer
abbrev pub length_given : Answer ℕ → ℕ
length_given (answer.Written (Ok n)) = n
length_given r = 0

-- answers that own their bytes, by these
abbrev pub all_said : List (Answer (Vec ℕ Global)) → List Said
all_said = map (giving vec_items)

-- the bytes of a taken write, and no bytes of any other answer
abbrev pub bytes_given : Said → List ℕ
bytes_given (answer.Written (Ok bytes)) = bytes
bytes_given r = []

-- what an answer refuses, by the number and values of each fault, and of a load with section and record; none where nothing is refused
abbrev pub answer_told : {W : Type 0} → Answer W → Option (Refusal ⊎ Told)
answer_told (answer.TaskOffered r) = refusal_of (λ e. inl (task_told e)) r
answer_told (answer.MessageOffered r) = refusal_of (λ e. inl (message_told e)) r
answer_told (answer.TaskPlaced r) = refusal_of (λ e. inl (placing_told task_told e)) r
answer_told (answer.MessagePlaced r) = refusal_of (λ e. inl (placing_told message_told e)) r
answer_told (answer.Dropped r) = refusal_of (λ e. inl (drop_told e)) r
answer_told (answer.Loaded r) = refusal_of (λ e. inr (load_told e)) r
answer_told (answer.Slack r) = refusal_of (λ e. inl (drop_told e)) r
answer_told (answer.Holder r) = refusal_of (λ e. inl (place_told e)) r
answer_told (answer.Written r) = refusal_of (λ e. inl (buffer_told e)) r

-- the same of what calls answer on a new plan
abbrev pub new_refusals : Setting → List Lent → List (Option (Refusal ⊎ Told))
new_refusals g calls = map answer_told (new_answers g calls)
