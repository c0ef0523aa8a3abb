-- What is held after a call, by its answer.
use Rattle.std.proofs.Common.{refl}
use Rattle.jobs.specs.Drops.{drop_message, drop_task}
use Rattle.jobs.specs.Jobs.{Jobs, Setting}
use Rattle.jobs.specs.Placings.{place_message, place_task}
use Rattle.jobs.specs.Rules.{offer_message, offer_task}
use Rattle.promise.specs.Clean.{Clean}
use Rattle.plan.proofs.Afters.{message_drop_left, message_left, message_place_left, task_drop_left, task_left, task_place_left}
use Rattle.plan.proofs.Tries.{load_left}
use Rattle.replay.specs.declared.calls.Call.TheVariants as call
use Rattle.replay.specs.Calls.{Ask, ask}
use Rattle.replay.specs.Promise.{After}

pub after : (g : Setting) (js : Jobs) → Clean g js → (a : Ask) → After g js a (ask g js a).0 (ask g js a).1
after g js c (call.OfferTask t) = ((offer_task g js t).0, refl, task_left g js t)
after g js c (call.OfferMessage m) = ((offer_message g js m).0, refl, message_left g js m)
after g js c (call.PlaceTask t) = ((place_task g js t).0, refl, task_place_left g js t)
after g js c (call.PlaceMessage m) = ((place_message g js m).0, refl, message_place_left g js m)
after g js c (call.DropTask n) = ((drop_task js n).0, refl, task_drop_left js n c.made.task_names)
after g js c (call.DropMessage n) = ((drop_message js n).0, refl, message_drop_left js n c.made.message_names)
after g js c (call.Load part) = (refl, load_left g js part)
after g js c (call.Slack n) = refl
after g js c (call.CoreHolder x n) = refl
after g js c (call.LinkHolder l n) = refl
after g js c (call.Write room) = refl
