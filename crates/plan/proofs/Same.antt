-- Plans that hold the same jobs are the same and write the same bytes.
use Rattle.std.proofs.Common.{◌≡◌, ap, ◌∙◌}
use Rattle.jobs.specs.Jobs.{Jobs, message_name, task_name}
use Rattle.plan.specs.Writing.{part_bytes}
use Rattle.plan.specs.Round.{SameBytes}
use Rattle.promise.specs.Canonical.{Canonical, SameMembers}
use Rattle.promise.proofs.Ascending.{ascends_same}

-- the members in the order of their names are the lists
pub same_jobs : (a b : Jobs) → Canonical a → Canonical b → SameMembers a b → a ≡ b
same_jobs a b ca cb same =
    let ts : a.tasks ≡ b.tasks = ascends_same task_name 0 0 a.tasks b.tasks ca.tasks cb.tasks (λ t. (same.tasks t).0) (λ t. (same.tasks t).1) in
    let ms : a.messages ≡ b.messages =
    ascends_same message_name 0 0 a.messages b.messages ca.messages cb.messages (λ m. (same.messages m).0) (λ m. (same.messages m).1) in
    ap (λ l. record { tasks = l; messages = a.messages }) ts ∙ ap (λ l. record { tasks = b.tasks; messages = l }) ms

pub same_bytes : SameBytes
same_bytes a b ca cb same = let e = same_jobs a b ca cb same in (e, ap part_bytes e)
