-- What each taken job keeps, loads keep: clean plans stay clean, and names ascend.
use Rattle.std.proofs.Common.{◌≡◌, ℕ, ◌+◌, List, [], ◌∷◌, Some, None, Ok, Err, Option, Result, refl}
use Rattle.std.specs.Option.{option_map}
use Rattle.fabric.specs.Network.{IsFabric}
use Rattle.records.specs.declared.record.Task.{Task}
use Rattle.records.specs.declared.record.Message.{Message}
use Rattle.jobs.specs.Jobs.{Jobs, Setting, with_message, with_task}
use Rattle.jobs.specs.Offered.{joined, refused}
use Rattle.jobs.specs.Rules.{message_refusal, task_refusal}
use Rattle.jobs.specs.declared.job.Job.{Job}
use Rattle.jobs.specs.declared.job.Job.TheVariants as job
use Rattle.jobs.specs.declared.job.JobFault.{JobFault}
use Rattle.plan.specs.Loading.{file_order, in_turn, job_part, load, loaded, on_taken}
use Rattle.plan.specs.declared.fault.LayoutFault.{LayoutFault}
use Rattle.promise.specs.Canonical.{Canonical}
use Rattle.promise.specs.Clean.{Clean}
use Rattle.promise.proofs.Canonical.{message_canonical, task_canonical}
use Rattle.promise.proofs.Keeps.{message_taken, task_taken}

none_mapped : {E D : Type 0} (f : E → D) (o : Option E) → option_map f o ≡ None → o ≡ None
none_mapped f None e = refl
none_mapped f (Some x) e = cc

module _ (g : Setting) (P : Jobs → Type 0) where
  module _ (keep : (js : Jobs) (x : Job) → P js → refused g js x ≡ None → P (joined js x)) where
    -- what each taken offer keeps, offers in turn keep
    turn_keeps : (js : Jobs) (k : ℕ) (xs : List Job) → P js → P (in_turn g js k xs).1
    turn_keeps js k [] here = here
    turn_keeps js k (x ∷ xs) here = go (refused g js x) refl (λ e. turn_keeps (joined js x) (k + 1) xs (keep js x here e))
      where
        go : (o : Option JobFault) → refused g js x ≡ o → (refused g js x ≡ None → P (in_turn g (joined js x) (k + 1) xs).1) → P (on_taken k o js (in_turn g (joined js x) (k + 1) xs)).1
        go None e next = next e
        go (Some y) e next = here

    -- a load offers the records in turn, where its layout is not at fault
    loaded_kept : (js : Jobs) (part : Result (List Task × List Message) LayoutFault) → P js → P (loaded g js part).1
    loaded_kept js (Err e) here = here
    loaded_kept js (Ok p) here = turn_keeps js 0 (file_order p) here

  module _ (keep_task : (js : Jobs) (t : Task) → P js → task_refusal g.network.nodes js t ≡ None → P (with_task js t))
      (keep_message : (js : Jobs) (m : Message) → P js → message_refusal g js m ≡ None → P (with_message js m)) where
    -- what a task keeps and a message keeps, a job of either kind keeps
    pub job_kept : (js : Jobs) (x : Job) → P js → refused g js x ≡ None → P (joined js x)
    job_kept js (job.Task t) here e = keep_task js t here (none_mapped _ _ e)
    job_kept js (job.Message m) here e = keep_message js m here (none_mapped _ _ e)

    pub load_kept : (js : Jobs) (part : Result (List Task × List Message) LayoutFault) → P js → P (loaded g js part).1
    load_kept = loaded_kept job_kept

module _ (g : Setting) (fab : IsFabric g.network) where
  pub job_taken : (js : Jobs) (x : Job) → Clean g js → refused g js x ≡ None → Clean g (joined js x)
  job_taken = job_kept g (Clean g) (task_taken g) (message_taken g fab)

  pub loaded_keeps : (js : Jobs) (part : Result (List Task × List Message) LayoutFault) → Clean g js → Clean g (loaded g js part).1
  loaded_keeps = load_kept g (Clean g) (task_taken g) (message_taken g fab)

  pub load_keeps : (js : Jobs) (part : List ℕ) → Clean g js → Clean g (load g js part).1
  load_keeps js part = loaded_keeps js (job_part part)

pub load_canonical : (g : Setting) (js : Jobs) (part : List ℕ) → Canonical js → Canonical (load g js part).1
load_canonical g js part = load_kept g Canonical (task_canonical g) (message_canonical g) js (job_part part)
