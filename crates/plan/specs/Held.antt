-- Meaning. What a plan holds, and what it was created with.
use Rattle.std.specs.Prelude.{◌≡◌, length}
use Rattle.fabric.specs.declared.Fabric.{Ghosts}
use Rattle.refusals.specs.declared.refusal.Counts.{Counts}
use Rattle.jobs.specs.Jobs.{Jobs, Setting, created_on}
use Rattle.promise.specs.Tabled.{tabled}
use Rattle.plan.specs.declared.plan.Plan.{Plan}

-- the held jobs: what each table holds
abbrev pub jobs : {F : Type 0} {B : Ghosts F} → Plan F B → Jobs
jobs p = tabled p.tasks p.messages

-- how many tasks and messages there are
abbrev pub counts_of : Jobs → Counts
counts_of js = record { tasks = length js.tasks; messages = length js.messages }

-- the setting of a plan, by what its kind of fabric means
abbrev pub setting : {F : Type 0} {B : Ghosts F} → Plan F B → Setting
setting {B = B} p = created_on (B.meaning p.fabric.now)

-- two plans were created alike: over the same fabric
abbrev pub SameSetting : {F : Type 0} {B : Ghosts F} → Plan F B → Plan F B → Type 0
SameSetting p q = q.fabric ≡ p.fabric
