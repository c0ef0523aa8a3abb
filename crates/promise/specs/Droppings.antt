-- Meaning. What a dropping answers.
use Rattle.std.specs.Prelude.{◌≡◌, ℕ, ◌⊎◌, ◌↔◌, Err, Result}
use Rattle.records.specs.declared.record.Task.{Task}
use Rattle.records.specs.declared.record.Message.{Message}
use Rattle.jobs.specs.declared.fault.DropFault.{DropFault}
use Rattle.jobs.specs.declared.fault.DropFault.TheVariants.{InUse, Unknown}
use Rattle.jobs.specs.Jobs.{In, Jobs}

-- a held task has the name n
abbrev pub HeldTask : Jobs → ℕ → Type 0
HeldTask js n = (t : Task) × In t js.tasks × (t.name ≡ n)

-- a held message has the name n
abbrev pub HeldMessage : Jobs → ℕ → Type 0
HeldMessage js n = (m : Message) × In m js.messages × (m.name ≡ n)

-- a held message has the task of the name n as source or destination
abbrev pub NamedBy : Jobs → ℕ → Type 0
NamedBy js n = (m : Message) × In m js.messages × ((m.source ≡ n) ⊎ (m.destination ≡ n))

-- a task is unknown exactly where no held task has the name, and in use exactly where one has and a held message names it
pub record TaskDropped (js : Jobs) (n : ℕ) (r : Result (Unit {0}) DropFault) : Type 0 where
  pub unknown : (r ≡ Err Unknown) ↔ (HeldTask js n → ⊥)
  pub in_use : (r ≡ Err InUse) ↔ (HeldTask js n × NamedBy js n)

-- a message is unknown exactly where no held message has the name, and never in use
pub record MessageDropped (js : Jobs) (n : ℕ) (r : Result (Unit {0}) DropFault) : Type 0 where
  pub unknown : (r ≡ Err Unknown) ↔ (HeldMessage js n → ⊥)
  pub free : r ≡ Err InUse → ⊥
