-- Meaning. What the answers to questions say of a plan, by its runs and packets.
--   HolderFound    a told holder of a place at an instant is the run that has it, and none where no run has
--   HolderAnswer   of a place of the fabric, or a number that is no place; CoreAnswer and LinkAnswer by kind
--   SlackAnswer    a told slack is the least over all packets of the held message, and none is told where no message has the name
use Rattle.std.specs.Prelude.{◌≡◌, ℕ, ◌↔◌, ◌<◌, ◌≤◌, ℤ, pos, ◌≤ℤ◌, Some, None, Ok, Err, Option, Result, ◌≢◌}
use Rattle.records.specs.declared.record.Message.{Message}
use Rattle.jobs.specs.declared.fault.DropFault.{DropFault}
use Rattle.jobs.specs.declared.fault.DropFault.TheVariants.{Unknown}
use Rattle.jobs.specs.declared.fault.PlaceFault.{PlaceFault}
use Rattle.jobs.specs.declared.job.Job.{Job}
use Rattle.jobs.specs.declared.place.Place.{Place}
use Rattle.jobs.specs.Holding.{place_count}
use Rattle.jobs.specs.Jobs.{In, IsHeld, Jobs, Setting, job_name}
use Rattle.jobs.specs.Places.{core, link}
use Rattle.jobs.specs.Slacks.{HeldSlack}
use Rattle.promise.specs.Clean.{Uses}

-- a told holder of the place at the instant n: (name, k) exactly when run k of a held job of that name has the place then, and none
-- exactly when no run of any held job has
pub record HolderFound (g : Setting) (js : Jobs) (place : Place) (n : ℕ) (o : Option (ℕ × ℕ)) : Type 0 where
  pub some : (name k : ℕ) → (o ≡ Some (name, k)) ↔ ((x : Job) × IsHeld js x × (job_name x ≡ name) × Uses g js x k place n)
  pub none : (o ≡ None) ↔ ((x : Job) (k : ℕ) → IsHeld js x → Uses g js x k place n → ⊥)

-- of a place of the fabric, or of a number that is not below the count of its kind
abbrev pub HolderAnswer : Setting → Jobs → Place → ℕ → Result (Option (ℕ × ℕ)) PlaceFault → Type 0
HolderAnswer g js p n (Ok o) = (p.number < place_count g.network p.kind) × HolderFound g js p n o
HolderAnswer g js p n (Err e) = place_count g.network p.kind ≤ p.number

abbrev pub CoreAnswer : Setting → Jobs → ℕ → ℕ → Result (Option (ℕ × ℕ)) PlaceFault → Type 0
CoreAnswer g js c n = HolderAnswer g js (core c) n

abbrev pub LinkAnswer : Setting → Jobs → ℕ → ℕ → Result (Option (ℕ × ℕ)) PlaceFault → Type 0
LinkAnswer g js l n = HolderAnswer g js (link l) n

-- a told slack of the name n is the least: some packet of the held message of that name has it, none has less, and it is not below 0; and
-- it is refused, as unknown, exactly when no held message has the name
pub record SlackAnswer (g : Setting) (js : Jobs) (n : ℕ) (r : Result ℤ DropFault) : Type 0 where
  pub value : (v : ℤ) → r ≡ Ok v → HeldSlack g js n v × (pos 0 ≤ℤ v)
  pub refused : ((e : DropFault) × (r ≡ Err e)) ↔ ((m : Message) → In m js.messages → m.name ≢ n)
  pub unknown : (e : DropFault) → r ≡ Err e → e ≡ Unknown
