-- Meaning. What is held after a call, by its answer.
--   Joined, More, Less        what joins the members of a list, and what leaves them
--   TaskMore .. MessageLess   one job more or less, and the other kind as it was
--   Leaves                    what a call does to what is held where it is not refused, and nothing where it is
use Rattle.std.specs.Prelude.{◌≡◌, ℕ, ◌⊎◌, ◌↔◌, List, Ok, Err, Result, ◌≢◌}
use Rattle.records.specs.declared.record.Task.{Task}
use Rattle.records.specs.declared.record.Message.{Message}
use Rattle.jobs.specs.Jobs.{In, Jobs}

-- the new and those before, and no other
abbrev pub Joined : {X : Type 0} → (X → Type 0) → List X → List X → Type 0
Joined {X = X} New before after = (y : X) → In y after ↔ (New y ⊎ In y before)

-- x and those before, and no other
abbrev pub More : {X : Type 0} → X → List X → List X → Type 0
More x = Joined (λ y. y ≡ x)

-- those before that have another name, and no other
abbrev pub Less : {X : Type 0} → (X → ℕ) → ℕ → List X → List X → Type 0
Less {X = X} name n before after = (y : X) → In y after ↔ (In y before × (name y ≢ n))

-- one task or message more, and the other kind as it was
abbrev pub TaskMore : Jobs → Task → Jobs → Type 0
TaskMore js t after = More t js.tasks after.tasks × (after.messages ≡ js.messages)

abbrev pub MessageMore : Jobs → Message → Jobs → Type 0
MessageMore js m after = More m js.messages after.messages × (after.tasks ≡ js.tasks)

-- one less, by its name
abbrev pub TaskLess : Jobs → ℕ → Jobs → Type 0
TaskLess js n after = Less (λ t. t.name) n js.tasks after.tasks × (after.messages ≡ js.messages)

abbrev pub MessageLess : Jobs → ℕ → Jobs → Type 0
MessageLess js n after = Less (λ m. m.name) n js.messages after.messages × (after.tasks ≡ js.tasks)

-- a call that is not refused does what its value says; one that is leaves what was held
abbrev pub Leaves : {T E : Type 0} → Jobs → (T → Jobs → Type 0) → Result T E → Jobs → Type 0
Leaves js Does (Ok x) after = Does x after
Leaves js Does (Err e) after = after ≡ js
