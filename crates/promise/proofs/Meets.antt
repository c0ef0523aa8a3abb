-- When two takes of places meet, by the instants of unbounded time, and what is told of their first meeting.
--   MeetAt     two takes of one place both hold it at an instant
--   Sound      a take whose hold, if it has one, is proper
--   MetFirst   what is told is a meeting of the two takes, and the first of all time
use Rattle.std.proofs.Common.{◌≡◌, ℕ, ◌≤◌, true, List, map, Some, None, Option, sym, refl, ap, ◌∙◌, subst}
use Rattle.std.specs.Option.{option_map}
use Rattle.std.proofs.lemmas.Bool.{cond_both, cond-true}
use Rattle.holds.specs.First.{IsFirst, first}
use Rattle.holds.specs.Span.{Busy, Proper, Span}
use Rattle.holds.proofs.First.{first_is}
use Rattle.records.specs.declared.record.Task.{Task}
use Rattle.records.specs.declared.record.Message.{Message}
use Rattle.jobs.specs.declared.meeting.Meeting.{Meeting}
use Rattle.jobs.specs.Jobs.{In, Setting}
use Rattle.jobs.specs.Meetings.{HeldJob, at_instant, held_message, held_task, met, shared}
use Rattle.jobs.specs.declared.place.Place.{Place}
use Rattle.jobs.specs.Places.{same_place}
use Rattle.jobs.specs.Takes.{Take, message_takes, task_takes}
use Rattle.jobs.proofs.PlaceLemmas.{same_place_refl, same_place_true}
use Rattle.jobs.proofs.Holders.{message_fit, messages_fit, task_fit, tasks_fit}

-- two takes of one place both hold it at the instant n
pub record MeetAt (x y : Take) (n : ℕ) : Type 0 where
  pub same : x.place ≡ y.place
  pub mine : Span
  pub theirs : Span
  pub mine_is : x.hold ≡ Some mine
  pub theirs_is : y.hold ≡ Some theirs
  pub mine_busy : Busy mine n
  pub theirs_busy : Busy theirs n

-- a hold, if there is one, is proper
abbrev pub SoundHold : Option Span → Type 0
SoundHold o = (h : Span) → o ≡ Some h → Proper h

abbrev pub Sound : Take → Type 0
Sound x = SoundHold x.hold

abbrev pub AllSound : List Take → Type 0
AllSound xs = (x : Take) → In x xs → Sound x

abbrev pub HeldSound : List HeldJob → Type 0
HeldSound hs = (h : HeldJob) → In h hs → AllSound h.takes

-- ---- what tasks and packets take is sound, as its holds are fit

pub task_takes_sound : (t : Task) → AllSound (task_takes t)
task_takes_sound t x (i, e) = task_fit t i x e

pub message_takes_sound : (g : Setting) (ts : List Task) (m : Message) → AllSound (message_takes g ts m)
message_takes_sound g ts m x (i, e) = message_fit g ts m i x e

pub tasks_sound : (ts : List Task) → HeldSound (map held_task ts)
tasks_sound ts h (k, at) x (i, e) = tasks_fit ts k h at i x e

pub messages_sound : (g : Setting) (ts : List Task) (ms : List Message) → HeldSound (map (held_message g ts) ms)
messages_sound g ts ms h (k, at) x (i, e) = messages_fit g ts ms k h at i x e

-- ---- the meeting of two takes

-- an option that a function was put on comes from one
mapped_some : {A B : Type 0} (f : A → B) (o : Option A) (b : B) → option_map f o ≡ Some b → (a : A) × (o ≡ Some a) × (f a ≡ b)
mapped_some f None b e = cc
mapped_some f (Some a) b e = (a, refl, cc)

mapped_none : {A B : Type 0} (f : A → B) (o : Option A) → option_map f o ≡ None → o ≡ None
mapped_none f None e = refl
mapped_none f (Some a) e = cc

-- what two holds share first
record FirstShared (o k : Option Span) (n : ℕ) : Type 0 where
  one : Span
  two : Span
  one_is : o ≡ Some one
  two_is : k ≡ Some two
  busy_one : Busy one n
  busy_two : Busy two n
  least : (m : ℕ) → Busy one m → Busy two m → n ≤ m

-- an instant that is told as shared is the first of all time
shared_some : (o k : Option Span) (n : ℕ) → SoundHold o → SoundHold k → shared o k ≡ Some n → FirstShared o k n
shared_some None k n so sk e = cc
shared_some (Some h) None n so sk e = cc
shared_some (Some h) (Some k) n so sk e =
    let f : IsFirst h k (Some n) = subst (IsFirst h k) e (first_is h k (so h refl) (sk k refl)) in
    record { one = h; two = k; one_is = refl; two_is = refl; busy_one = f.0; busy_two = f.1; least = f.2 }

-- and where none is told there is none
shared_none : (h k : Span) → Proper h → Proper k → first h k ≡ None → (n : ℕ) → Busy h n → Busy k n → ⊥
shared_none h k ph pk e n a b = let f : IsFirst h k None = subst (IsFirst h k) e (first_is h k ph pk) in f (n, a, b)

-- what met tells of two takes
abbrev pub MetFirst : ℕ → Take → Take → Meeting → Type 0
MetFirst name x y m = MeetAt x y m.instant × (m.held ≡ name) × (m.place ≡ x.place) × ((n : ℕ) → MeetAt x y n → m.instant ≤ n)

-- a meeting that is told happens, and is the first of all time
pub met_some : (name : ℕ) (x y : Take) (m : Meeting) → Sound x → Sound y → met name x y ≡ Some m → MetFirst name x y m
met_some name x y m sx sy e =
    cond_both (same_place x.place y.place) (option_map (at_instant name x.place) (shared x.hold y.hold)) None (λ o. o ≡ Some m → MetFirst name x y m)
    (λ t is. at (same_place_true x.place y.place t) (mapped_some (at_instant name x.place) (shared x.hold y.hold) m is))
    (λ _ is. cc)
    e
  where
    at : x.place ≡ y.place → (n : ℕ) × (shared x.hold y.hold ≡ Some n) × (at_instant name x.place n ≡ m) → MetFirst name x y m
    at p (n, s, is) =
        let f = shared_some x.hold y.hold n sx sy s in
        subst (MetFirst name x y) is (
          record { same = p; mine = f.one; theirs = f.two; mine_is = f.one_is; theirs_is = f.two_is; mine_busy = f.busy_one; theirs_busy = f.busy_two },
          refl,
          refl,
          λ k a.
              let one : a.mine ≡ f.one = let u = a.mine_is in let v = f.one_is in cc in
              let two : a.theirs ≡ f.two = let u = a.theirs_is in let v = f.two_is in cc in
              f.least k (subst (λ (h : Span). Busy h k) one a.mine_busy) (subst (λ (h : Span). Busy h k) two a.theirs_busy),
        )

-- where none is told, they share no instant of all time
pub met_none : (name : ℕ) (x y : Take) → Sound x → Sound y → met name x y ≡ None → (n : ℕ) → MeetAt x y n → ⊥
met_none name x y sx sy e n a =
    let at : same_place x.place y.place ≡ true = subst (λ (p : Place). same_place x.place p ≡ true) a.same (same_place_refl x.place) in
    let is : option_map (at_instant name x.place) (shared x.hold y.hold) ≡ None = sym (cond-true (same_place x.place y.place) _ _ at) ∙ e in
    let none : shared x.hold y.hold ≡ None = mapped_none (at_instant name x.place) (shared x.hold y.hold) is in
    let same : first a.mine a.theirs ≡ None
    = sym (ap (λ (o : Option Span). shared o y.hold) a.mine_is ∙ ap (λ (o : Option Span). shared (Some a.mine) o) a.theirs_is) ∙ none in
    shared_none a.mine a.theirs (sx a.mine a.mine_is) (sy a.theirs a.theirs_is) same n a.mine_busy a.theirs_busy
