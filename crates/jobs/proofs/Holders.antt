-- The holder that the rule tells has the place at the instant, and where it tells none, nothing has.
use Rattle.std.proofs.Common.{◌≡◌, ℕ, zero, suc, Bool, true, false, cond, List, [], ◌∷◌, map, Some, None, Option, sym, refl, ap, ◌∙◌, subst}
use Rattle.std.specs.List.{slice_get}
use Rattle.std.specs.Option.{option_and_then, option_or}
use Rattle.std.proofs.lemmas.Bool.{cond-true}
use Rattle.std.proofs.lemmas.Option.{same_Some}
use Rattle.holds.specs.Run.{RunAt, run}
use Rattle.holds.specs.Span.{RunHolds, Proper, Span}
use Rattle.holds.proofs.Busy.{run_is}
use Rattle.holds.proofs.Limits.{spanned_proper}
use Rattle.records.specs.declared.record.Task.{Task}
use Rattle.records.specs.declared.record.Message.{Message}
use Rattle.jobs.specs.Holding.{Has, HolderIs, Holding, first_run, holder_among, run_on, with_name}
use Rattle.jobs.specs.Jobs.{Setting}
use Rattle.jobs.specs.Meetings.{HeldJob, held_message, held_task}
use Rattle.jobs.specs.declared.place.Place.{Place}
use Rattle.jobs.specs.Claims.{Claim, claims}
use Rattle.jobs.specs.Places.{same_place}
use Rattle.jobs.specs.Takes.{Take, take_of}
use Rattle.jobs.specs.declared.job.Job.TheVariants as job

-- ---- the run of one hold

run_sound : (h : Span) (n k : ℕ) → Proper h → run h n ≡ Some k → RunHolds h k n
run_sound h n k p e = (run_is h n (Some k) p (sym e)).0

run_complete : (h : Span) (n k : ℕ) → Proper h → RunHolds h k n → run h n ≡ Some k
run_complete h n k p holds = go (run h n) (run_is h n (run h n) p refl)
  where
    go : (o : Option ℕ) → RunAt h n o → o ≡ Some k
    go None never = absurd (never (k, holds))
    go (Some j) here = ap Some (sym (here.1 k holds))

-- ---- takes

-- a take whose hold, if it has one, is proper
abbrev pub Fit : Take → Type 0
Fit t = (h : Span) → t.hold ≡ Some h → Proper h

abbrev pub AllFit : List Take → Type 0
AllFit ts = (i : ℕ) (t : Take) → slice_get ts i ≡ Some t → Fit t

of_sound : (o : Option Span) (n k : ℕ) → ((h : Span) → o ≡ Some h → Proper h) → option_and_then (λ h. run h n) o ≡ Some k → (h : Span) × (o ≡ Some h) × RunHolds h k n
of_sound None n k fit e = cc
of_sound (Some h) n k fit e = (h, refl, run_sound h n k (fit h refl) e)

on_sound : (p : Place) (n k : ℕ) (t : Take) → Fit t → run_on p n t ≡ Some k → Has p n k t
on_sound p n k t fit e = go (same_place p t.place) refl e
  where
    go : (b : Bool) → same_place p t.place ≡ b → cond b (option_and_then (λ h. run h n) t.hold) None ≡ Some k → Has p n k t
    go false at is = cc
    go true at is = (at, of_sound t.hold n k fit is)

on_complete : (p : Place) (n k : ℕ) (t : Take) → Fit t → Has p n k t → run_on p n t ≡ Some k
on_complete p n k t fit (at, (h, is, holds)) =
    cond-true _ _ _ at ∙ ap (option_and_then (λ h. run h n)) is ∙ run_complete h n k (fit h is) holds

module _ (p : Place) (n : ℕ) where
  first_sound : (ts : List Take) (k : ℕ) → AllFit ts → first_run p n ts ≡ Some k → (t : Take) × ((i : ℕ) × (slice_get ts i ≡ Some t)) × Has p n k t
  first_sound [] k fit e = cc
  first_sound (t ∷ ts) k fit e = go (run_on p n t) refl (first_sound ts k (λ i x. fit (suc i) x)) e
    where
      go : (o : Option ℕ) → run_on p n t ≡ o → (first_run p n ts ≡ Some k → (x : Take) × ((i : ℕ) × (slice_get ts i ≡ Some x)) × Has p n k x)
          → option_or o (first_run p n ts) ≡ Some k → (x : Take) × ((i : ℕ) × (slice_get (t ∷ ts) i ≡ Some x)) × Has p n k x
      go (Some j) at rest is = let same : j ≡ k = cc in (t, (0, refl), on_sound p n k t (fit 0 t refl) (at ∙ ap Some same))
      go None at rest is = later (rest is)
        where
          later : (x : Take) × ((i : ℕ) × (slice_get ts i ≡ Some x)) × Has p n k x → (x : Take) × ((i : ℕ) × (slice_get (t ∷ ts) i ≡ Some x)) × Has p n k x
          later (x, (i, e), has) = (x, (suc i, e), has)

  first_none : (ts : List Take) → AllFit ts → first_run p n ts ≡ None → (i k : ℕ) (t : Take) → slice_get ts i ≡ Some t → Has p n k t → ⊥
  first_none [] fit e i k t at has = cc
  first_none (x ∷ ts) fit e i k t at has = go (run_on p n x) refl (λ none j there. first_none ts (λ i y. fit (suc i) y) none j k t there has) e i at
    where
      go : (o : Option ℕ) → run_on p n x ≡ o → (first_run p n ts ≡ None → (j : ℕ) → slice_get ts j ≡ Some t → ⊥)
          → option_or o (first_run p n ts) ≡ None → (i : ℕ) → slice_get (x ∷ ts) i ≡ Some t → ⊥
      go (Some j) is rest no_run i at = cc
      go None is rest no_run zero at =
          let same : x ≡ t = cc in
          let some : Some k ≡ None = sym (on_complete p n k x (fit 0 x refl) (subst (λ (y : Take). Has p n k y) (sym same) has)) ∙ is in
          cc
      go None is rest no_run (suc i) at = rest no_run i at

  -- ---- jobs

  abbrev pub JobsFit : List HeldJob → Type 0
  JobsFit js = (i : ℕ) (j : HeldJob) → slice_get js i ≡ Some j → AllFit j.takes

  pub holder_is : (js : List HeldJob) → JobsFit js → HolderIs js p n (holder_among p n js)
  holder_is [] fit = λ name k h. nothing_there h.job_at
    where
      nothing_there : {j : HeldJob} → (i : ℕ) × (slice_get [] i ≡ Some j) → ⊥
      nothing_there (i, e) = cc
  holder_is (j ∷ js) fit = go (first_run p n j.takes) refl (holder_is js (λ i x. fit (suc i) x))
    where
      lift : (o : Option (ℕ × ℕ)) → HolderIs js p n o → first_run p n j.takes ≡ None → HolderIs (j ∷ js) p n o
      lift None never here = λ name k h. on name k h h.job_at
        where
          on : (name k : ℕ) (h : Holding (j ∷ js) p n name k) → (i : ℕ) × (slice_get (j ∷ js) i ≡ Some h.job) → ⊥
          on name k h (zero, e) =
              let same : j ≡ h.job = cc in
              first_none j.takes (fit 0 j refl) here h.take_at.0 k h.take (subst (λ (x : HeldJob). slice_get x.takes h.take_at.0 ≡ Some h.take) (sym same) h.take_at.1) h.has
          on name k h (suc i, e) = never name k (record { job = h.job; take = h.take; job_at = (i, e); take_at = h.take_at; named = h.named; has = h.has })
      lift (Some x) h here = record { job = h.job; take = h.take; job_at = (suc h.job_at.0, h.job_at.1); take_at = h.take_at; named = h.named; has = h.has }

      go : (o : Option ℕ) → first_run p n j.takes ≡ o → HolderIs js p n (holder_among p n js) → HolderIs (j ∷ js) p n (option_or (with_name j.name o) (holder_among p n js))
      go None here rest = lift (holder_among p n js) rest here
      go (Some k) here rest = found (first_sound j.takes k (fit 0 j refl) here)
        where
          found : (t : Take) × ((i : ℕ) × (slice_get j.takes i ≡ Some t)) × Has p n k t → Holding (j ∷ js) p n j.name k
          found (t, at, has) = record { job = j; take = t; job_at = (0, refl); take_at = at; named = refl; has = has }

-- ---- what tasks and messages take is fit

-- the hold of a claim is proper where it is one
pub claims_fit : (cs : List Claim) → AllFit (map take_of cs)
claims_fit [] i x e h is = cc
claims_fit (c ∷ cs) zero x e h is = spanned_proper c.span.start c.span.period c.span.width h (ap (λ y. y.hold) (same_Some _ _ e) ∙ is)
claims_fit (c ∷ cs) (suc i) x e h is = claims_fit cs i x e h is

pub task_fit : (t : Task) → AllFit (held_task t).takes
task_fit t zero x e h is = spanned_proper t.phase t.period t.width h (ap (λ y. y.hold) (same_Some _ _ e) ∙ is)
task_fit t (suc i) x e h is = cc

pub message_fit : (g : Setting) (ts : List Task) (m : Message) → AllFit (held_message g ts m).takes
message_fit g ts m = claims_fit (claims g ts (job.Message m))

pub mapped_fit : {X : Type 0} (f : X → HeldJob) (xs : List X) → ((x : X) → AllFit (f x).takes) → (i : ℕ) (j : HeldJob) → slice_get (map f xs) i ≡ Some j → AllFit j.takes
mapped_fit f [] fit i j e = cc
mapped_fit f (x ∷ xs) fit zero j e = let same : f x ≡ j = cc in subst (λ (y : HeldJob). AllFit y.takes) same (fit x)
mapped_fit f (x ∷ xs) fit (suc i) j e = mapped_fit f xs fit i j e

pub tasks_fit : (ts : List Task) (i : ℕ) (j : HeldJob) → slice_get (map held_task ts) i ≡ Some j → AllFit j.takes
tasks_fit ts = mapped_fit held_task ts task_fit

pub messages_fit : (g : Setting) (ts : List Task) (ms : List Message) (i : ℕ) (j : HeldJob) → slice_get (map (held_message g ts) ms) i ≡ Some j → AllFit j.takes
messages_fit g ts ms = mapped_fit (held_message g ts) ms (message_fit g ts)
