-- Jobs that are offered in turn: what one more offer does, and where the sections of a part have the next one.
use Rattle.std.proofs.Common.{◌≡◌, ℕ, zero, suc, ◌+◌, ◌-◌, ◌/◌, ◌<◌, ◌≤◌, ltb, List, [], ◌∷◌, ◌++◌, length, map, get_or, drop, Some, None, Ok, Err, Option, Result, sym, refl, ap, ◌∙◌, subst, arith, length-append}
use Rattle.std.specs.Option.{option_map}
use Rattle.std.proofs.lemmas.Bool.{cond_both, ltb-false, ltb-true}
use Rattle.std.proofs.lemmas.List.{drop_more, drop_all, length-map}
use Rattle.records.specs.Forms.{message_of, task_of}
use Rattle.records.specs.Sections.{record_at, section_records}
use Rattle.records.specs.declared.record.Task.{Task}
use Rattle.records.specs.declared.record.Message.{Message}
use Rattle.records.proofs.Sections.{section_each, section_length}
use Rattle.jobs.specs.Jobs.{Jobs, Setting}
use Rattle.jobs.specs.Offered.{joined, offer, refused}
use Rattle.jobs.specs.Rules.{offered}
use Rattle.jobs.specs.declared.job.Job.{Job}
use Rattle.jobs.specs.declared.job.Job.TheVariants as job
use Rattle.jobs.specs.declared.job.JobFault.{JobFault}
use Rattle.plan.specs.Loading.{file_order, in_turn, job_at, on_taken}

taken_none : (o : Option JobFault) (b a : Jobs) (u : Unit {0}) → Ok u ≡ (offered o b a).0 → (o ≡ None) × ((offered o b a).1 ≡ a)
taken_none None b a u e = (refl, refl)
taken_none (Some x) b a u e = absurd cc

refused_some : (o : Option JobFault) (b a : Jobs) (x : JobFault) → Err x ≡ (offered o b a).0 → (o ≡ Some x) × ((offered o b a).1 ≡ b)
refused_some None b a x e = absurd cc
refused_some (Some y) b a x e = let s : y ≡ x = cc in (ap Some s, refl)

module _ (g : Setting) (xs : List Job) (i : ℕ) (x : Job) (js after : Jobs) (all : Result (Unit {0}) (ℕ × JobFault) × Jobs)
    (lt : i < length xs) (is : x ≡ get_or xs i x) (moved : after ≡ (offer g js x).1) (inv : in_turn g js i (drop i xs) ≡ all) where
  here : drop i xs ≡ x ∷ drop (i + 1) xs
  here = drop_more xs i x lt ∙ ap (λ y. y ∷ drop (i + 1) xs) (sym is)

  -- the offer at a place of the list is taken: the others go on from what is held then
  pub turn_on : (u : Unit {0}) → Ok u ≡ (offer g js x).0 → in_turn g after (i + 1) (drop (i + 1) xs) ≡ all
  turn_on u ok =
      let t = taken_none (refused g js x) js (joined js x) u ok in
      ap (λ j. in_turn g j (i + 1) (drop (i + 1) xs)) (moved ∙ t.1)
      ∙ sym (ap (in_turn g js i) here ∙ ap (λ o. on_taken i o js (in_turn g (joined js x) (i + 1) (drop (i + 1) xs))) t.0)
      ∙ inv

  -- it is refused: that is the answer, and what was held stays
  pub turn_stop : (e : JobFault) → Err e ≡ (offer g js x).0 → (Err (i, e), after) ≡ all
  turn_stop e err =
      let t = refused_some (refused g js x) js (joined js x) e err in
      ap (λ j. (Err (i, e), j)) (moved ∙ t.1)
      ∙ sym (ap (in_turn g js i) here ∙ ap (λ o. on_taken i o js (in_turn g (joined js x) (i + 1) (drop (i + 1) xs))) t.0)
      ∙ inv

-- all were taken
pub turn_end : (g : Setting) (xs : List Job) (i : ℕ) (js : Jobs) (all : Result (Unit {0}) (ℕ × JobFault) × Jobs) → length xs ≤ i
    → in_turn g js i (drop i xs) ≡ all → (Ok tt, js) ≡ all
turn_end g xs i js all le inv = sym (ap (in_turn g js i) (drop_all i xs le)) ∙ inv

-- ---- the records of a section, by their places

module _ {X : Type 0} (parsed : List ℕ → Option X) (size : ℕ) (bytes : List ℕ) (xs : List X) (read : section_records parsed size bytes ≡ Ok xs) (i : ℕ) (lt : i < length bytes / size) where
  within : i < length xs
  within = omega (arith, section_length parsed size bytes xs read)

  -- each place has one, which stands there in the list
  on_record : (x : X) × (record_at parsed size bytes i ≡ Some x) × ((d : X) → x ≡ get_or xs i d)
  on_record = go xs refl
    where
      go : (ys : List X) → xs ≡ ys → (x : X) × (record_at parsed size bytes i ≡ Some x) × ((d : X) → x ≡ get_or xs i d)
      go [] e = absurd (omega (arith, ap length e, within))
      go (y ∷ ys) e =
          let at = section_each parsed size bytes xs read i y within in
          (get_or xs i y, at, λ d. let two : Some (get_or xs i y) ≡ Some (get_or xs i d) = sym at ∙ section_each parsed size bytes xs read i d within in cc)

-- ---- the records of a part

get_front : {X : Type 0} (xs ys : List X) (i : ℕ) (d : X) → i < length xs → get_or (xs ++ ys) i d ≡ get_or xs i d
get_front [] ys i d h = absurd (omega arith)
get_front (x ∷ xs) ys zero d h = refl
get_front (x ∷ xs) ys (suc i) d h = get_front xs ys i d (omega arith)

get_behind : {X : Type 0} (xs ys : List X) (i j : ℕ) (d : X) → i ≡ length xs + j → get_or (xs ++ ys) i d ≡ get_or ys j d
get_behind [] ys i j d e = let same : i ≡ j = omega arith in ap (λ (k : ℕ). get_or ys k d) same
get_behind (x ∷ xs) ys zero j d e = absurd (omega arith)
get_behind (x ∷ xs) ys (suc i) j d e = get_behind xs ys i j d (omega arith)

get_map : {X Y : Type 0} (f : X → Y) (xs : List X) (i : ℕ) (d : X) (e : Y) → i < length xs → get_or (map f xs) i e ≡ f (get_or xs i d)
get_map f [] i d e h = absurd (omega arith)
get_map f (x ∷ xs) zero d e h = refl
get_map f (x ∷ xs) (suc i) d e h = get_map f xs i d e (omega arith)

module _ (tasks messages : List ℕ) (ts : List Task) (ms : List Message)
    (read : section_records task_of 16 tasks ≡ Ok ts) (read_messages : section_records message_of 16 messages ≡ Ok ms) where
  -- so many records there are
  pub part_count : length (file_order (ts, ms)) ≡ length tasks / 16 + length messages / 16
  part_count =
      omega (
        arith,
        length-append (map job.Task ts) (map job.Message ms),
        length-map ts job.Task,
        length-map ms job.Message,
        section_length task_of 16 tasks ts read,
        section_length message_of 16 messages ms read_messages,
      )

  module _ (i : ℕ) (lt : i < length tasks / 16 + length messages / 16) where
    -- the job at a place is the record there
    pub on_job : (x : Job) × (job_at tasks messages i ≡ Some x) × (x ≡ get_or (file_order (ts, ms)) i x)
    on_job =
        cond_both (ltb i (length tasks / 16)) _ _ (λ o. (x : Job) × (o ≡ Some x) × (x ≡ get_or (file_order (ts, ms)) i x))
        (λ below.
        let front : i < length tasks / 16 = ltb-true i (length tasks / 16) below in
        let r = on_record task_of 16 tasks ts read i front in
        let few : i < length ts = omega (arith, section_length task_of 16 tasks ts read) in
        let few_jobs : i < length (map job.Task ts) = omega (arith, length-map ts job.Task) in (
          job.Task r.0,
          ap (option_map job.Task) r.1,
          ap job.Task (r.2 r.0) ∙ sym (get_front (map job.Task ts) (map job.Message ms) i (job.Task r.0) few_jobs ∙ get_map job.Task ts i r.0 (job.Task r.0) few),
        ))
        (λ above.
        let behind : length tasks / 16 ≤ i = ltb-false i (length tasks / 16) above in
        let r = on_record message_of 16 messages ms read_messages (i - length tasks / 16) (omega arith) in
        let few : i - length tasks / 16 < length ms = omega (arith, section_length message_of 16 messages ms read_messages) in
        let at : i ≡ length (map job.Task ts) + (i - length tasks / 16) = omega (arith, length-map ts job.Task, section_length task_of 16 tasks ts read) in (
          job.Message r.0,
          ap (option_map job.Message) r.1,
          ap job.Message (r.2 r.0)
              ∙ sym (get_behind (map job.Task ts) (map job.Message ms) i (i - length tasks / 16) (job.Message r.0) at
              ∙ get_map job.Message ms (i - length tasks / 16) r.0 (job.Message r.0) few),
        ))

    -- which is what is read there
    pub job_read : (x : Job) → Some x ≡ job_at tasks messages i → (i < length (file_order (ts, ms))) × (x ≡ get_or (file_order (ts, ms)) i x)
    job_read x is =
        let j = on_job in
        let same : j.0 ≡ x = let two : Some x ≡ Some j.0 = is ∙ j.1 in cc in
        (omega (arith, part_count), subst (λ y. y ≡ get_or (file_order (ts, ms)) i y) same j.2)

    -- and each place has one
    pub no_job : None ≡ job_at tasks messages i → ⊥
    no_job is = let j = on_job in let two : None ≡ Some j.0 = is ∙ j.1 in cc
