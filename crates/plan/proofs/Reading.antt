-- The job part that a plan writes reads back as its jobs.
--   TaskSized, MessageSized    each field fits its bytes
--   part_back                  the job part reads as the tasks and the messages that it was written from
use Rattle.std.proofs.Common.{◌≡◌, ℕ, zero, suc, ◌+◌, ◌*◌, ◌/◌, ◌%◌, ◌<◌, ◌≤◌, true, ◌&&◌, ltb, List, [], ◌∷◌, ◌++◌, length, get_or, Some, None, Ok, Option, sym, refl, ap, ◌∙◌, arith}
use Rattle.std.specs.List.{flat_map}
use Rattle.std.proofs.lemmas.List.{append-nil}
use Rattle.std.proofs.lemmas.Bool.{and_from, cond-true, lt-ltb}
use Rattle.records.specs.Forms.{message_in, message_form, message_of, task_form, task_of}
use Rattle.records.specs.Sections.{cut_of, section_bytes, section_records}
use Rattle.records.specs.declared.record.Task.{Task}
use Rattle.records.specs.declared.record.Message.{Message}
use Rattle.records.proofs.Back.{cut_back, records_back}
use Rattle.jobs.specs.Jobs.{In, Jobs}
use Rattle.plan.specs.Loading.{both_read, job_part, messages_cut, tasks_cut}
use Rattle.plan.specs.Writing.{part_bytes}

-- each field of a task is below what its bytes can say
pub record TaskSized (t : Task) : Type 0 where
  pub name : t.name < 65536
  pub core : t.core < 256
  pub period : t.period < 4294967296
  pub phase : t.phase < 4294967296
  pub width : t.width < 4294967296

-- each field of a message is, and its kind is 0 or 1
pub record MessageSized (m : Message) : Type 0 where
  pub name : m.name < 65536
  pub source : m.source < 65536
  pub destination : m.destination < 65536
  pub kind : m.kind < 2
  pub delay : m.delay < 4294967296
  pub width : m.width < 4294967296

-- ---- numbers

-- the two bytes of a number below 65,536 say it, and so do four bytes below 2 to the 32
two_back : (n : ℕ) → n < 65536 → (0 + n / 256 % 256) * 256 + n % 256 ≡ n
two_back n h = omega arith

four_back : (n : ℕ) → n < 4294967296 → (((0 + n / 256 / 256 / 256 % 256) * 256 + n / 256 / 256 % 256) * 256 + n / 256 % 256) * 256 + n % 256 ≡ n
four_back n h = omega arith

-- ---- one record

-- records with equal fields are equal
same_task : (n c p f w : ℕ) (t : Task) → n ≡ t.name → c ≡ t.core → p ≡ t.period → f ≡ t.phase → w ≡ t.width
    → ◌≡◌ {A = Task} (record { name = n; core = c; period = p; phase = f; width = w }) t
same_task n c p f w t a b d e h = rw (a, b, d, e, h)

-- the bytes of a task read as the task
task_back : (t : Task) → TaskSized t → task_of (task_form t) ≡ Some t
task_back t h =
    ap Some
    (same_task _ _ _ _ _ t (two_back t.name h.name) refl
    (four_back t.period h.period) (four_back t.phase h.phase) (four_back t.width h.width))

same_message : (n s d k y w : ℕ) (m : Message) → n ≡ m.name → s ≡ m.source → d ≡ m.destination → k ≡ m.kind → y ≡ m.delay → w ≡ m.width
    → ◌≡◌ {A = Message} (record { name = n; source = s; destination = d; kind = k; delay = y; width = w }) m
same_message n s d k y w m a b c e f h = rw (a, b, c, e, f, h)

-- the bytes of a message read as the message
message_back : (m : Message) → MessageSized m → message_of (message_form m) ≡ Some m
message_back m h =
    cond-true (ltb m.kind 2 && true) (Some (message_in (message_form m))) None (and_from (ltb m.kind 2) true (lt-ltb m.kind 2 h.kind) refl)
    ∙ ap Some
    (same_message _ _ _ _ _ _ m (two_back m.name h.name) (two_back m.source h.source) (two_back m.destination h.destination) refl
    (four_back m.delay h.delay) (four_back m.width h.width))

-- ---- sections

-- the element at a place within is a member
place_in : {R : Type 0} (xs : List R) (i : ℕ) (d : R) → i < length xs → In (get_or xs i d) xs
place_in [] i d h = absurd (omega arith)
place_in (x ∷ xs) zero d h = (0, refl)
place_in (x ∷ xs) (suc i) d h = let k = place_in xs i d (omega arith) in (suc k.0, k.1)

module _ {R : Type 0} (form : R → List ℕ) (parsed : List ℕ → Option R) (long : (x : R) → length (form x) ≡ 16) (xs : List R) where
  -- a section is cut off the front of what follows it
  section_cut : (rest : List ℕ) → length xs ≤ 65535 → cut_of 16 (section_bytes form xs ++ rest) ≡ Ok (flat_map form xs, rest)
  section_cut rest few = cut_back form 16 long xs rest (omega arith) (omega arith)

  -- its records are those that were written
  section_back : ((x : R) → In x xs → parsed (form x) ≡ Some x) → section_records parsed 16 (flat_map form xs) ≡ Ok xs
  section_back back =
      records_back form 16 long parsed xs (omega arith) (λ i d h. back (get_or xs i d) (place_in xs i d h))

-- ---- the part

module _ (js : Jobs) (tasks_few : length js.tasks ≤ 65535) (messages_few : length js.messages ≤ 65535)
    (tasks_fit : (t : Task) → In t js.tasks → TaskSized t) (messages_fit : (m : Message) → In m js.messages → MessageSized m) where
  -- the tasks are cut off the front, the messages are what is left, and the records of each read back
  pub part_back : job_part (part_bytes js) ≡ Ok (js.tasks, js.messages)
  part_back =
      let ts = section_back task_form task_of (λ t. refl) js.tasks (λ t i. task_back t (tasks_fit t i)) in
      let ms = section_back message_form message_of (λ m. refl) js.messages (λ m i. message_back m (messages_fit m i)) in
      let cut_tasks = section_cut task_form task_of (λ t. refl) js.tasks (section_bytes message_form js.messages) tasks_few in
      let cut_messages : cut_of 16 (section_bytes message_form js.messages) ≡ Ok (flat_map message_form js.messages, []) =
      ap (cut_of 16) (sym (append-nil (section_bytes message_form js.messages))) ∙ section_cut message_form message_of (λ m. refl) js.messages [] messages_few in
      ap tasks_cut cut_tasks
      ∙ ap (messages_cut (flat_map task_form js.tasks)) cut_messages
      ∙ ap (λ r. both_read r (section_records message_of 16 (flat_map message_form js.messages))) ts
      ∙ ap (both_read (Ok js.tasks)) ms
