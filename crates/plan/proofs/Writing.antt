-- The two sections of a job part, written one after the other.
use Rattle.std.proofs.Common.{◌≡◌, ℕ, ◌+◌, ◌-◌, ◌*◌, ◌≤◌, Bool, true, false, ltb, if◌then◌else◌, Some, None, Ok, Err, Option, Result, List, [], ◌++◌, length, take, drop, sym, refl, ap, ◌∙◌, subst, zero-add, arith, length-append}
use Rattle.std.proofs.lemmas.List.{append-nil, append_assoc, drop-drop, drop_all, drop_at, length-drop, length-take, take_all, take_at}
use Rattle.std.proofs.lemmas.Bool.{le-ltb}
use Rattle.std.proofs.lemmas.Bool.Decides.{nat_tests}
use Rattle.records.specs.Forms.{message_form, task_form}
use Rattle.records.specs.Sections.{section_bytes, section_fits}
use Rattle.records.specs.declared.record.Task.{Task}
use Rattle.records.specs.declared.record.Message.{Message}
use Rattle.records.proofs.Back.{length_joined}
use Rattle.refusals.specs.Lines.{too_short}
use Rattle.refusals.specs.Written.{written}
use Rattle.refusals.specs.declared.refusal.BufferFault.{BufferFault}
use Rattle.jobs.specs.Jobs.{Jobs}
use Rattle.records.specs.declared.tables.Table.{Table}
use Rattle.promise.specs.Tabled.{tabled}
use Rattle.plan.specs.Held.{jobs}
use Rattle.fabric.specs.declared.Fabric.{Ghosts}
use Rattle.plan.specs.declared.plan.Plan.{Plan}
use Rattle.plan.specs.Round.{PartWritten}
use Rattle.plan.specs.Writing.{part_bytes, too_long, write_left, write_length}

-- no table holds more than it has places for
pub few_tasks : {F : Type 0} {B : Ghosts F} (p : Plan F B) (most : ℕ) → 64 ≤ most → length (jobs p).tasks ≤ most
few_tasks p most h = let fit = p.tasks.fit in omega (arith, length-take p.tasks.count p.tasks.places, fit, h)

pub few_messages : {F : Type 0} {B : Ghosts F} (p : Plan F B) → length (jobs p).messages ≤ 128
few_messages p = let fit = p.messages.fit in omega (arith, length-take p.messages.count p.messages.places, fit)

-- two bytes and 16 for each record
pub section_length : {R : Type 0} (form : R → List ℕ) → ((x : R) → length (form x) ≡ 16) → (xs : List R) → length (section_bytes form xs) ≡ 2 + length xs * 16
section_length form long xs = omega (arith, length_joined form 16 long xs)

-- a section of at most 128 records that has the room is written whole
module _ {R : Type 0} (form : R → List ℕ) (long : (x : R) → length (form x) ≡ 16) (ts xs : List R) (out : List ℕ) (same : ts ≡ xs)
    (few : length xs ≤ 128) (room : 2 + length xs * 16 ≤ length out) where
  fits : section_fits form ts (length out) ≡ true
  fits = rw same (grind (arith, nat_tests, few, room, section_length form long xs))

  pub whole_bytes : {new : List ℕ} → new ≡ (if section_fits form ts (length out) then section_bytes form ts ++ drop (length (section_bytes form ts)) out else out)
      → new ≡ section_bytes form xs ++ drop (length (section_bytes form xs)) out
  whole_bytes e = e ∙ ap (λ b. if b then section_bytes form ts ++ drop (length (section_bytes form ts)) out else out) fits ∙ ap (λ l. section_bytes form l ++ drop (length (section_bytes form l)) out) same

  pub whole_length : {r : Option ℕ} → r ≡ (if section_fits form ts (length out) then Some (length (section_bytes form ts)) else None) → r ≡ Some (length (section_bytes form xs))
  whole_length e = e ∙ ap (λ b. if b then Some (length (section_bytes form ts)) else None) fits ∙ ap (λ l. Some (length (section_bytes form l))) same

module _ (js : Jobs) where
  abbrev tasks : List ℕ
  tasks = section_bytes task_form js.tasks

  abbrev messages : List ℕ
  messages = section_bytes message_form js.messages

  -- so many bytes has the job part
  pub part_length : length (part_bytes js) ≡ 4 + length js.tasks * 16 + length js.messages * 16
  part_length =
      let whole : length (part_bytes js) ≡ length tasks + length messages = length-append tasks messages in
      omega (arith, whole, section_length task_form (λ t. refl) js.tasks, section_length message_form (λ m. refl) js.messages)

  -- at most 64 tasks and 128 messages have no more
  part_small : length js.tasks ≤ 64 → length js.messages ≤ 128 → length (part_bytes js) ≤ 3076
  part_small few few_messages = omega (arith, part_length, few, few_messages)

  -- it is longer than the room exactly where the code's sum is
  pub length_tested : (room : ℕ) → too_long js room ≡ ltb room (4 + length js.tasks * 16 + length js.messages * 16)
  length_tested room = ap (ltb room) part_length

  module _ (out x y : List ℕ) (front : x ≡ tasks ++ drop (length tasks) out)
      (back : y ≡ messages ++ drop (length messages) (take (length x - length tasks) (drop (length tasks) x))) where
    -- the messages are written behind the tasks: what stands before them is the tasks' section, and behind the part of the buffer
    -- that they were written into there is nothing
    pub both_written : take (length tasks) x ++ (y ++ drop (length x - length tasks) (drop (length tasks) x)) ≡ written out 0 (part_bytes js)
    both_written =
        let a = length tasks in
        let b = length messages in
        let first : take a x ≡ tasks = ap (take a) front ∙ take_at tasks (drop a out) a refl in
        let rest : drop a x ≡ drop a out = ap (drop a) front ∙ drop_at tasks (drop a out) a refl in
        let none : drop (length x - a) (drop a x) ≡ [] = drop_all (length x - a) (drop a x) (omega (arith, length-drop a x)) in
        let all : take (length x - a) (drop a x) ≡ drop a x = take_all (length x - a) (drop a x) (omega (arith, length-drop a x)) in
        let behind : drop b (take (length x - a) (drop a x)) ≡ drop (a + b) out = ap (drop b) (all ∙ rest) ∙ drop-drop b a out in
        let second : y ≡ messages ++ drop (a + b) out = back ∙ ap (λ l. messages ++ l) behind in
        let whole : a + b ≡ 0 + length (part_bytes js) = omega (arith, length-append tasks messages) in
        ap (λ l. l ++ (y ++ drop (length x - a) (drop a x))) first
        ∙ ap (λ l. tasks ++ (y ++ l)) none
        ∙ ap (λ l. tasks ++ l) (append-nil y ∙ second)
        ∙ sym (append_assoc tasks messages (drop (a + b) out))
        ∙ ap (λ n. part_bytes js ++ drop n out) whole

-- the two writes of the code, the tasks into the buffer and the messages into the part of it behind them
module _ (js : Jobs) (few : length js.tasks ≤ 128) (few_messages : length js.messages ≤ 128) (ts : List Task) (ms : List Message) (same : ts ≡ js.tasks) (same_messages : ms ≡ js.messages)
    (out x : List ℕ) (middle : ℕ) (r : Option ℕ) (room : 4 + length ts * 16 + length ms * 16 ≤ length out)
    (answer : r ≡ (if section_fits task_form ts (length out) then Some (length (section_bytes task_form ts)) else None)) (is : r ≡ Some middle)
    (bytes : x ≡ (if section_fits task_form ts (length out) then section_bytes task_form ts ++ drop (length (section_bytes task_form ts)) out else out)) where
  enough : 4 + length js.tasks * 16 + length js.messages * 16 ≤ length out
  enough = omega (arith, room, ap length same, ap length same_messages)

  abbrev behind : List ℕ
  behind = take (length x - middle) (drop middle x)

  at : middle ≡ length (tasks js)
  at = let told = whole_length task_form (λ t. refl) ts js.tasks out same few (omega (arith, enough)) answer in cc

  front : x ≡ tasks js ++ drop (length (tasks js)) out
  front = whole_bytes task_form (λ t. refl) ts js.tasks out same few (omega (arith, enough)) bytes

  x_length : length x ≡ length out
  x_length =
      let all = ap length front in
      let sum = length-append (tasks js) (drop (length (tasks js)) out) in
      let rest = length-drop (length (tasks js)) out in
      let long = section_length task_form (λ t. refl) js.tasks in
      omega (arith, all, sum, rest, long, enough)

  left : 2 + length js.messages * 16 ≤ length behind
  left =
      let rest = length-drop middle x in
      let all = ap length (take_all (length x - middle) (drop middle x) (omega (arith, rest))) in
      let long = section_length task_form (λ t. refl) js.tasks in
      omega (arith, all, rest, long, at, x_length, enough)

  -- the messages have the room too
  pub messages_told : {a : Option ℕ} → a ≡ (if section_fits message_form ms (length behind) then Some (length (section_bytes message_form ms)) else None) → a ≡ Some (length (messages js))
  messages_told = whole_length message_form (λ m. refl) ms js.messages behind same_messages few_messages left

  -- and the two lengths are that of the job part
  pub whole_told : {a : Option ℕ} (n : ℕ) → a ≡ (if section_fits message_form ms (length behind) then Some (length (section_bytes message_form ms)) else None) → a ≡ Some n
      → Ok (middle + n) ≡ write_length js (length out)
  whole_told n told is =
      let both = messages_told told in
      let same : n ≡ length (messages js) = cc in
      let sum : middle + n ≡ length (part_bytes js) = omega (arith, at, same, length-append (tasks js) (messages js)) in
      let fits : too_long js (length out) ≡ false = length_tested js (length out) ∙ le-ltb (length out) _ enough in
      ap Ok sum ∙ sym (ap (λ b. if b then Err too_short else Ok (length (part_bytes js))) fits)

  -- and then the buffer begins with the job part
  pub messages_written : {y : List ℕ} → y ≡ (if section_fits message_form ms (length behind) then section_bytes message_form ms ++ drop (length (section_bytes message_form ms)) behind else behind)
      → take middle x ++ (y ++ drop (length x - middle) (drop middle x)) ≡ (if too_long js (length out) then out else written out 0 (part_bytes js))
  messages_written {y} e =
      let back = whole_bytes message_form (λ m. refl) ms js.messages behind same_messages few_messages left e in
      let fits : too_long js (length out) ≡ false = length_tested js (length out) ∙ le-ltb (length out) _ enough in
      rw (fits, at) (both_written js out x y front (subst (λ n. y ≡ messages js ++ drop (length (messages js)) (take (length x - n) (drop n x))) at back))

-- no job part of what two tables hold is longer than that of full ones
pub part_bound : (ts : Table Task 64) (ms : Table Message 128) → length (part_bytes (tabled ts ms)) ≤ 3076
part_bound ts ms =
    part_small (tabled ts ms)
    (omega (arith, length-take ts.count ts.places, ts.fit))
    (omega (arith, length-take ms.count ms.places, ms.fit))

-- what is told of a write, in the words of bytes
pub part_written : (js : Jobs) (out after : List ℕ) (r : Result ℕ BufferFault) → r ≡ write_length js (length out) → after ≡ write_left js out → PartWritten js out r after
part_written js out after r answer is =
    subst (λ o. PartWritten js out o after) (sym answer)
    (subst (PartWritten js out (write_length js (length out))) (sym is) (go (too_long js (length out)) refl))
  where
    go : (b : Bool) → b ≡ too_long js (length out)
        → PartWritten js out (if b then Err too_short else Ok (length (part_bytes js))) (if b then out else written out 0 (part_bytes js))
    go true e = (grind (arith, nat_tests, e), refl)
    go false e = (refl, grind (arith, nat_tests, e), ap (λ n. part_bytes js ++ drop n out) (zero-add (length (part_bytes js))))
