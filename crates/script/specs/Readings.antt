-- Meaning. What a line of a script says.
--   Reading      nothing, no line of the language, a fabric, or a call by its arguments
--   reading         what a line that was read says
--   read_call    the lines that are words and numbers, by their first words
--   read_line    every line
--   asks         the calls among what lines say
use Rattle.std.specs.Prelude.{ℕ, cond, List, [], ◌∷◌, None, vec_items, codes, Option, ◌==◌}
use Rattle.std.specs.Option.{option_map, option_map_or}
use Rattle.replay.specs.Calls.{Ask, asked}
use Rattle.replay.specs.declared.calls.Call.TheVariants as call
use Rattle.script.specs.Fields.{after, number, unhexed}
use Rattle.script.specs.Forms as form
use Rattle.script.specs.declared.line.Line.{Line}
use Rattle.script.specs.declared.line.Line.TheVariants as line

pub data Reading : Type 0 where
  blank : Reading
  unread : Reading
  mesh_fabric : ℕ → ℕ → ℕ → Reading
  listed_fabric : List ℕ → Reading
  calling : Ask → Reading

abbrev pub reading : Line → Reading
reading line.Blank = blank
reading line.Unread = unread
reading (line.Mesh x y delay) = mesh_fabric x y delay
reading (line.Listed file) = listed_fabric (vec_items file)
reading (line.Load part) = calling (call.Load (vec_items part))
reading (line.Plain c) = calling (asked c)

-- a text that begins with these words says what its form makes of the rest, and any other text something else
abbrev pub after_words : {A : Type 0} → List ℕ → (List ℕ → A) → List ℕ → A → A
after_words words form text other = option_map_or form (after words text) other

abbrev pub name : List ℕ → Option ℕ
name = number (form.most 16)

abbrev pub core_holder : ℕ × ℕ → Ask
core_holder p = call.CoreHolder p.0 p.1

abbrev pub link_holder : ℕ × ℕ → Ask
link_holder p = call.LinkHolder p.0 p.1

-- the lines that are words and numbers
abbrev pub read_call : List ℕ → Option Ask
read_call text =
    after_words (codes "offer task ") (λ rest. option_map call.OfferTask (form.task rest)) text
    (after_words (codes "offer message ") (λ rest. option_map call.OfferMessage (form.message rest)) text
    (after_words (codes "place task ") (λ rest. option_map call.PlaceTask (form.open_task rest)) text
    (after_words (codes "place message ") (λ rest. option_map call.PlaceMessage (form.open_message rest)) text
    (after_words (codes "drop task ") (λ rest. option_map call.DropTask (name rest)) text
    (after_words (codes "drop message ") (λ rest. option_map call.DropMessage (name rest)) text
    (after_words (codes "slack ") (λ rest. option_map call.Slack (name rest)) text
    (after_words (codes "holder core ") (λ rest. option_map core_holder (form.holder rest)) text
    (after_words (codes "holder link ") (λ rest. option_map link_holder (form.holder rest)) text
    (after_words (codes "write ") (λ rest. option_map call.Write (number (form.most 64) rest)) text
    None)))))))))

-- what is there, or that the line is unread
abbrev pub or_unread : {A : Type 0} → (A → Reading) → Option A → Reading
or_unread say o = option_map_or say o unread

abbrev pub read_mesh : List ℕ → Reading
read_mesh text = or_unread (λ m. mesh_fabric m.0 m.1 m.2) (form.mesh text)

-- any line that is not blank
abbrev pub read_text : List ℕ → Reading
read_text text =
    after_words (codes "fabric mesh ") read_mesh text
    (after_words (codes "fabric listed ") (λ rest. or_unread listed_fabric (unhexed rest)) text
    (after_words (codes "load ") (λ rest. or_unread (λ part. calling (call.Load part)) (unhexed rest)) text
    (or_unread calling (read_call text))))

-- a line that is empty or begins with `#` says nothing
abbrev pub read_line : List ℕ → Reading
read_line [] = blank
read_line (b ∷ bs) = cond (b == 35) blank (read_text (b ∷ bs))

-- the calls among what lines say, in their order
abbrev pub asks : List Reading → List Ask
asks [] = []
asks (calling a ∷ rest) = a ∷ asks rest
asks (blank ∷ rest) = asks rest
asks (unread ∷ rest) = asks rest
asks (mesh_fabric x y delay ∷ rest) = asks rest
asks (listed_fabric file ∷ rest) = asks rest
