-- Rule: what a buffer holds after bytes are written into it. Working: what a pen writes.
use Rattle.std.specs.Prelude.{◌≡◌, ℕ, ◌+◌, List, ◌++◌, length, take, drop}
use Rattle.refusals.specs.declared.pen.Pen.{Pen}

-- the buffer with the text from place i on, and all else as it was
abbrev pub written : List ℕ → ℕ → List ℕ → List ℕ
written buffer i text = take i buffer ++ (text ++ drop (i + length text) buffer)

-- a pen put a text: into the same buffer, which stays as long as it was, from where the pen stood, and it now stands where the text ends
pub record Puts (was is : Pen) (text : List ℕ) : Type 0 where
  pub same : is.out.ghost_name ≡ was.out.ghost_name
  pub room : length is.out.now ≡ length was.out.now
  pub end : is.at ≡ was.at + length text
  pub holds : is.out.now ≡ written was.out.now was.at text
