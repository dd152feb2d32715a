-- A text written into a buffer.
use Rattle.std.specs.Prelude.{ℕ, ◌+◌, ◌≡◌, List, ◌++◌, length, take, drop}

-- the buffer with a text from a place on, all else as it was
unfoldable pub written : ℕ → List ℕ → List ℕ → List ℕ
written at text out = take at out ++ text ++ drop (at + length text) out

-- what a function that writes a text leaves in the buffer, and the place that it answers: the one after the text
pub record Put (at : ℕ) (text old new : List ℕ) (place : ℕ) : Type 0 where
  pub buffer : new ≡ written at text old
  pub after : place ≡ at + length text
