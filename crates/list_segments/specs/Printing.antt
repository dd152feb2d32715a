-- What is written for the input of the program.
use Rattle.std.specs.Prelude.{ℕ, ◌≤◌, ◌≡◌, List, length, Option, Some, None}
use Rattle.rules.specs.Limits.{limits}
use Rattle.lists.specs.Buffer.{Put}
use Rattle.taken_text.specs.File.{file_text}

-- the text ends within the buffer
abbrev pub Ends : Option ℕ → List ℕ → Type 0
Ends (Some size) new = size ≤ length new
Ends None new = Unit {0}

-- the text of a file, for the bytes that were read; nothing where a read failed
abbrev pub Prints : Option ℕ → List ℕ → List ℕ → Type 0
Prints (Some size) old new = (bytes : List ℕ) × Put 0 (file_text limits bytes) old new size
Prints None old new = new ≡ old
