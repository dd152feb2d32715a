-- What adding a file leaves, by the outcome of the public entry that it calls.
use Rattle.std.specs.Prelude.{ℕ, List, [], ◌∷◌}
use Rattle.rules.specs.Limits.{limits}
use Rattle.rules.specs.Adding.{Nothing}
use Rattle.file_taking.specs.FileAdding.{Records, add_records_lem}
use Rattle.replies.specs.Left.{Lent, held_in, Left, asked}

-- how many records were taken, and the number of what ended it
abbrev pub file_values : Records → List ℕ
file_values a = a.taken ∷ a.number ∷ []

abbrev pub records_added : List ℕ → Lent Nothing → Left Nothing
records_added file k = asked file_values k (add_records_lem limits file (held_in k))
