-- The same of the call that adds a file's records to a graph (`add_records_lem`): it tests 6, 7 and 5 once, and a new graph passes them.
use Rattle.std.specs.Prelude.{ℕ, ◌≡◌, true, List}
use Rattle.rules.specs.Limits.{Limits}
use Rattle.rules.specs.State.{State, roomy}
use Rattle.taking.specs.Taking.{Taking, take_file_lem}
use Rattle.file_taking.specs.FileAdding.{records_taken, add_records_lem}
use Rattle.older_station.specs.Drawing.{SoundFile}
use Rattle.older_station.specs.Older.{Older}

-- both calls answer what their takings came to
pub record OlderCall (old new : Limits) (bytes : List ℕ) (s : State) (o n : Taking) : Type 0 where
  pub older : add_records_lem old bytes s ≡ records_taken o
  pub newer : add_records_lem new bytes s ≡ records_taken n
  pub law : Older old new bytes o n

-- for every file of sound segments and a new graph over tables that are long enough for both
unfoldable pub OlderEntry : Limits → Limits → Type 0
OlderEntry old new =
    (s : State) → s.nodes ≡ 0 → s.edges ≡ 0 → s.stage ≡ 0 → roomy new s ≡ true
    → (bytes : List ℕ) → SoundFile old.bound bytes → OlderCall old new bytes s (take_file_lem old bytes s) (take_file_lem new bytes s)
