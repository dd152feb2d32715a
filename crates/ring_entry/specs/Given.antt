-- What ring extraction asks of the slices.
use Rattle.std.specs.Prelude.{ℕ, ◌≡◌, Bool, true, List, Float}
use Rattle.rules.specs.Limits.{Limits}
use Rattle.rules.specs.State.{roomy, sound}
use Rattle.tables.specs.Regions.{state_in}
use Rattle.tables.specs.declared.PlanarGraph.{PlanarGraph}

-- with line ids, which are not read, they hold a state that passes numbers 6 and 7
pub record SliceSound (l : Limits) (g : PlanarGraph) (floats : List Float) (numbers stars : List ℕ) (marks : List Bool) : Type 0 where
  pub ids : List ℕ
  pub roomed : roomy l (state_in l g floats numbers stars marks ids) ≡ true
  pub sense : sound l (state_in l g floats numbers stars marks ids) ≡ true
