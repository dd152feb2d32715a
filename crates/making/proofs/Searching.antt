-- The searches of an addition, in the slices of a graph that can be added to.
use Prim.Native.Nat.{ℕ}
use mathlib.Core.Bool.{Bool}
use mathlib.Core.List.{List}
use lib.Ieee.{Float}
use Rattle.rules.specs.Limits.{limits}
use Rattle.tables.specs.Regions.{state_in}
use Rattle.tables.specs.declared.PlanarGraph.{PlanarGraph}
use Rattle.tables.proofs.SliceRoom.{room_of}
use Rattle.adding.specs.Outcomes.{Ready}
use Rattle.adding.proofs.Carrying.{searchable}
use Rattle.making.specs.Matching.{SearchableIn}

-- they can be made
pub searchable_in_lem : (g : PlanarGraph) (floats : List Float) (numbers stars : List ℕ) (marks : List Bool) (ids : List ℕ)
    → Ready limits (state_in limits g floats numbers stars marks ids) → SearchableIn limits g floats numbers stars
searchable_in_lem g floats numbers stars marks ids ready =
    let r = room_of limits g floats numbers stars marks ids ready.room in
    record {
      float_room = r.float_room;
      number_room = r.number_room;
      star_room = r.star_room;
      tables = searchable (state_in limits g floats numbers stars marks ids) ready;
    }
