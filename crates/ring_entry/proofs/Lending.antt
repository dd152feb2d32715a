-- The state that a call's slices hold, for the steps that are lent its tables as parts.
use Prim.Native.Nat.{ℕ}
use mathlib.Core.Bool.{Bool}
use mathlib.Core.List.{List}
use lib.Ieee.{Float}
use Rattle.rules.specs.Limits.{limits}
use Rattle.rules.specs.State.{State}
use Rattle.tables.specs.Tables.{state_of}
use Rattle.tables.specs.Regions.{xs_in, ys_in, zs_in, segments_in, sources_in, targets_in, star_table_in, degrees_in, node_marks_in, line_ids_in, tracings_in}
use Rattle.tables.specs.declared.PlanarGraph.{PlanarGraph}

-- with these line ids and marks of half-edges
abbrev pub parts_held : PlanarGraph → List Float → List ℕ → List ℕ → List Bool → List ℕ → List Bool → State
parts_held graph floats numbers stars marks ids halves =
    state_of graph (xs_in limits floats) (ys_in limits floats) (zs_in limits floats) (degrees_in limits stars) (node_marks_in limits marks)
    (segments_in limits floats) (line_ids_in limits ids) (sources_in limits numbers) (targets_in limits numbers) halves (star_table_in limits stars) (tracings_in limits numbers ids)
