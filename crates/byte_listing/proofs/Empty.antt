-- A new graph over slices of zeros is the empty graph of the definitions, and records can be added to it.
use mathlib.Core.Path.{◌≡◌, refl}
use mathlib.Core.Bool.{true, false}
use lib.ListN.{replicate}
use Rattle.rules.specs.Limits.{limits}
use Rattle.rules.specs.State.{State, roomy}
use Rattle.tables.specs.Regions.{state_in, least_floats, least_numbers, least_stars, least_marks, least_ids}
use Rattle.tables.specs.declared.PlanarGraph.{PlanarGraph}
use Rattle.adding.specs.Outcomes.{Ready}
use Rattle.taking.proofs.Left.{created_ready}
use Rattle.taken_text.specs.File.{zero, empty_graph_lem}

-- counts over slices of zeros
abbrev pub blank : PlanarGraph → State
blank g = state_in limits g (replicate (least_floats limits) zero) (replicate (least_numbers limits) 0) (replicate (least_stars limits) 0) (replicate (least_marks limits) false) (replicate (least_ids limits) 0)

pub blank_empty : blank (record { node_count = 0; edge_count = 0; stage = 0 }) ≡ empty_graph_lem limits
blank_empty = refl

empty-room : roomy limits (empty_graph_lem limits) ≡ true
unfolding roomy
empty-room = refl

pub empty_ready : Ready limits (empty_graph_lem limits)
empty_ready = created_ready (empty_graph_lem limits) empty-room
