-- What pruning asks of the slices, and what the rule makes of them.
use Rattle.std.specs.Prelude.{ℕ, ◌*◌, Bool, List, take}
use Rattle.rules.specs.Limits.{Limits}
use Rattle.rules.specs.State.{star_in}
use Rattle.rules.specs.Prune.{Pruning, prune}
use Rattle.rules.specs.Counted.{Stars, Counted}
use Rattle.tables.specs.Regions.{sources_in, star_table_in, degrees_in, node_marks_in, half_marks_in}
use Rattle.tables.specs.declared.PlanarGraph.{PlanarGraph}
use Rattle.stars.specs.Grouped.{Groupable}
use Rattle.leaves.specs.Given.{origin_in}

-- the star of a node
abbrev pub stars_in : Limits → PlanarGraph → List ℕ → List ℕ → ℕ → List ℕ
stars_in l g numbers stars n = star_in (sources_in l numbers) (take (2 * g.edge_count) (star_table_in l stars)) n

-- the stars can be grouped, they list every half-edge where it starts, and the tables count right
pub record SlicePrunable (l : Limits) (g : PlanarGraph) (numbers stars : List ℕ) (marks : List Bool) : Type 0 where
  pub groupable : Groupable l g.node_count g.edge_count (sources_in l numbers) (star_table_in l stars)
  pub starred : Stars g.node_count g.edge_count (stars_in l g numbers stars) (origin_in (sources_in l numbers))
  pub counted : Counted g.node_count g.edge_count (stars_in l g numbers stars) (degrees_in l stars) (node_marks_in l marks) (half_marks_in l marks)

-- the tables after pruning
abbrev pub pruned_in : Limits → PlanarGraph → List ℕ → List ℕ → List Bool → Pruning
pruned_in l g numbers stars marks =
    prune (stars_in l g numbers stars) (origin_in (sources_in l numbers)) g.node_count g.edge_count (degrees_in l stars) (node_marks_in l marks) (half_marks_in l marks)
