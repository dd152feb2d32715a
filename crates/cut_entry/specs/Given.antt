-- What cutting asks of the slices.
use Rattle.std.specs.Prelude.{ℕ, Bool, List, Float}
use Rattle.rules.specs.Cycles.{Arrangement}
use Rattle.rules.specs.Limits.{Limits}
use Rattle.rules.specs.Sane.{Sane}
use Rattle.rules.specs.State.{arrangement_in}
use Rattle.tables.specs.Regions.{xs_in, ys_in, sources_in, star_table_in, half_marks_in}
use Rattle.tables.specs.declared.PlanarGraph.{PlanarGraph}
use Rattle.stars.specs.Grouped.{Groupable}
use Rattle.seeds.specs.Seeds.{Placed}

-- the half-edges that the slices hold
abbrev pub arranged_in : Limits → PlanarGraph → List ℕ → List ℕ → List Bool → Arrangement
arranged_in l g numbers stars marks = arrangement_in g.node_count g.edge_count (sources_in l numbers) (half_marks_in l marks) (star_table_in l stars)

-- the stars can be grouped, the half-edges are a sane arrangement, and every node has its place
pub record SliceCuttable (l : Limits) (g : PlanarGraph) (floats : List Float) (numbers stars : List ℕ) (marks : List Bool) : Type 0 where
  pub groupable : Groupable l g.node_count g.edge_count (sources_in l numbers) (star_table_in l stars)
  pub sane : Sane (arranged_in l g numbers stars marks)
  pub placed : Placed g.node_count (xs_in l floats) (ys_in l floats)
