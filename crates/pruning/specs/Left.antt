-- What pruning leaves.
use Rattle.std.specs.Prelude.{ℕ, ◌≡◌, Bool, List, reverse, length}
use Rattle.rules.specs.Prune.{Pruning}
use Rattle.lists.specs.Lists.{over}
use Rattle.tables.specs.Tables.{at_stage_lem}
use Rattle.tables.specs.declared.PlanarGraph.{PlanarGraph}
use Rattle.pruning.specs.declared.PruneDone.{PruneDone}

-- what pruning leaves where the rule makes p of the tables: its tables, its edges in the order found over the list, their count, and stage 2
pub record Left (graph : PlanarGraph) (p : Pruning) (degrees : List ℕ) (node_marks half_marks : List Bool) (old out : List ℕ) (r : PruneDone) : Type 0 where
  pub degree : degrees ≡ p.degrees
  pub node_mark : node_marks ≡ p.node_marks
  pub half_mark : half_marks ≡ p.half_marks
  pub listed : out ≡ over (reverse p.found) old
  pub count : r.count ≡ length p.found
  pub advanced : r.graph ≡ at_stage_lem graph 2
