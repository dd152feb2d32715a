-- What the whole of cutting asks and leaves.
use Rattle.std.specs.Prelude.{ℕ, ◌*◌, ◌≤◌, ◌≡◌, Bool, List, length, take}
use Rattle.lists.specs.Lists.{over}
use Rattle.rules.specs.Cycles.{Arrangement}
use Rattle.rules.specs.Split.{cuts}
use Rattle.rules.specs.Euler.{census}
use Rattle.rules.specs.Sane.{Sane}
use Rattle.rules.specs.State.{arrangement_in}
use Rattle.rules.specs.Stages.{mark_edges}
use Rattle.rules.specs.Limits.{Limits}
use Rattle.stars.specs.Grouped.{Grouped}
use Rattle.tables.specs.Tables.{at_stage_lem}
use Rattle.tables.specs.declared.PlanarGraph.{PlanarGraph}
use Rattle.cycles.specs.declared.CutDone.{CutDone}
use Rattle.cycles.specs.Census.{census_of}

-- the groups are the stars of a sane arrangement within the limits, and the tables are long enough
pub record Arranged (l : Limits) (nodes edges : ℕ) (source : List ℕ) (marks : List Bool) (offsets grouped : List ℕ) : Type 0 where
  pub star : List ℕ
  pub groups : Grouped nodes source (take (2 * edges) star) offsets grouped
  pub sane : Sane (arrangement_in nodes edges source marks star)
  pub few_nodes : nodes ≤ l.nodes
  pub few_edges : edges ≤ l.edges
  pub in_source : 2 * edges ≤ length source
  pub in_marks : 2 * edges ≤ length marks

-- the cut edges of an arrangement are counted, marked and listed, its census is taken, and the stage is 3
pub record CutOf (g : Arrangement) (graph : PlanarGraph) (marks : List Bool) (out : List ℕ) (marks' : List Bool) (out' : List ℕ) (r : CutDone) : Type 0 where
  pub advanced : r.graph ≡ at_stage_lem graph 3
  pub count : r.count ≡ length (cuts g)
  pub counted : census_of r.census ≡ census g
  pub marked : marks' ≡ mark_edges (cuts g) marks
  pub listed : out' ≡ over (cuts g) out
