-- `pruning::prune_core` meets its contract. The loop's invariant: the tables are on the way to what the rule makes of them. The measure is what is left to do.
use mathlib.Core.Path.{◌≡◌}
use lib.ListN.{length}
use Rattle.rules.specs.Limits.{limits}
use Rattle.rules.proofs.PruneEnds.{remaining}
use Rattle.leaves.specs.Steps.{tables_at}
use Rattle.pruning.proofs.Runs.{Running}
use Rattle.pruning.proofs.prune_core.Given as goal

abbrev pub invariant-loop-at : goal.invariant-loop-at
invariant-loop-at l = Running limits l.graph.node_count l.graph.edge_count l.offsets l.grouped l.dir_edges_src l.initial.nodes_degree l.initial.nodes_marked l.initial.dir_edges_marked l.initial.out l.nodes_degree l.nodes_marked l.dir_edges_marked l.stack l.out l.at
    × (length l.stack ≡ limits.nodes)
    × (length l.nodes_degree ≡ length l.initial.nodes_degree)
    × (length l.nodes_marked ≡ length l.initial.nodes_marked)
    × (length l.dir_edges_marked ≡ length l.initial.dir_edges_marked)

abbrev pub decreases-loop-at : goal.decreases-loop-at
decreases-loop-at l = remaining l.graph.edge_count (tables_at l.nodes_degree l.nodes_marked l.dir_edges_marked l.stack l.out l.at)
