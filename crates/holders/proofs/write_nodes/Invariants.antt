-- `write_nodes` meets its contract: so far the first entries are the starts.
use Prim.Native.Nat.{◌-◌, ◌≤◌}
use mathlib.Core.Path.{◌≡◌}
use lib.ListN.{length, take}
use Rattle.lists.specs.Lists.{over}
use Rattle.rules.specs.Holes.{ring_nodes}
use Rattle.holding.specs.Maps.{origins}
use Rattle.holders.proofs.write_nodes.Given as goal

abbrev pub invariant-loop-k : goal.invariant-loop-k
invariant-loop-k l = (l.k ≤ length l.half_edges) × (length l.nodes ≡ length l.initial.nodes) × (l.nodes ≡ over (take l.k (ring_nodes (origins l.dir_edges_src) l.half_edges)) l.initial.nodes)

abbrev pub decreases-loop-k : goal.decreases-loop-k
decreases-loop-k l = length l.half_edges - l.k
