-- `lookup::nodes::enter_nodes` meets its contract: one node after the other.
use Prim.Native.Nat.{◌-◌, ◌≤◌}
use mathlib.Core.Path.{◌≡◌}
use lib.ListN.{length}
use Rattle.chains.specs.Chains.{Chained}
use Rattle.lookup.specs.Codes.{node_heads, node_code_lem}
use Rattle.lookup.proofs.nodes.enter_nodes.Given as goal

abbrev pub invariant-loop-n : goal.invariant-loop-n
invariant-loop-n l = (l.from ≤ l.n) × (l.n ≤ l.to) × (length l.node_chains ≡ length l.initial.node_chains) × Chained node_heads (node_code_lem l.nodes_x l.nodes_y) l.n l.node_chains

abbrev pub decreases-loop-n : goal.decreases-loop-n
decreases-loop-n l = l.to - l.n
