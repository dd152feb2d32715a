-- `list_nodes` meets its contract: so far the first entries are the starts.
use Prim.Native.Nat.{◌-◌, ◌≤◌}
use mathlib.Core.Path.{◌≡◌}
use lib.ListN.{length, take}
use Rattle.lists.specs.Lists.{over}
use Rattle.file_rules.specs.Lines.{starting_nodes}
use Rattle.ring_records.proofs.list_nodes.Given as goal

abbrev pub invariant-loop-i : goal.invariant-loop-i
invariant-loop-i l = (l.i ≤ length l.half_edges) × (length l.nodes ≡ length l.initial.nodes) × (l.nodes ≡ over (take l.i (starting_nodes l.dir_edges_src l.half_edges)) l.initial.nodes)

abbrev pub decreases-loop-i : goal.decreases-loop-i
decreases-loop-i l = length l.half_edges - l.i
