-- `lookup::halves::enter_halves` meets its contract: one entry of the star table after the other.
use Prim.Native.Nat.{◌-◌, ◌≤◌}
use mathlib.Core.Path.{◌≡◌}
use lib.ListN.{length}
use Rattle.chains.specs.Chains.{Chained}
use Rattle.lookup.specs.Codes.{half_heads, half_code_lem}
use Rattle.lookup.proofs.halves.enter_halves.Given as goal

abbrev pub invariant-loop-i : goal.invariant-loop-i
invariant-loop-i l = (l.from ≤ l.i) × (l.i ≤ l.to) × (length l.half_chains ≡ length l.initial.half_chains) × Chained half_heads (half_code_lem l.dir_edges_src l.dir_edges_dst l.nodes_outgoing) l.i l.half_chains

abbrev pub decreases-loop-i : goal.decreases-loop-i
decreases-loop-i l = l.to - l.i
