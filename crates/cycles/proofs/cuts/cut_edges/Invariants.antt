-- `cycles::cuts::cut_edges` meets its contract. The invariant: those of the first k edges that pass are marked, listed and counted.
use Prim.Native.Nat.{◌-◌, ◌≤◌}
use mathlib.Core.Path.{◌≡◌}
use lib.ListN.{length}
use Rattle.cycles.proofs.Cutting.{Passed}
use Rattle.cycles.proofs.cuts.cut_edges.Given as goal

abbrev pub invariant-loop-k : goal.invariant-loop-k
invariant-loop-k l = (l.k ≤ l.edges) × (l.count ≤ l.k) × (length l.dir_edges_marked ≡ length l.initial.dir_edges_marked) × (length l.out ≡ length l.initial.out)
    × Passed l.labels l.initial.dir_edges_marked l.initial.out l.dir_edges_marked l.out l.count l.k

abbrev pub decreases-loop-k : goal.decreases-loop-k
decreases-loop-k l = l.edges - l.k
