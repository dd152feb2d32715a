-- `pieces::number::fill_seeds` meets its contract. The invariant: the pieces whose seeds are among the first i have their numbers (`SoFar`).
use Prim.Native.Nat.{◌-◌, ◌≤◌}
use mathlib.Core.Path.{◌≡◌}
use lib.ListN.{length, take}
use Rattle.pieces.proofs.Numbering.{SoFar}
use Rattle.pieces.proofs.number.fill_seeds.Given as goal

abbrev pub invariant-loop-i : goal.invariant-loop-i
invariant-loop-i l = (l.i ≤ l.seeds) × (l.count ≤ l.i) × (length l.pieces ≡ length l.initial.pieces) × (length l.stack ≡ length l.initial.stack)
    × SoFar l.dir_edges_src l.dir_edges_marked l.offsets l.grouped (take l.seeds l.order) l.initial.pieces l.pieces l.count l.i

abbrev pub decreases-loop-i : goal.decreases-loop-i
decreases-loop-i l = l.seeds - l.i
