-- `pieces::fill::reach_star` meets its contract. The invariant: reaching the ends that are left gives what reaching all gives.
use Prim.Native.Nat.{◌-◌, ◌≤◌}
use mathlib.Core.Path.{◌≡◌}
use lib.ListN.{length}
use Rattle.stars.specs.Groups.{part}
use Rattle.seeds.specs.Reach.{ends_of_lem}
use Rattle.seeds.proofs.Spreading.{Left}
use Rattle.pieces.proofs.fill.reach_star.Given as goal

abbrev pub invariant-loop-i : goal.invariant-loop-i
invariant-loop-i l = (l.from ≤ l.i) × (l.i ≤ l.to) × (length l.pieces ≡ length l.initial.pieces) × (length l.stack ≡ length l.initial.stack)
    × Left l.piece (ends_of_lem l.dir_edges_src l.dir_edges_marked (part l.from l.to l.grouped)) l.initial.pieces l.initial.stack l.top (ends_of_lem l.dir_edges_src l.dir_edges_marked (part l.i l.to l.grouped)) l.pieces l.stack l.height

abbrev pub decreases-loop-i : goal.decreases-loop-i
decreases-loop-i l = l.to - l.i
