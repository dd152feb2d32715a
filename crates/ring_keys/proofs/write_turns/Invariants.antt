-- `ring_keys::write_turns` meets its contract. The invariant: the first i turns are written, the others as they were, and their comparisons
-- are counted.
-- Assumes nothing.
use Prim.Native.Nat.{◌-◌, ◌*◌, ◌≤◌}
use mathlib.Core.Path.{◌≡◌}
use mathlib.Core.List.{◌++◌, map}
use lib.ListN.{length, take, drop}
use Rattle.lists.specs.Lists.{upto, sum}
use Rattle.rotation.specs.Rotation.{keys_of}
use Rattle.ring_keys.specs.Keys.{turn_of, steps_of}
use Rattle.ring_keys.proofs.write_turns.Given as goal

abbrev pub invariant-loop-i : goal.invariant-loop-i
invariant-loop-i l = (l.turns ≡ take l.i (map (turn_of (keys_of l.xs l.ys) l.firsts l.lengths) (upto l.count)) ++ drop l.i l.initial.turns)
    × (length l.turns ≡ length l.initial.turns)
    × (l.i ≤ l.count)
    × (l.made ≡ sum (map (steps_of (keys_of l.xs l.ys) l.firsts l.lengths) (upto l.i)))
    -- no ring takes more than three for each of its half-edges
    × (l.made ≤ l.i * (3 * 65536))

abbrev pub decreases-loop-i : goal.decreases-loop-i
decreases-loop-i l = l.count - l.i
