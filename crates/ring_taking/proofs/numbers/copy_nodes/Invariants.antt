-- `copy_nodes` meets its contract. The invariant: the first `i` numbers are written.
use Prim.Native.Nat.{◌-◌, ◌≤◌}
use mathlib.Core.Path.{◌≡◌}
use lib.ListN.{length}
use Rattle.lists.specs.Buffer.{written}
use Rattle.ring_taking.specs.Taken.{words_from}
use Rattle.ring_taking.proofs.numbers.copy_nodes.Given as goal

abbrev pub invariant-loop-i : goal.invariant-loop-i
invariant-loop-i l = (l.i ≤ l.count) × (length l.nodes ≡ length l.initial.nodes) × (l.nodes ≡ written l.place (words_from l.bytes l.at l.i) l.initial.nodes)

abbrev pub decreases-loop-i : goal.decreases-loop-i
decreases-loop-i l = l.count - l.i
