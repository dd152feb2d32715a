-- `adding::search::find_node` meets its contract. The invariant: the nodes passed do not have the key, so the search of what is left finds what the whole search finds.
use Prim.Native.Nat.{ℕ}
use mathlib.Core.Bool.{Bool}
use mathlib.Core.List.{List}
use lib.Ieee.{Float}
use Rattle.rotation.specs.Rotation.{key_same}
use Rattle.rules.specs.State.{key_in_lem}
use mathlib.Core.Path.{◌≡◌}
use Prim.Native.Nat.{◌-◌, ◌≤◌}
use lib.ListN.{drop}
use Rattle.lists.specs.Lists.{upto, first_where}
use Rattle.searching.proofs.find_node.Given as goal

-- the test of a node
abbrev pub test : List Float → List Float → ℕ → ℕ → ℕ → Bool
test xs ys bx by n = key_same (key_in_lem xs ys n) (record { x = bx; y = by })

abbrev pub invariant-loop-n : goal.invariant-loop-n
invariant-loop-n l =
    (l.n ≤ l.count) × (first_where (test l.nodes_x l.nodes_y l.bits_x l.bits_y) l.count (drop l.n (upto l.count)) ≡ first_where (test l.nodes_x l.nodes_y l.bits_x l.bits_y) l.count (upto l.count))

abbrev pub decreases-loop-n : goal.decreases-loop-n
decreases-loop-n l = l.count - l.n
