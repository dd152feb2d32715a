-- `lookup::nodes::find_node` meets its contract: the walk along the chain of the point's code.
use Prim.Native.Nat.{ℕ}
use mathlib.Core.List.{List}
use lib.Ieee.{Float}
use Rattle.chains.proofs.Walking.{Walk}
use Rattle.rotation.specs.Rotation.{Key}
use Rattle.lookup.specs.Codes.{key_code_lem, node_code_lem}
use Rattle.lookup.proofs.Coding.{has_key, key_meant}
use Rattle.lookup.proofs.nodes.find_node.Given as goal

-- what is known on the way
abbrev pub Along : List Float → List Float → ℕ → ℕ → ℕ → ℕ → ℕ → Type 0
Along xs ys bx by nodes at found =
    let k : Key = record { x = bx; y = by } in
    Walk (has_key xs ys k) (λ i. i) (node_code_lem xs ys) (key_code_lem k) (key_meant xs ys k) nodes nodes at found

abbrev pub invariant-loop-at : goal.invariant-loop-at
invariant-loop-at l = Along l.nodes_x l.nodes_y l.bits_x l.bits_y l.nodes l.at l.found

abbrev pub decreases-loop-at : goal.decreases-loop-at
decreases-loop-at l = l.at
