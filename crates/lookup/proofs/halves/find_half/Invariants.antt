-- `lookup::halves::find_half` meets its contract: the walk along the chain of the two ends' code.
use Prim.Native.Nat.{ℕ}
use mathlib.Core.List.{List}
use lib.ListN.{get_or}
use Rattle.chains.proofs.Walking.{Walk}
use Rattle.lookup.specs.Codes.{pair_code_lem, half_code_lem}
use Rattle.lookup.proofs.Coding.{joins, pair_meant}
use Prim.Native.Nat.{◌*◌}
use Rattle.lookup.proofs.halves.find_half.Given as goal

-- what is known on the way
abbrev pub Along : List ℕ → List ℕ → List ℕ → ℕ → ℕ → ℕ → ℕ → ℕ → Type 0
Along source target star u v halves at found =
    Walk (λ i. joins source target star u v (get_or star i 0)) (λ i. get_or star i 0) (half_code_lem source target star) (pair_code_lem u v) (pair_meant source target star u v) halves halves at found

abbrev pub invariant-loop-at : goal.invariant-loop-at
invariant-loop-at l = Along l.dir_edges_src l.dir_edges_dst l.nodes_outgoing l.u.0 l.v.0 (2 * l.edges) l.at l.found

abbrev pub decreases-loop-at : goal.decreases-loop-at
decreases-loop-at l = l.at
