-- `adding::search::find_half` meets its contract. The invariant: the entries passed do not go from u to v, so the search of what is left finds what the whole search finds.
use Prim.Native.Nat.{ℕ}
use mathlib.Core.Bool.{Bool, ◌&&◌}
use mathlib.Core.List.{List}
use lib.Dec.{eqb}
use lib.ListN.{get_or}
use mathlib.Core.Path.{◌≡◌}
use Prim.Native.Nat.{◌-◌, ◌≤◌}
use lib.ListN.{take, drop}
use Rattle.lists.specs.Lists.{first_where}
use Rattle.searching.proofs.find_half.Given as goal

-- the test of a half-edge
abbrev pub test : List ℕ → List ℕ → ℕ → ℕ → ℕ → Bool
test source target u v h = eqb (get_or source h 0) u && eqb (get_or target h 0) v

abbrev pub invariant-loop-i : goal.invariant-loop-i
invariant-loop-i l =
    (l.i ≤ l.count)
    × (first_where (test l.dir_edges_src l.dir_edges_dst l.u.0 l.v.0) l.count (drop l.i (take l.count l.nodes_outgoing)) ≡ first_where (test l.dir_edges_src l.dir_edges_dst l.u.0 l.v.0) l.count (take l.count l.nodes_outgoing))

abbrev pub decreases-loop-i : goal.decreases-loop-i
decreases-loop-i l = l.count - l.i
