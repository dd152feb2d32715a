-- The counts with the new nodes of an addition and its edge.
use Prim.Native.Nat.{ℕ, suc, ◌+◌}
use native.Mathlib.Numerals.{add-one}
use native.Mathlib.Omega.{arith}
use mathlib.Core.Path.{◌≡◌, refl}
use mathlib.Core.Bool.{Bool, true, false, cond}
use mathlib.Core.List.{List}
use Rattle.geometry.specs.declared.Coord3D.{Coord3D}
use Rattle.rules.specs.Adding.{with_node}
use Rattle.rules.specs.State.{State}
use Rattle.tables.specs.declared.PlanarGraph.{PlanarGraph}
use Rattle.adding.specs.Written.{entered, grown_by, Makeable}
use Rattle.adding.specs.declared.Ends.{Ends}
use Rattle.table_entries.specs.Written.{node_counted, edge_counted}

-- a node leaves the number of edges
pub node-edges : (b : Bool) (n : ℕ) (g : PlanarGraph) → (node_counted b n g).edge_count ≡ g.edge_count
node-edges true n g = refl
node-edges false n g = refl

-- a node that is made is entered in the degrees
pub node-degrees : (b : Bool) (n : ℕ) (p : Coord3D) (s : State) → (with_node b n p s).degree ≡ entered b s.degree n 0
node-degrees true n p s = refl
node-degrees false n p s = refl

-- the code's counts are those of one node after the other, then of the edge
module _ (g : PlanarGraph) where
  counted : (a b : Bool) (u v : ℕ) → (a ≡ true → u ≡ g.node_count) → (b ≡ true → v ≡ g.node_count + cond a 1 0)
      → ◌≡◌ {A = PlanarGraph} (record { node_count = g.node_count + (cond a 1 0 + cond b 1 0); edge_count = g.edge_count + 1; stage = g.stage })
      (edge_counted (node_counted b v (node_counted a u g)))
  counted true true u v ha hb =
      let n : g.node_count + 2 ≡ suc v = omega (arith, hb refl) in
      λ i. record { node_count = n i; edge_count = add-one g.edge_count i; stage = g.stage }
  counted true false u v ha hb =
      let n : g.node_count + 1 ≡ suc u = omega (arith, ha refl) in
      λ i. record { node_count = n i; edge_count = add-one g.edge_count i; stage = g.stage }
  counted false true u v ha hb =
      let n : g.node_count + 1 ≡ suc v = omega (arith, hb refl) in
      λ i. record { node_count = n i; edge_count = add-one g.edge_count i; stage = g.stage }
  counted false false u v ha hb =
      let n : g.node_count + 0 ≡ g.node_count = omega arith in
      λ i. record { node_count = n i; edge_count = add-one g.edge_count i; stage = g.stage }

  pub grown_is : (e : Ends) (degrees : List ℕ) → Makeable g.node_count g.edge_count e degrees
      → grown_by g e ≡ edge_counted (node_counted e.new_end e.end.0 (node_counted e.new_start e.start.0 g))
  grown_is e degrees m = counted e.new_start e.new_end e.start.0 e.end.0 m.new_start_lem m.new_end_lem
