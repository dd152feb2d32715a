-- A ring of the map with its sides, as the search for its holder asks it.
use Prim.Native.Nat.{ℕ, ◌<◌}
use native.Mathlib.Omega.{arith}
use mathlib.Core.Path.{◌≡◌, sym, subst, ◌∙◌}
use mathlib.Core.List.{List}
use lib.ListN.{length, get_or}
use lib.IntN.{ℤ, pos}
use Rattle.lists.specs.Lists.{In}
use Rattle.rules.specs.Face.{Ring}
use Rattle.rules.specs.Holes.{ring_at}
use Rattle.corners.specs.Boxes.{Outermost}
use Rattle.corners.specs.declared.boxes.Sides.{Sides}
use Rattle.candidates.specs.Candidates.{Standing}
use Rattle.holding.specs.Maps.{Map, part_of}
use Rattle.views.specs.Views.{along_of_lem}
use Rattle.holder_search.specs.Search.{Field, Opening}
use Rattle.holder_search.proofs.HoldingLaws.{nodes-within}
use Rattle.inside.specs.Spots.{NodesWithin}

module _ (rs : List Ring) (m : Map) (bound slope : ℕ) (rings : List ℕ) (numbers : List ℤ) (count : ℕ) (field : Field rs m bound slope rings numbers count) (i : ℕ) (low : i < length rs) where
  -- its nodes are nodes of the map
  pub part-within : NodesWithin (part_of m i m.nodes) bound
  part-within =
      let l = field.map.each i low in
      subst (λ n. NodesWithin n bound) (sym l.nodes) (nodes-within (ring_at rs i).half_edges_lem m.source bound l.within)

  -- it stands in the lists
  pub ring_standing : Standing m.nodes m.xs m.ys m.first m.size i
  ring_standing =
      let l = field.map.each i low in
      let h = field.map in
      record {
        part = record { in_first = omega (arith, low, h.in_first); in_size = omega (arith, low, h.in_size); within = l.in_nodes };
        some = l.some;
        in_xs = λ n k. omega (arith, part-within n k, h.spotted.in_xs);
        in_ys = λ n k. omega (arith, part-within n k, h.spotted.in_ys);
      }

  module _ (s : Sides) (box : Outermost m.xs m.ys (part_of m i m.nodes) s) where
    -- its leftmost node is one
    pub left-low : s.left < bound
    left-low = part-within s.left box.left

    -- with its nodes and the place of the leftmost one
    pub opening_of : (inner : List ℕ) (x y : ℤ) → inner ≡ part_of m i m.nodes → x ≡ along_of_lem slope (get_or m.xs s.left (pos 0)) (get_or m.ys s.left (pos 0))
        → y ≡ get_or m.ys s.left (pos 0) → Opening (ring_at rs i) m bound slope inner s.left x y
    opening_of inner x y e ex ey = record {
      nodes = e ∙ (field.map.each i low).nodes;
      within = subst (λ n. NodesWithin n bound) (sym e) part-within;
      leftmost = record { one = subst (λ n. In s.left n) (sym e) box.left; first = λ n k. (box.bounds n (subst (λ l. In n l) e k)).left };
      is_x = ex;
      is_y = ey;
    }
