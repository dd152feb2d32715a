-- What is asked of lists and tables is what the steps of the search ask.
use Prim.Native.Nat.{ℕ, zero, suc, ◌+◌, ◌*◌, ◌<◌, ◌≤◌}
use native.Mathlib.Omega.{arith}
use mathlib.Core.Path.{◌≡◌, refl, sym, ap, subst, ◌∙◌}
use mathlib.Core.List.{List, [], ◌∷◌, ◌++◌, map}
use lib.ListN.{length, get_or, take, drop, length-map, length-append}
use lib.Seq.{length-take-le}
use lib.IntN.{ℤ, pos, negsuc}
use lib.Ieee.{Float}
use lib.Dec.{eqb}
use lib.Signed.{lt_z}
use borrow.Author.Tests.{lt-ltb, le-ltb}
use Rattle.lists.specs.Lists.{below, over}
use Rattle.geometry.specs.Coordinate.{coordinate_bound, value}
use Rattle.rules.specs.Limits.{limits, shaped_rings}
use Rattle.rules.specs.Face.{Ring}
use Rattle.rules.specs.Ringing.{side_number_lem, exact_side}
use Rattle.rules.specs.Holes.{enclosed, is_open_lem, ring_nodes, ring_at}
use Rattle.inside.specs.Spots.{Spotted, NodesWithin}
use Rattle.inside.proofs.Tables.{written-within}
use Rattle.candidates.specs.Candidates.{numbers_of, RingListable, Listable, Candidates}
use Rattle.candidate_order.specs.Order.{Orderable}
use Rattle.holding.specs.Maps.{origins, Map, map_of, part_of, Laid, Holds}
use Rattle.views.specs.Views.{Slanted}
use Rattle.holder_search.specs.Search.{Field}
use Rattle.hole_listing.specs.Listing.{OpenListed}
use Rattle.holders.specs.Asked.{Asked, Ready, Boxable}
use Rattle.holder_search.proofs.HoldingLaws.{nodes-within}

-- ---- of a map in whole numbers

module _ (rs : List Ring) (bound : ℕ) (m : Map) (side : List ℕ) (area : List Float) (count : ℕ) (ready : Ready rs bound m side area count) where
  -- its enclosed rings can be listed, where there is room for as many as rings with an area
  pub ready_listable : (rings : List ℕ) (numbers : List ℤ) → shaped_rings limits ≤ length rings → numbers_of * shaped_rings limits ≤ length numbers
      → Listable rs m.nodes m.xs m.ys m.first m.size side area bound count rings numbers
  ready_listable rings numbers a b = record {
    counted = ready.counted;
    in_first = omega (arith, ready.counted, ready.map.in_first);
    in_size = omega (arith, ready.counted, ready.map.in_size);
    in_side = ready.in_side;
    in_area = ready.in_area;
    each = ready.each;
    low = λ i l.
        let d = ready.map.each i (omega (arith, l, ready.counted)) in
        subst (λ k. NodesWithin k bound) (sym d.nodes) (nodes-within (ring_at rs i).half_edges_lem m.source bound d.within);
    few_nodes = ready.few_nodes;
    in_rings = omega (arith, a, ready.few_enclosed);
    in_numbers = omega (arith, b, ready.few_enclosed);
  }

  -- their boxes can be made in any view
  pub ready_boxable : (rings : List ℕ) (numbers : List ℤ) → shaped_rings limits ≤ length rings → numbers_of * shaped_rings limits ≤ length numbers
      → Boxable rs bound m.nodes m.xs m.ys m.first m.size side area count rings numbers
  ready_boxable rings numbers a b = record { spotted = ready.map.spotted; listable = ready_listable rings numbers a b }

  module _ (slope : ℕ) (rings : List ℕ) (numbers : List ℤ) (n : ℕ) (along : List ℤ) (slanted : Slanted slope m.xs m.ys bound along)
      (listed : Candidates rs m.nodes along m.ys m.first m.size bound count rings numbers n) where
    -- with them the map can be searched
    pub ready_field : Field rs m bound slope rings numbers n
    ready_field = record {
      map = ready.map;
      known = omega (arith, ready.few_nodes);
      along = along;
      slanted = slanted;
      candidates = subst (λ k. Candidates rs m.nodes along m.ys m.first m.size bound k rings numbers n) ready.counted listed;
    }

    -- and they can be ordered
    pub ready_orderable : (order : List ℕ) → shaped_rings limits ≤ length order → Orderable numbers n order
    ready_orderable order room =
        let few : n ≤ shaped_rings limits = omega (arith, listed.many, ready.few_enclosed) in
        record { few = omega arith; in_numbers = listed.in_numbers; room = omega arith }

-- ---- boxes in another view

-- rings that can be listed by x can be listed by another table
pub along-listable : (rs : List Ring) (bound : ℕ) (nodes : List ℕ) (xs ys along : List ℤ) (first size side : List ℕ) (area : List Float) (count : ℕ) (rings : List ℕ) (numbers : List ℤ)
    → bound ≤ length along → Boxable rs bound nodes xs ys first size side area count rings numbers → Listable rs nodes along ys first size side area bound count rings numbers
along-listable rs bound nodes xs ys along first size side area count rings numbers long b =
    let l = b.listable in
    record {
      counted = l.counted;
      in_first = l.in_first;
      in_size = l.in_size;
      in_side = l.in_side;
      in_area = l.in_area;
      each = λ i low.
          let e = l.each i low in
          record { within = e.within; some = e.some; in_xs = λ k m. omega (arith, l.low i low k m, long); in_ys = e.in_ys; sided = e.sided; halved = e.halved };
      low = l.low;
      few_nodes = l.few_nodes;
      in_rings = l.in_rings;
      in_numbers = l.in_numbers;
    }

-- ---- of the lists that extraction wrote

-- the front of a mapped list before another
front-map : (f : ℕ → ℕ) (l rest : List ℕ) (size : ℕ) → size ≤ length l → take size (map f l ++ rest) ≡ map f (take size l)
front-map f l rest zero h = refl
front-map f [] rest (suc size) h = absurd (omega arith)
front-map f (x ∷ l) rest (suc size) h = ap (λ r. f x ∷ r) (front-map f l rest size (omega arith))

-- a part of it
part-map : (f : ℕ → ℕ) (l rest : List ℕ) (first size : ℕ) → first + size ≤ length l → take size (drop first (map f l ++ rest)) ≡ map f (take size (drop first l))
part-map f l rest zero size h = front-map f l rest size (omega arith)
part-map f [] rest (suc first) size h = absurd (omega arith)
part-map f (x ∷ l) rest (suc first) size h = part-map f l rest first size (omega arith)

-- a side tells the sign
side-enclosed : (z : ℤ) → eqb (side_number_lem (exact_side z)) 1 ≡ lt_z (pos 0) z
unfolding exact_side
side-enclosed (pos zero) = refl
side-enclosed (pos (suc n)) = sym (lt-ltb 0 (suc n) (omega arith))
side-enclosed (negsuc n) = refl

side_open : (z : ℤ) → eqb (side_number_lem (exact_side z)) 2 ≡ lt_z z (pos 0)
unfolding exact_side
side_open (pos zero) = refl
side_open (pos (suc n)) = sym (le-ltb (suc n) 0 (omega arith))
side_open (negsuc n) = refl

module _ (rs : List Ring) (n : ℕ) (X Y : List Float) (source half_edges_lem first size face side : List ℕ) (area : List Float) (count : ℕ)
    (asked : Asked rs n X Y source half_edges_lem first size face side area count) (old_x old_y : List ℤ) (old_nodes : List ℕ) where
  -- the tables of whole numbers, and the nodes where the half-edges start
  abbrev pub xs : List ℤ
  xs = over (take n (map value X)) old_x

  abbrev pub ys : List ℤ
  ys = over (take n (map value Y)) old_y

  abbrev pub nodes : List ℕ
  nodes = over (ring_nodes (origins source) half_edges_lem) old_nodes

  abbrev pub drawn : Map
  drawn = map_of source xs ys half_edges_lem nodes first size face

  -- a list with another in front is at least as long as either
  spotted : Spotted coordinate_bound n xs ys
  spotted = record {
    in_xs = over-long-front value X old_x n asked.placed.in_xs;
    in_ys = over-long-front value Y old_y n asked.placed.in_ys;
    near_xs = written-within X old_x n asked.placed.in_xs coordinate_bound asked.placed.whole_x;
    near_ys = written-within Y old_y n asked.placed.in_ys coordinate_bound asked.placed.whole_y;
  }
    where
      over-long-front : (f : Float → ℤ) (l : List Float) (old : List ℤ) (k : ℕ) → k ≤ length l → k ≤ length (over (take k (map f l)) old)
      over-long-front f l old k h =
          omega (arith, length-append (take k (map f l)) (drop (length (take k (map f l))) old), length-take-le k (map f l) (omega (arith, h, length-map l f)))

  -- all half-edges have a node
  nodes-long : length half_edges_lem ≤ length nodes
  nodes-long =
      let row = ring_nodes (origins source) half_edges_lem in
      omega (arith, length-append row (drop (length row) old_nodes), length-map half_edges_lem (λ (h : ℕ). get_or source h 0))

  -- ring i is laid out
  laid : (i : ℕ) → i < length rs → Laid rs drawn n i
  laid i low =
      let e = asked.shown.each i low in
      let c = asked.closed i low in
      record {
        in_halves = e.inside;
        in_nodes = omega (arith, e.inside, nodes-long);
        some = omega (arith, e.sized, c.some);
        halves = e.holds;
        nodes = part-map (λ h. get_or source h 0) half_edges_lem (drop (length (ring_nodes (origins source) half_edges_lem)) old_nodes) (get_or first i 0) (get_or size i 0) e.inside ∙ ap (ring_nodes (origins source)) e.holds;
        within = c.within;
        joined = c.joined;
        faced = e.faced;
      }

  -- the map holds the rings
  holds : Holds rs drawn n
  holds = record {
    few = omega (arith, asked.shown.few);
    in_first = asked.shown.in_first;
    in_size = asked.shown.in_size;
    in_face = asked.shown.in_face;
    spotted = spotted;
    each = laid;
    apart = asked.apart;
  }

  -- and each is listed with its side and area
  listable : (i : ℕ) → i < length rs → RingListable rs nodes xs ys first size side area i
  listable i low =
      let l = laid i low in
      let own : NodesWithin (part_of drawn i nodes) n = subst (λ k. NodesWithin k n) (sym l.nodes) (nodes-within (ring_at rs i).half_edges_lem source n l.within) in
      record {
        within = l.in_nodes;
        some = l.some;
        in_xs = λ k m. omega (arith, own k m, spotted.in_xs);
        in_ys = λ k m. omega (arith, own k m, spotted.in_ys);
        sided = ap (λ s. eqb s 1) (asked.sided i low) ∙ side-enclosed (ring_at rs i).doubled;
        halved = (asked.shown.each i low).halved;
      }

  -- the open ones too
  opens : OpenListed rs side area count
  opens = record {
    counted = asked.counted;
    in_side = omega (arith, asked.counted, asked.in_side);
    in_area = omega (arith, asked.counted, asked.shown.in_area);
    sided = λ i l. ap (λ s. eqb s 2) (asked.sided i (omega (arith, l, asked.counted))) ∙ side_open (ring_at rs i).doubled;
    halved = λ i l. (asked.shown.each i (omega (arith, l, asked.counted))).halved;
    few = subst (λ k. length (below (λ i. is_open_lem (ring_at rs i)) k) ≤ shaped_rings limits) (sym asked.counted) asked.few_open;
  }

  pub asked_ready : Ready rs n drawn side area count
  asked_ready = record {
    map = holds;
    few_nodes = asked.placed.few;
    counted = asked.counted;
    in_side = omega (arith, asked.counted, asked.in_side);
    in_area = omega (arith, asked.counted, asked.shown.in_area);
    each = λ i l. listable i (omega (arith, l, asked.counted));
    few_enclosed = subst (λ k. length (below (λ i. enclosed (ring_at rs i)) k) ≤ shaped_rings limits) (sym asked.counted) asked.few_enclosed;
    opens = opens;
  }
