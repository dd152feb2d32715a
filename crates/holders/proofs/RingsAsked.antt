-- Ring extraction of a sound state leaves lists that finding the holes asks for, and the holes found from its tables are the state's.
use Prim.Native.Nat.{ℕ, ◌*◌, ◌<◌, ◌≤◌}
use native.Mathlib.Omega.{arith}
use mathlib.Core.Path.{◌≡◌, refl, sym, ap, subst, ◌∙◌}
use mathlib.Core.Bool.{true}
use mathlib.Core.List.{List, [], ◌∷◌, map}
use lib.ListN.{length, get_or, take}
use lib.Dec.{T}
use Rattle.lists.specs.Lists.{In, flatten}
use Rattle.lists.proofs.Members.{in_at}
use Rattle.rules.specs.HalfEdge.{twin}
use Rattle.rules.specs.Cycles.{Arrangement}
use Rattle.rules.specs.Split.{minimal_rings}
use Rattle.rules.specs.Limits.{limits}
use Rattle.rules.specs.Sane.{Sane}
use Rattle.rules.specs.State.{State, arrangement, point_in, sound}
use Rattle.rules.specs.Ringing.{RingLists, side_number_lem, exact_side, float_area, rings_of}
use Rattle.rules.specs.Claim.{Joined}
use Rattle.rules.specs.Holes.{ring_at, holes_of}
use Rattle.rules.specs.Extraction.{holes_in}
use Rattle.rules.proofs.Twin.{twin-below}
use Rattle.rules.proofs.Soundness.{Sound, is-sound}
use Rattle.rules.proofs.Tables.{source-below, sound-sane, sound-rings}
use Rattle.rules.proofs.Replies.{from_replies, rings_of-halves}
use Rattle.rules.proofs.Claims.{number-exact, each_at, rings-low}
use Rattle.rules.proofs.Additions.{coordinates_both}
use Rattle.rules.proofs.ShapedRings.{shaped_enclosed, shaped_open}
use Rattle.extracting.specs.Extraction.{Extraction}
use Rattle.extracting.specs.declared.Extracted.{Extracted}
use Rattle.extracting.proofs.Starts.{rings-inside, ring-some}
use Rattle.extracting.proofs.Numbering.{halves_are, over_self, rings-few, flat-few}
use Rattle.extracting.proofs.Outcome.{rings-many}
use Rattle.extracting.proofs.FacesApart.{ring-halves, faces-apart}
use Rattle.lists.proofs.Entries.{front_cut}
use Rattle.ring_lists.specs.Shown.{Shown}
use Rattle.ring_lists.proofs.Written.{listed_at, listed-long, written-shown}
use Rattle.inside.specs.Spots.{LineWithin}
use Rattle.holding.specs.Maps.{origins, Starting}
use Rattle.holders.specs.Asked.{Placed, Closed, Asked}

-- ---- the origins alone

-- whether half-edges join goes by where they start
joined_same : (g k : Arrangement) → ((h : ℕ) → g.origin h ≡ k.origin h) → (f : ℕ) (ring : List ℕ) → Joined g f ring → Joined k f ring
joined_same g k same f [] j = tt
joined_same g k same f (h ∷ []) j = sym (same (twin h)) ∙ j ∙ same f
joined_same g k same f (h ∷ i ∷ hs) j = (sym (same (twin h)) ∙ j.0 ∙ same i, joined_same g k same f (i ∷ hs) j.1)

-- where a half-edge of a state starts
starts_are : (s : State) (h : ℕ) → (arrangement s).origin h ≡ get_or s.source h 0
unfolding arrangement
starts_are s h = refl

-- the holes found from the tables are the state's
pub holes_are : (s : State) → holes_of (point_in s.node_x s.node_y) (origins s.source) (rings_of s) ≡ holes_in s
unfolding holes_in
holes_are s = refl

-- ---- a sound state whose tables are long enough

module _ (s : State) (in_x : limits.nodes ≤ length s.node_x) (in_y : limits.nodes ≤ length s.node_y) (long_source : 2 * limits.edges ≤ length s.source) (sense : sound limits s ≡ true) where
  -- its rings
  abbrev rings : List (List ℕ)
  rings = minimal_rings (arrangement s)

  -- what the tests say
  ok : Sound limits s
  ok = is-sound limits s sense

  -- its arrangement is sane
  sane : Sane (arrangement s)
  sane = sound-sane limits s ok

  -- its nodes lie at coordinates
  nodes-placed : Placed s.nodes s.node_x s.node_y
  nodes-placed = record {
    few = ok.nodes;
    in_xs = omega (arith, ok.nodes, in_x);
    in_ys = omega (arith, ok.nodes, in_y);
    whole_x = λ n l. subst T (sym (coordinates_both limits s n (ok.coordinates n l)).0) tt;
    whole_y = λ n l. subst T (sym (coordinates_both limits s n (ok.coordinates n l)).1) tt;
  }

  -- its half-edges stand in the table of sources
  in_source : (h : ℕ) → h < 2 * s.edges → h < length s.source
  in_source h l = omega (arith, ok.edges, long_source)

  -- with their twins, and start at nodes
  line_of : (h : ℕ) → h < 2 * s.edges → LineWithin h s.source s.nodes
  line_of h l =
      let t = twin-below s.edges h l in
      record { half = in_source h l; other = in_source (twin h) t; start = source-below limits s ok h l; finish = source-below limits s ok (twin h) t }

  -- the rings of the rules close
  rules_closed : (i : ℕ) → i < length rings → Closed s.nodes s.source (get_or rings i [])
  rules_closed i l =
      let ring = get_or rings i [] in
      let low = each_at _ rings i l (rings-low (arrangement s) sane) in
      record {
        some = ring-some (arrangement s) sane i l;
        within = λ k q. line_of (get_or ring k 0) (omega (arith, halves_are s, low (get_or ring k 0) (in_at ring k q)));
        joined = joined_same (arrangement s) (origins s.source) (starts_are s) (get_or ring 0 0) ring (each_at _ rings i l (sound-rings limits s sense).joined);
      }

  -- so its rings do
  ring-closed : (i : ℕ) → i < length (rings_of s) → Closed s.nodes s.source (ring_at (rings_of s) i).half_edges_lem
  ring-closed i l = subst (Closed s.nodes s.source) (sym (ring-halves s i)) (rules_closed i (omega (arith, rings-many s)))

  -- ---- its half-edges in a row

  -- ring by ring
  abbrev row : List ℕ
  row = flatten (map (λ r. r.half_edges_lem) (rings_of s))

  -- as the rules have them
  row_is : row ≡ flatten rings
  row_is = ap flatten (rings_of-halves s)

  -- there are at most two for each edge
  row-short : length row ≤ 2 * limits.edges
  row-short = omega (arith, ap length row_is, flat-few limits s sense, ok.edges)

  -- each stands in the table of sources, and starts at a node
  row-starts : Starting row s.source s.nodes
  row-starts k l =
      let h = get_or row k 0 in
      let low : h < 2 * s.edges = omega (arith, halves_are s, rings-inside (arrangement s) sane h (subst (In h) row_is (in_at row k l))) in
      (in_source h low, source-below limits s ok h low)

  -- ---- what ring extraction leaves

  module _ (out out' : RingLists) (r : Extracted) (e : Extraction s out out' r) where
    -- the front of the list of half-edges
    abbrev front : List ℕ
    front = take (length row) out'.half_edges_lem

    -- is the row
    front-is : front ≡ row
    front-is = ap (take (length row)) e.half_edges_lem ∙ front_cut row out.half_edges_lem (length row) refl

    -- the lists, cut to it, hold the rings
    front-shown : Shown (rings_of s) front out'.first out'.length out'.face out'.area
    front-shown =
        let cut : RingLists = record { half_edges_lem = front; first = out'.first; length = out'.length; face = out'.face; side = out'.side; area = out'.area } in
        let before : RingLists = record { half_edges_lem = row; first = out.first; length = out.length; face = out.face; side = out.side; area = out.area } in
        let halves = front-is ∙ sym (over_self row) in
        let read = from_replies s (rings_of s) cut row out.first out.length halves e.first e.size ∙ rings_of-halves s in
        written-shown s sense cut before halves e.first e.size e.face e.area read row-short (omega (arith, rings-many s, rings-few s, ok.edges))

    -- the side of ring i
    side-is : (i : ℕ) → i < length (rings_of s) → get_or out'.side i 0 ≡ side_number_lem (exact_side (ring_at (rings_of s) i).doubled)
    side-is i l =
        let q = ring_at (rings_of s) i in
        listed_at s (λ w. side_number_lem w.side) out'.side out.side 0 e.side i l ∙ number-exact q.doubled (float_area s q.half_edges_lem)

    -- what finding the holes asks
    pub asked_of : Asked (rings_of s) s.nodes s.node_x s.node_y s.source front out'.first out'.length out'.face out'.side out'.area r.count
    asked_of = record {
      placed = nodes-placed;
      shown = front-shown;
      counted = e.count;
      short = subst (λ l. length l ≤ 2 * limits.edges) (sym front-is) row-short;
      starts = subst (λ l. Starting l s.source s.nodes) (sym front-is) row-starts;
      closed = ring-closed;
      in_side = listed-long s (λ w. side_number_lem w.side) out'.side out.side e.side;
      sided = side-is;
      apart = faces-apart limits s sense;
      few_enclosed = shaped_enclosed limits s sense;
      few_open = shaped_open limits s sense;
    }
