-- The rings of a table of successors, and the lists that a walk writes.
use Rattle.std.specs.Prelude.{ℕ, ◌+◌, ◌*◌, ◌<◌, ◌≤◌, ◌≡◌, Bool, true, false, List, [], ◌∷◌, map, length, get_or, take, drop, set, replicate, negsuc, Float}
use Rattle.std.proofs.lemmas.List.Edits.{sets}
use Rattle.std.specs.Float.{fin, binary64}
use Rattle.std.specs.Float.Ieee.{mul}
use Rattle.lists.specs.Lists.{flatten, over}
use Rattle.rules.specs.Cycles.{cycle, cycles}
use Rattle.rules.specs.Sane.{Live, Permutes}
use Rattle.rules.specs.Limits.{Limits}
use Rattle.rules.specs.Ringing.{side_number_lem, side_area_lem}
use Rattle.stars.specs.Groups.{unmarked}
use Rattle.splitting.specs.Splits.{entry_of}
use Rattle.ring_tally.specs.Keys.{keys_y, keys_put}
use Rattle.ring_tally.specs.Tallies.{tally_of, Sited, Takable}
use Rattle.ring_tally.specs.Sides.{side_of, sign_side, number_in, shown_in}
use Rattle.ring_tally.specs.declared.tally.Tally.{Tally}

-- every ring once, by its lowest half-edge and beginning with it
abbrev pub table_rings : ℕ → List ℕ → List Bool → List (List ℕ)
table_rings edges next marks = cycles (entry_of next) (2 * edges) (unmarked marks)

-- the place of each ring's first half-edge where the rings stand one after another
abbrev pub first_places : ℕ → List (List ℕ) → List ℕ
first_places at [] = []
first_places at (r ∷ rs) = at ∷ first_places (at + length r) rs

-- how many half-edges a ring has
abbrev pub size_of : List ℕ → ℕ
size_of r = length r

-- ring i of the lists
abbrev pub ring_at : List ℕ → List ℕ → List ℕ → ℕ → List ℕ
ring_at half_edges_lem first size i = take (get_or size i 0) (drop (get_or first i 0) half_edges_lem)

-- the four lists with an entry for each ring
pub record RingRows : Type 0 where
  pub first : List ℕ
  pub size : List ℕ
  pub side : List ℕ
  pub area : List Float

-- the lists of the code
abbrev pub rows_of : List ℕ → List ℕ → List ℕ → List Float → RingRows
rows_of first size side area = record { first = first; size = size; side = side; area = area }

-- the row of a ring put at place i: where the ring begins, and by its tally its length, side and area
abbrev pub row_put : ℕ → ℕ → Tally → RingRows → RingRows
row_put i at t rows =
    let side = side_of (sign_side (mul binary64 t.sum (fin false 1 (negsuc 0)))) in
    record {
      first = set rows.first i at;
      size = set rows.size i t.count;
      side = set rows.side i (side_number_lem side);
      area = set rows.area i (side_area_lem side);
    }

-- what a walk from `start` asks: the table permutes the active half-edges below some count, `start` is one of them, there is room for its ring and its keys, and half-edges start at nodes
pub record Walkable (next source : List ℕ) (xs ys : List Float) (seen : List Bool) (half_edges_lem keys : List ℕ) (start at : ℕ) : Type 0 where
  pub count : ℕ
  pub active : ℕ → Bool
  pub permutes : Permutes (entry_of next) count active
  pub live : Live count active start
  pub in_next : count ≤ length next
  pub in_seen : count ≤ length seen
  pub room : at + length (cycle (entry_of next) count start) ≤ length half_edges_lem
  pub key_room : keys_y + (at + length (cycle (entry_of next) count start)) ≤ length keys
  pub small : at + length (cycle (entry_of next) count start) ≤ 65535
  pub takable : (h : ℕ) → h < count → Takable source xs ys h

-- a test that was put at each of the listed places
abbrev pub stamped_at : List ℕ → Bool → List Bool → List Bool
stamped_at [] a seen = seen
stamped_at (h ∷ hs) a seen = stamped_at hs a (set seen h a)

-- what it leaves: the ring and its keys stand from `at` on, its half-edges are seen, and the answer is its tally
pub record WalkedRing (f : ℕ → ℕ) (n start at : ℕ) (source : List ℕ) (xs ys : List Float) (seen₀ : List Bool) (half_edges₀ keys₀ : List ℕ) (seen : List Bool) (half_edges_lem keys : List ℕ) (tally : Tally) : Type 0 where
  pub marks : seen ≡ stamped_at (cycle f n start) true seen₀
  pub lists : half_edges_lem ≡ sets half_edges₀ at (cycle f n start)
  pub keyed : keys ≡ keys_put keys_y source xs ys keys₀ at (cycle f n start)
  pub tallied : tally ≡ tally_of source xs ys (cycle f n start)

-- nothing is seen at first, of at least n
abbrev pub Unseen : ℕ → List Bool → Type 0
Unseen n seen = (n ≤ length seen) × (seen ≡ replicate (length seen) false)

-- the lists have at least n entries
pub record RowsRoom (n : ℕ) (rows : RingRows) : Type 0 where
  pub in_first : n ≤ length rows.first
  pub in_size : n ≤ length rows.size
  pub in_side : n ≤ length rows.side
  pub in_area : n ≤ length rows.area

-- what listing the rings asks: the table permutes the active half-edges, these start at nodes, tables and lists are long enough, and the rows
-- have an entry for each ring
pub record Listable (l : Limits) (edges : ℕ) (next source : List ℕ) (marks : List Bool) (xs ys : List Float) (half_edges_lem keys : List ℕ) (rows : RingRows) : Type 0 where
  pub permutes : Permutes (entry_of next) (2 * edges) (unmarked marks)
  pub few : edges ≤ l.edges
  pub sited : Sited edges source xs ys
  pub in_next : 2 * edges ≤ length next
  pub in_marks : 2 * edges ≤ length marks
  pub in_half_edges : 2 * edges ≤ length half_edges_lem
  pub in_keys : keys_y + 2 * edges ≤ length keys
  pub in_rows : RowsRoom (length (table_rings edges next marks)) rows

-- what it leaves: the half-edges ring by ring, and of each ring its first place, its length, its side and its area
pub record Listed (rings : List (List ℕ)) (source : List ℕ) (xs ys : List Float) (half_edges₀ : List ℕ) (rows₀ : RingRows) (half_edges_lem : List ℕ) (rows : RingRows) (count : ℕ) : Type 0 where
  pub halves : half_edges_lem ≡ over (flatten rings) half_edges₀
  pub places : rows.first ≡ over (first_places 0 rings) rows₀.first
  pub sizes : rows.size ≡ over (map size_of rings) rows₀.size
  pub sides : rows.side ≡ over (map (number_in source xs ys) rings) rows₀.side
  pub areas : rows.area ≡ over (map (shown_in source xs ys) rings) rows₀.area
  pub number : count ≡ length rings
