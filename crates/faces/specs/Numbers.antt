-- The face numbers of rings that stand in lists.
use Rattle.std.specs.Prelude.{ℕ, suc, ◌+◌, ◌*◌, ◌<◌, ◌≤◌, ◌≡◌, cond, List, [], ◌∷◌, map, length, get_or, eqb, Float}
use Rattle.std.specs.Float.{nan}
use Rattle.lists.specs.Lists.{upto, count_of}
use Rattle.rules.specs.Cycles.{Arrangement}
use Rattle.rules.specs.Face.{Ring, ring_of, face_number_lem}
use Rattle.rules.specs.Naming.{naming_comparisons}
use Rattle.rules.specs.Limits.{Limits}
use Rattle.rules.specs.State.{arrangement_in, point_in, key_in_lem}
use Rattle.ring_tally.specs.Keys.{bits_from}
use Rattle.ring_keys.specs.Listed.{part_of, HalfOf}

-- the place where x stands first
abbrev pub index_of : ℕ → List ℕ → ℕ
index_of x [] = 0
index_of x (y ∷ ys) = cond (eqb x y) 0 (suc (index_of x ys))

-- each number below n stands once in the list
abbrev pub Once : ℕ → List ℕ → Type 0
Once n l = (v : ℕ) → v < n → count_of v l ≡ 1

-- an arrangement of which only the starts of half-edges are read
abbrev pub origins : List ℕ → Arrangement
origins source = arrangement_in 0 0 source [] []

-- ring i of the lists
unfoldable pub ring_at : List ℕ → List ℕ → List ℕ → List ℕ → List Float → List Float → ℕ → Ring
unfolding ring_of
ring_at half_edges_lem firsts lengths source xs ys i =
    ring_of (point_in xs ys) (key_in_lem xs ys) (origins source) (part_of (get_or firsts i 0) (get_or lengths i 0) half_edges_lem)

-- the rings of the lists
abbrev pub rings_at : List ℕ → List ℕ → List ℕ → ℕ → List ℕ → List Float → List Float → List Ring
rings_at half_edges_lem firsts lengths count source xs ys = map (ring_at half_edges_lem firsts lengths source xs ys) (upto count)

-- the face number of each ring
abbrev pub face_numbers : List Ring → List ℕ
face_numbers rs = map (face_number_lem rs) rs

-- the half-edges of each ring of the lists
abbrev pub rows_at : List ℕ → List ℕ → List ℕ → ℕ → List (List ℕ)
rows_at half_edges_lem firsts lengths count = map (λ i. part_of (get_or firsts i 0) (get_or lengths i 0) half_edges_lem) (upto count)

-- the comparisons made in naming them
abbrev pub comparisons_at : List ℕ → List ℕ → List ℕ → ℕ → List ℕ → List Float → List Float → ℕ
comparisons_at half_edges_lem firsts lengths count source xs ys = naming_comparisons (key_in_lem xs ys) (origins source) (rows_at half_edges_lem firsts lengths count)

-- the lists hold rings with the keys of the nodes where half-edges start in these tables, each with its area, and no two begin with the same half-edge
pub record Numberable (l : Limits) (half_edges_lem xs ys firsts lengths : List ℕ) (count : ℕ) (source : List ℕ) (X Y areas : List Float) : Type 0 where
  pub few : count ≤ 2 * l.edges
  pub first_room : count ≤ length firsts
  pub length_room : count ≤ length lengths
  pub area_room : count ≤ length areas
  pub bits_x : xs ≡ map (bits_from source X) half_edges_lem
  pub bits_y : ys ≡ map (bits_from source Y) half_edges_lem
  pub some : (i : ℕ) → i < count → 0 < get_or lengths i 0
  pub within : (i : ℕ) → i < count → get_or firsts i 0 + get_or lengths i 0 ≤ length half_edges_lem
  pub halves : (i : ℕ) → i < count → HalfOf (get_or areas i nan) (ring_at half_edges_lem firsts lengths source X Y i).doubled
  pub apart : (i j : ℕ) → i < count → j < count → get_or half_edges_lem (get_or firsts i 0) 0 ≡ get_or half_edges_lem (get_or firsts j 0) 0 → i ≡ j

-- what numbering asks: they do so by some tables, which are not read
pub record Nameable (l : Limits) (half_edges_lem xs ys firsts lengths : List ℕ) (count : ℕ) (areas : List Float) : Type 0 where
  pub source : List ℕ
  pub nodes_x : List Float
  pub nodes_y : List Float
  pub able : Numberable l half_edges_lem xs ys firsts lengths count source nodes_x nodes_y areas
