-- A map as it stands in lists and tables: rings with their half-edges and nodes one after another, and where the nodes lie.
use Rattle.std.specs.Prelude.{ℕ, ◌+◌, ◌<◌, ◌≤◌, ◌≡◌, List, [], ℤ, length, get_or, take, drop}
use Rattle.geometry.specs.Coordinate.{coordinate_bound}
use Rattle.rules.specs.Cycles.{Arrangement}
use Rattle.rules.specs.State.{arrangement_in}
use Rattle.rules.specs.Face.{Ring, face_number_lem}
use Rattle.rules.specs.Claim.{Joined}
use Rattle.rules.specs.Holes.{outside, ring_nodes, ring_at}
use Rattle.inside.specs.Spots.{RingWithin, Spotted}

-- an arrangement of which only the starts of half-edges are read
abbrev pub origins : List ℕ → Arrangement
origins source = arrangement_in 0 0 source [] []

-- half-edges of a list stand in the table of sources, and start at nodes below a count
abbrev pub Starting : List ℕ → List ℕ → ℕ → Type 0
Starting half_edges_lem source count = (k : ℕ) → k < length half_edges_lem → (get_or half_edges_lem k 0 < length source) × (get_or source (get_or half_edges_lem k 0) 0 < count)

-- the tables and lists
pub record Map : Type 0 where
  pub source : List ℕ
  pub xs : List ℤ
  pub ys : List ℤ
  -- ring by ring
  pub half_edges_lem : List ℕ
  pub nodes : List ℕ
  -- for each ring
  pub first : List ℕ
  pub size : List ℕ
  pub face : List ℕ

-- those of the code
abbrev pub map_of : List ℕ → List ℤ → List ℤ → List ℕ → List ℕ → List ℕ → List ℕ → List ℕ → Map
map_of source xs ys half_edges_lem nodes first size face =
    record { source = source; xs = xs; ys = ys; half_edges_lem = half_edges_lem; nodes = nodes; first = first; size = size; face = face }

-- what stands for ring i in a list that goes ring by ring
abbrev pub part_of : Map → ℕ → List ℕ → List ℕ
part_of m i l = take (get_or m.size i 0) (drop (get_or m.first i 0) l)

-- ring i of a map whose nodes are below a count
pub record Laid (rs : List Ring) (m : Map) (bound i : ℕ) : Type 0 where
  pub in_halves : get_or m.first i 0 + get_or m.size i 0 ≤ length m.half_edges_lem
  pub in_nodes : get_or m.first i 0 + get_or m.size i 0 ≤ length m.nodes
  pub some : 0 < get_or m.size i 0
  pub halves : part_of m i m.half_edges_lem ≡ (ring_at rs i).half_edges_lem
  pub nodes : part_of m i m.nodes ≡ ring_nodes (origins m.source) (ring_at rs i).half_edges_lem
  pub within : RingWithin (ring_at rs i).half_edges_lem m.source bound
  pub joined : Joined (origins m.source) (get_or (ring_at rs i).half_edges_lem 0 0) (ring_at rs i).half_edges_lem
  pub faced : get_or m.face i 0 ≡ face_number_lem rs (ring_at rs i)

-- the map holds the rings, and no two of them have one face number
pub record Holds (rs : List Ring) (m : Map) (bound : ℕ) : Type 0 where
  pub few : length rs < outside
  pub in_first : length rs ≤ length m.first
  pub in_size : length rs ≤ length m.size
  pub in_face : length rs ≤ length m.face
  pub spotted : Spotted coordinate_bound bound m.xs m.ys
  pub each : (i : ℕ) → i < length rs → Laid rs m bound i
  pub apart : (i j : ℕ) → i < length rs → j < length rs → face_number_lem rs (ring_at rs i) ≡ face_number_lem rs (ring_at rs j) → i ≡ j
