-- The enclosed rings, which may hold an open one: their numbers, and for each five whole numbers: its box and its doubled area.
use Rattle.std.specs.Prelude.{ℕ, ◌+◌, ◌*◌, ◌<◌, ◌≤◌, ◌≡◌, ◌⊎◌, Bool, false, ◌&&◌, not, List, [], ◌∷◌, ℤ, pos, length, get_or, take, drop, set, Float, eqb}
use Rattle.std.specs.Float.{nan}
use Rattle.std.specs.Int.Signed.{lt_z}
use Rattle.lists.specs.Lists.{below, In}
use Rattle.rules.specs.Limits.{limits}
use Rattle.rules.specs.Face.{Ring}
use Rattle.rules.specs.Holes.{enclosed, ring_at}
use Rattle.ring_lists.specs.Shown.{HalfOf}
use Rattle.corners.specs.declared.boxes.Sides.{Sides}
use Rattle.inside.specs.Spots.{NodesWithin}

-- how many numbers a candidate has
abbrev pub numbers_of : ℕ
numbers_of = 5

-- number k of candidate j
abbrev pub number_at : List ℤ → ℕ → ℕ → ℤ
number_at numbers j k = get_or numbers (numbers_of * j + k) (pos 0)

-- the numbers of a candidate, in their order: least x, greatest x, least y, greatest y, doubled area
abbrev pub numbers_by : List ℤ → List ℤ → Sides → ℤ → List ℤ
numbers_by xs ys s doubled =
    get_or xs s.left (pos 0) ∷ get_or xs s.right (pos 0) ∷ get_or ys s.low (pos 0) ∷ get_or ys s.high (pos 0) ∷ doubled ∷ []

-- above every number of a candidate
abbrev pub beyond : ℤ
beyond = pos 9223372036854775807

-- not beside the box of candidate j
abbrev pub in_box_lem : List ℤ → ℕ → ℤ → ℤ → Bool
in_box_lem numbers j x y =
    not (lt_z x (number_at numbers j 0)) && (not (lt_z (number_at numbers j 1) x) && (not (lt_z y (number_at numbers j 2)) && not (lt_z (number_at numbers j 3) y)))

-- the numbers of candidate j bound nodes
pub record Bounds (xs ys : List ℤ) (numbers : List ℤ) (j : ℕ) (nodes : List ℕ) : Type 0 where
  pub low_x : (n : ℕ) → In n nodes → lt_z (get_or xs n (pos 0)) (number_at numbers j 0) ≡ false
  pub high_x : (n : ℕ) → In n nodes → lt_z (number_at numbers j 1) (get_or xs n (pos 0)) ≡ false
  pub low_y : (n : ℕ) → In n nodes → lt_z (get_or ys n (pos 0)) (number_at numbers j 2) ≡ false
  pub high_y : (n : ℕ) → In n nodes → lt_z (number_at numbers j 3) (get_or ys n (pos 0)) ≡ false

-- a ring passes every node, of which there are so many
abbrev pub PassesAll : ℕ → List ℕ → Type 0
PassesAll count nodes = (n : ℕ) → n < count → In n nodes

-- the box of candidate j: it bounds the ring's nodes, but where the ring passes every node and can hold nothing, it may be any; and the doubled area
pub record Boxed (xs ys : List ℤ) (all : ℕ) (numbers : List ℤ) (j : ℕ) (nodes : List ℕ) (doubled : ℤ) : Type 0 where
  pub box : PassesAll all nodes ⊎ Bounds xs ys numbers j nodes
  pub area : number_at numbers j 4 ≡ doubled

-- the nodes of ring i in a list that goes ring by ring
abbrev pub nodes_at : List ℕ → List ℕ → List ℕ → ℕ → List ℕ
nodes_at nodes first size i = take (get_or size i 0) (drop (get_or first i 0) nodes)

-- a part of the list is ring i's
pub record Part (nodes first size : List ℕ) (i : ℕ) : Type 0 where
  pub in_first : i < length first
  pub in_size : i < length size
  pub within : get_or first i 0 + get_or size i 0 ≤ length nodes

-- it has nodes, and each stands in both tables
pub record Standing (nodes : List ℕ) (xs ys : List ℤ) (first size : List ℕ) (i : ℕ) : Type 0 where
  pub part : Part nodes first size i
  pub some : 0 < get_or size i 0
  pub in_xs : NodesWithin (nodes_at nodes first size i) (length xs)
  pub in_ys : NodesWithin (nodes_at nodes first size i) (length ys)

-- what writing ring i as candidate n asks: the ring stands in the lists with its area, its nodes are among all, and there is room
pub record Writable (nodes : List ℕ) (xs ys : List ℤ) (first size : List ℕ) (area : List Float) (all i n : ℕ) (rings : List ℕ) (numbers : List ℤ) : Type 0 where
  pub stands : Standing nodes xs ys first size i
  pub low : NodesWithin (nodes_at nodes first size i) all
  pub few_nodes : all ≤ limits.nodes
  pub in_area : i < length area
  pub halved : (z : ℤ) × HalfOf (get_or area i nan) z
  pub in_rings : n < length rings
  pub in_numbers : numbers_of * n + numbers_of ≤ length numbers

-- ring i is candidate n, and the candidates before it stay
pub record Written (nodes : List ℕ) (xs ys : List ℤ) (first size : List ℕ) (area : List Float) (all i n : ℕ) (rings rings' : List ℕ) (numbers numbers' : List ℤ) : Type 0 where
  pub ring : rings' ≡ set rings n i
  pub long : length numbers' ≡ length numbers
  pub boxed : (z : ℤ) → HalfOf (get_or area i nan) z → Boxed xs ys all numbers' n (nodes_at nodes first size i) z
  pub kept : (k : ℕ) → k < numbers_of * n → get_or numbers' k (pos 0) ≡ get_or numbers k (pos 0)

-- what listing asks of ring i: it stands in the lists with its nodes, side and area
pub record RingListable (rs : List Ring) (nodes : List ℕ) (xs ys : List ℤ) (first size side : List ℕ) (area : List Float) (i : ℕ) : Type 0 where
  pub within : get_or first i 0 + get_or size i 0 ≤ length nodes
  pub some : 0 < get_or size i 0
  pub in_xs : NodesWithin (nodes_at nodes first size i) (length xs)
  pub in_ys : NodesWithin (nodes_at nodes first size i) (length ys)
  pub sided : eqb (get_or side i 0) 1 ≡ enclosed (ring_at rs i)
  pub halved : HalfOf (get_or area i nan) (ring_at rs i).doubled

-- and of all of them, and of the room for those that are enclosed
pub record Listable (rs : List Ring) (nodes : List ℕ) (xs ys : List ℤ) (first size side : List ℕ) (area : List Float) (all count : ℕ) (rings : List ℕ) (numbers : List ℤ) : Type 0 where
  pub counted : count ≡ length rs
  pub in_first : count ≤ length first
  pub in_size : count ≤ length size
  pub in_side : count ≤ length side
  pub in_area : count ≤ length area
  pub each : (i : ℕ) → i < count → RingListable rs nodes xs ys first size side area i
  pub low : (i : ℕ) → i < count → NodesWithin (nodes_at nodes first size i) all
  pub few_nodes : all ≤ limits.nodes
  pub in_rings : length (below (λ i. enclosed (ring_at rs i)) count) ≤ length rings
  pub in_numbers : numbers_of * length (below (λ i. enclosed (ring_at rs i)) count) ≤ length numbers

-- the candidates are the enclosed rings among the first n, with their boxes and doubled areas
pub record Candidates (rs : List Ring) (nodes : List ℕ) (xs ys : List ℤ) (first size : List ℕ) (all n : ℕ) (rings : List ℕ) (numbers : List ℤ) (count : ℕ) : Type 0 where
  pub many : count ≡ length (below (λ i. enclosed (ring_at rs i)) n)
  pub in_rings : count ≤ length rings
  pub in_numbers : numbers_of * count ≤ length numbers
  pub listed : take count rings ≡ below (λ i. enclosed (ring_at rs i)) n
  pub each : (j : ℕ) → j < count → Boxed xs ys all numbers j (nodes_at nodes first size (get_or rings j 0)) (ring_at rs (get_or rings j 0)).doubled
