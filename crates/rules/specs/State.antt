-- The state of a graph: three numbers and the lent tables. What makes the tables long enough (number 6) and sound (number 7).
use Rattle.std.specs.Prelude.{ℕ, ◌+◌, ◌*◌, Bool, true, ◌&&◌, ◌||◌, not, List, length, get_or, take, eqb, ltb, leb, Float}
use Rattle.std.specs.Bool.{beq}
use Rattle.std.specs.Float.{nan}
use Rattle.lists.specs.Lists.{upto, pick, all, count_of}
use Rattle.geometry.specs.Coordinate.{coordinate, value}
use Rattle.rotation.specs.Rotation.{Key}
use Rattle.rules.specs.Keys.{key_of}
use Rattle.geometry.specs.Angle.{Point}
use Rattle.rules.specs.Cycles.{Arrangement}
use Rattle.rules.specs.Limits.{Limits}
use Rattle.rules.specs.LineIds.{Tracings, sound_lists}

-- the three numbers and the tables
pub record State : Type 0 where
  pub nodes : ℕ
  pub edges : ℕ
  -- 0 building, 1 sorted, 2 pruned, 3 cut, 4 ringed
  pub stage : ℕ
  -- for each node
  pub node_x : List Float
  pub node_y : List Float
  pub node_z : List Float
  pub degree : List ℕ
  pub node_mark : List Bool
  -- for each edge: start x, y, z and end x, y, z at 6 k, and the line id
  pub segment : List Float
  pub line_id : List ℕ
  -- for each half-edge: where it starts and ends, and its mark
  pub source : List ℕ
  pub target : List ℕ
  pub half_mark : List Bool
  -- every half-edge once: a node's star is what of it starts at the node, in this order
  pub star : List ℕ
  -- the ids of the additions that made or found each edge
  pub tracings : Tracings

-- ---- reading a state

-- of a list of half-edges, those that start at node n
abbrev pub star_in : List ℕ → List ℕ → ℕ → List ℕ
star_in source table n = pick (λ h. eqb (get_or source h 0) n) table

-- the arrangement that tables hold
abbrev pub arrangement_in : ℕ → ℕ → List ℕ → List Bool → List ℕ → Arrangement
arrangement_in nodes edges source half_mark star = record {
  nodes = nodes;
  edges = edges;
  origin = λ h. get_or source h 0;
  active = λ h. not (get_or half_mark h true);
  star = star_in source (take (2 * edges) star);
}

-- where node n of a table of x and one of y lies
abbrev pub point_in : List Float → List Float → ℕ → Point
point_in xs ys n = record { x = value (get_or xs n nan); y = value (get_or ys n nan) }

-- node n's key
abbrev pub key_in_lem : List Float → List Float → ℕ → Key
key_in_lem xs ys n = key_of (get_or xs n nan) (get_or ys n nan)

-- the same of a state
unfoldable pub star_of : State → ℕ → List ℕ
star_of s n = star_in s.source (take (2 * s.edges) s.star) n

-- what the rules read of the tables
unfoldable pub arrangement : State → Arrangement
unfolding star_of
arrangement s = arrangement_in s.nodes s.edges s.source s.half_mark s.star

-- where node n lies
unfoldable pub point_of : State → ℕ → Point
unfolding value
point_of s n = point_in s.node_x s.node_y n

-- node n's key
unfoldable pub node_key : State → ℕ → Key
unfolding key_of
node_key s n = key_in_lem s.node_x s.node_y n

-- ---- number 6: every table is as long as the limits need

-- the test of number 6
unfoldable pub roomy : Limits → State → Bool
roomy l s =
    leb l.nodes (length s.node_x)
    && (leb l.nodes (length s.node_y)
    && (leb l.nodes (length s.node_z)
    && (leb l.nodes (length s.degree)
    && (leb l.nodes (length s.node_mark)
    && (leb (6 * l.edges) (length s.segment)
    && (leb l.edges (length s.line_id)
    && (leb (2 * l.edges) (length s.source)
    && (leb (2 * l.edges) (length s.target)
    && (leb (2 * l.edges) (length s.half_mark)
    && (leb (2 * l.edges) (length s.star)
    && (leb l.edges (length s.tracings.place)
    && (leb l.pairs (length s.tracings.id) && leb l.pairs (length s.tracings.next)))))))))))))

-- ---- number 7: the soundness list

-- edge k's half-edges swap two different nodes below the node count
unfoldable pub sound_ends : State → ℕ → Bool
sound_ends s k =
    let a = get_or s.source (2 * k) 0 in
    let b = get_or s.target (2 * k) 0 in
    ltb a s.nodes
    && (ltb b s.nodes
    && (not (eqb a b)
    && (eqb (get_or s.source (2 * k + 1) 0) b && eqb (get_or s.target (2 * k + 1) 0) a)))

-- twins are marked alike
unfoldable pub sound_twins : State → ℕ → Bool
sound_twins s k = beq (get_or s.half_mark (2 * k) true) (get_or s.half_mark (2 * k + 1) true)

-- The half-edges below twice the edge count stand once each among as many entries, so a node's star lists every
-- half-edge that starts there, once, and no other.
unfoldable pub sound_star : State → ℕ → Bool
sound_star s h = eqb (count_of h (take (2 * s.edges) s.star)) 1

-- stored x and y meet the rule of number 1
unfoldable pub sound_coordinates : Limits → State → ℕ → Bool
unfolding coordinate
sound_coordinates l s n = coordinate l.bound (get_or s.node_x n nan) && coordinate l.bound (get_or s.node_y n nan)

-- nothing is marked, and degrees are star lengths
unfoldable pub fresh : State → Bool
unfolding star_of
fresh s =
    all (λ n. not (get_or s.node_mark n true) && eqb (get_or s.degree n 0) (length (star_of s n))) (upto s.nodes)
    && all (λ h. not (get_or s.half_mark h true)) (upto (2 * s.edges))

-- document 01's list
unfoldable pub sound_graph : Limits → State → Bool
unfolding sound_ends sound_twins sound_star sound_coordinates fresh
sound_graph l s =
    leb s.nodes l.nodes
    && (leb s.edges l.edges
    && (leb s.stage 4
    && (all (sound_ends s) (upto s.edges)
    && (all (sound_twins s) (upto s.edges)
    && (all (sound_star s) (upto (2 * s.edges))
    && (all (sound_coordinates l s) (upto s.nodes)
    && (ltb 1 s.stage || fresh s)))))))

-- the test of number 7: that list, and the lists of line ids
unfoldable pub sound : Limits → State → Bool
unfolding sound_graph sound_lists
sound l s = sound_graph l s && sound_lists l.pairs s.tracings s.line_id s.edges
