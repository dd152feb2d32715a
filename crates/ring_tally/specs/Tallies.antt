-- What a tally of a ring's half-edges holds.
use Rattle.std.specs.Prelude.{ℕ, ◌+◌, ◌*◌, ◌<◌, ◌≤◌, List, length, get_or, pos, Float, false}
use Rattle.std.specs.Float.{nan, fin, binary64}
use Rattle.std.specs.Float.Ieee.{add, sub, mul}
use Rattle.rules.specs.HalfEdge.{twin}
use Rattle.rules.specs.Ringing.{sum_in}
use Rattle.ring_tally.specs.declared.tally.Tally.{Tally}

-- one half-edge more, from (x1, y1) to (x2, y2)
abbrev pub taken : Tally → Float → Float → Float → Float → Tally
taken t x1 y1 x2 y2 = record { count = t.count + 1; sum = sub binary64 (add binary64 t.sum (mul binary64 x1 y2)) (mul binary64 x2 y1) }

-- one half-edge more, from the node where it starts to the node where its twin starts
abbrev pub taken_at_lem : List ℕ → List Float → List Float → Tally → ℕ → Tally
taken_at_lem source xs ys t h =
    let a = get_or source h 0 in
    let b = get_or source (twin h) 0 in
    taken t (get_or xs a nan) (get_or ys a nan) (get_or xs b nan) (get_or ys b nan)

-- the tally of a whole ring: how many half-edges it has, and the sum, not halved
abbrev pub tally_of : List ℕ → List Float → List Float → List ℕ → Tally
tally_of source xs ys ring = record { count = length ring; sum = sum_in source xs ys (fin false 0 (pos 0)) ring }

-- half-edges below twice a count of edges start at nodes that have an x and a y
pub record Sited (edges : ℕ) (source : List ℕ) (xs ys : List Float) : Type 0 where
  pub in_source : 2 * edges ≤ length source
  pub in_x : (h : ℕ) → h < 2 * edges → get_or source h 0 < length xs
  pub in_y : (h : ℕ) → h < 2 * edges → get_or source h 0 < length ys

-- what taking a half-edge asks: it is one of these
pub record Takable (source : List ℕ) (xs ys : List Float) (h : ℕ) : Type 0 where
  pub edges : ℕ
  pub sited : Sited edges source xs ys
  pub low : h < 2 * edges
