-- The box of a ring, by the nodes at its four sides: to the left, to the right, below and above.
use Rattle.std.specs.Prelude.{ℕ, ◌<◌, ◌≡◌, Bool, false, List, get_or, ℤ, pos}
use Rattle.std.specs.Int.Signed.{lt_z}
use Rattle.lists.specs.Lists.{In}
use Rattle.rules.specs.Holes.{left_of}
use Rattle.inside.specs.Spots.{spot_in}
use Rattle.corners.specs.Nodes.{FirstOf}
use Rattle.corners.specs.declared.boxes.Sides.{Sides}

-- by the lesser entry
abbrev pub lower : List ℤ → ℕ → ℕ → Bool
lower zs m n = lt_z (get_or zs m (pos 0)) (get_or zs n (pos 0))

-- by the greater entry
abbrev pub higher : List ℤ → ℕ → ℕ → Bool
higher zs m n = lower zs n m

-- the four are nodes
pub record SidesWithin (s : Sides) (m n : ℕ) : Type 0 where
  pub left : (s.left < m) × (s.left < n)
  pub right : s.right < m
  pub low : s.low < n
  pub high : s.high < n

-- a node lies within
pub record Bounds (xs ys : List ℤ) (s : Sides) (n : ℕ) : Type 0 where
  pub left : left_of (spot_in xs ys) n s.left ≡ false
  pub right : higher xs n s.right ≡ false
  pub low : lower ys n s.low ≡ false
  pub high : higher ys n s.high ≡ false

-- each side is what it was or one node more, whichever lies further out
pub record Widened (xs ys : List ℤ) (s : Sides) (node : ℕ) (t : Sides) : Type 0 where
  pub left : FirstOf (left_of (spot_in xs ys)) s.left node t.left
  pub right : FirstOf (higher xs) s.right node t.right
  pub low : FirstOf (lower ys) s.low node t.low
  pub high : FirstOf (higher ys) s.high node t.high

-- the sides are nodes of the list, and all of it lies within
pub record Outermost (xs ys : List ℤ) (nodes : List ℕ) (s : Sides) : Type 0 where
  pub left : In s.left nodes
  pub right : In s.right nodes
  pub low : In s.low nodes
  pub high : In s.high nodes
  pub bounds : (n : ℕ) → In n nodes → Bounds xs ys s n
