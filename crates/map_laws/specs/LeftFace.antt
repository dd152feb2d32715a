-- What De Berg et al. ask of half-edges: the face of a half-edge lies to its left, and the next half-edge goes on along that face.
-- It is said by the sectors of geometry's specs/Sector.antt, so by the sign of the exact determinant; the order of the stars is not used.
use Rattle.std.specs.Prelude.{ℕ, ◌<◌, ◌≡◌, Bool, false, ◌&&◌, ◌||◌, ltb}
use Rattle.lists.specs.Sort.{sorted}
use Rattle.geometry.specs.Angle.{Point}
use Rattle.geometry.specs.Sector.{swept}
use Rattle.rules.specs.HalfEdge.{twin}
use Rattle.rules.specs.Angle.{angle_before}
use Rattle.rules.specs.Cycles.{Arrangement, halves}
use Rattle.rules.specs.Sane.{Live}

-- where a half-edge ends
abbrev pub end_at : (ℕ → Point) → Arrangement → ℕ → Point
end_at at g h = at (g.origin (twin h))

-- k is an active half-edge that starts where h ends
abbrev pub GoesOn : Arrangement → ℕ → ℕ → Type 0
GoesOn g h k = Live (halves g) g.active k × (g.origin k ≡ g.origin (twin h))

-- Next keeps the face of every active half-edge h on the left. At the end of h, turn clockwise from h's twin: the first active half-edge
-- that is met is the next one. Where the twin is alone that is the twin again, since the next one is one of those that start there.
pub record KeepsLeft (at : ℕ → Point) (g : Arrangement) (next : ℕ → ℕ) : Type 0 where
  -- the next one is active and starts where h ends
  pub starts : (h : ℕ) → Live (halves g) g.active h → GoesOn g h (next h)
  -- no active half-edge lies inside the sector from the next one counterclockwise to the twin
  pub clear : (h k : ℕ) → Live (halves g) g.active h → GoesOn g h k → swept (at (g.origin (twin h))) (end_at at g (next h)) (end_at at g k) (end_at at g (twin h)) ≡ false
  -- the next one is the twin only where the twin is alone
  pub alone : (h k : ℕ) → Live (halves g) g.active h → GoesOn g h k → next h ≡ twin h → k ≡ twin h

-- each star stands in angular order: sorting it changes nothing
abbrev pub Angular : (ℕ → Point) → Arrangement → Type 0
Angular at g = (n : ℕ) → n < g.nodes → sorted (λ h k. angle_before (at n) (end_at at g h) (end_at at g k)) (g.star n) ≡ g.star n

-- no half-edge ends where it starts, and those that start at one node end at different points
pub record Apart (at : ℕ → Point) (g : Arrangement) : Type 0 where
  pub away : (h : ℕ) → h < halves g → end_at at g h ≡ at (g.origin h) → ⊥
  pub differ : (h k : ℕ) → h < halves g → k < halves g → g.origin h ≡ g.origin k → end_at at g h ≡ end_at at g k → h ≡ k

-- going round, place j comes after place i and place k after j
abbrev pub in_turn : ℕ → ℕ → ℕ → Bool
in_turn i j k = (ltb i j && ltb j k) || ((ltb j k && ltb k i) || (ltb k i && ltb i j))
