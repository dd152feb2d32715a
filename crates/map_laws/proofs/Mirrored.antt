-- A mirrored successor, the active half-edge after the twin in its star, does not keep the face on the left: on document 01's map it leaves
-- an active half-edge inside the sector.
use Prim.Native.Nat.{ℕ}
use native.Mathlib.Omega.{arith}
use mathlib.Core.Path.{◌≡◌, refl, sym, ◌∙◌}
use mathlib.Core.Bool.{true, false}
use mathlib.Core.List.{[], ◌∷◌}
use lib.IntN.{pos}
use Rattle.lists.proofs.Counts.{true_is_false}
use Rattle.lists.proofs.Rounds.{next}
use Rattle.geometry.specs.Angle.{Point}
use Rattle.geometry.specs.Sector.{swept}
use Rattle.rules.specs.HalfEdge.{twin}
use Rattle.rules.specs.Cycles.{Arrangement, active_star, successor}
use Rattle.map_laws.specs.LeftFace.{end_at, KeepsLeft}
use Rattle.rules.specs.Sketch.{Line, Sketch, point_at_lem, sketched}

-- the half-edge after the twin of h in its star
unfoldable pub mirrored : Arrangement → ℕ → ℕ
unfolding active_star twin
mirrored g h = next (twin h) (active_star g (g.origin (twin h)))

-- a point
abbrev pub at : ℕ → ℕ → Point
at x y = record { x = pos x; y = pos y }

-- an unmarked line
abbrev pub line : ℕ → ℕ → Line
line a b = record { from = a; to = b; marked = false }

-- document 01's example: (0,0)-(4,0), (4,0)-(0,3), (0,3)-(0,0), (4,0)-(6,0)
abbrev pub example : Sketch
example = record {
  points = at 0 0 ∷ at 4 0 ∷ at 0 3 ∷ at 6 0 ∷ [];
  point_marks = false ∷ false ∷ false ∷ false ∷ [];
  lines = line 0 1 ∷ line 1 2 ∷ line 2 0 ∷ line 1 3 ∷ [];
}

-- half-edge 0 ends at (4,0): its successor leads to (0,3)
successor-there : successor (sketched example) 0 ≡ 2
unfolding successor sketched
successor-there = refl

-- the mirrored one leads to (6,0)
mirrored_there : mirrored (sketched example) 0 ≡ 6
unfolding mirrored sketched
mirrored_there = refl

-- from (6,0) counterclockwise to (0,0) lies half-edge 2, that leads to (0,3)
inside-there : swept (point_at_lem example 1) (end_at (point_at_lem example) (sketched example) (mirrored (sketched example) 0)) (end_at (point_at_lem example) (sketched example) 2) (end_at (point_at_lem example) (sketched example) (twin 0)) ≡ true
unfolding mirrored sketched swept point_at_lem
inside-there = refl

-- so the mirrored one breaks the law
pub mirrored_breaks : KeepsLeft (point_at_lem example) (sketched example) (mirrored (sketched example)) → ⊥
unfolding sketched
mirrored_breaks k = true_is_false (sym inside-there ∙ k.clear 0 2 (omega arith, refl) ((omega arith, refl), refl))
