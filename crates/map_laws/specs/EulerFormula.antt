-- Euler's formula as the books have it: V - E + F = 1 + C for a plane map of C pieces with F faces, the outer face counted once for all pieces.
-- A cycle of successors goes once around a face of its own piece, and each piece has one face that is not bounded. Drawn together, the C
-- unbounded ones become the one outer face: F = cycles - C + 1.
use Rattle.std.specs.Prelude.{ℕ, ◌+◌, ◌-◌, ◌<◌, ◌≤◌, ◌≡◌, true, eqb}
use Rattle.rules.specs.Cycles.{Arrangement, halves, label}
use Rattle.rules.specs.Sane.{Live}
use Rattle.rules.specs.Euler.{Census, touched, census}
use Rattle.rules.specs.Paths.{Path}

-- F; the difference is never cut off at 0, as `enough` below says
abbrev pub faces : Census → ℕ
faces c = c.cycles - c.pieces + 1

-- what holds of the counts of an arrangement
pub record EulerRules (g : Arrangement) : Type 0 where
  -- every piece has a cycle: at each of its nodes an active half-edge starts, and each of these is in a cycle
  pub some : (n : ℕ) → n < g.nodes → touched g n ≡ true → (h : ℕ) × Live (halves g) g.active h × (g.origin h ≡ n)
  -- and different pieces have different cycles: a path leads from each half-edge of a cycle to every other
  pub within : (h i : ℕ) → Live (halves g) g.active h → Live (halves g) g.active i → label g h ≡ label g i → Path g (g.origin h) (g.origin i)
  -- so there are no fewer cycles than pieces
  pub enough : (census g).pieces ≤ (census g).cycles
  -- the verdict is yes exactly when V + F = E + C + 1
  pub formula : (census g).verdict ≡ eqb ((census g).vertices + faces (census g)) ((census g).edges + (census g).pieces + 1)
