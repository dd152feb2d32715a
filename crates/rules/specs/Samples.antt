-- Facts of single definitions that no law says, by computation. Whole tracings that are worked by hand stand in worked_cases.
use Rattle.std.specs.Prelude.{ℕ, ◌≡◌, refl, true, pos}
use Rattle.geometry.specs.Angle.{Point}
use Rattle.rules.specs.Holes.{on_line_lem}

-- the point (x, 0)
abbrev flat : ℕ → Point
flat x = record { x = pos x; y = pos 0 }

-- a point between a line's ends is on the line
on_line : on_line_lem (flat 0) (flat 4) (flat 2) ≡ true
unfolding on_line_lem
on_line = refl
