-- How a line stands to a point, as the code answers it.
use Rattle.std.specs.Prelude.{Bool, cond}
use Rattle.geometry.specs.Angle.{Point}
use Rattle.rules.specs.Holes.{on_line_lem, crosses_right}
use Rattle.inside.specs.declared.lines.Meets.{Meets}
use Rattle.inside.specs.declared.lines.Meets.TheVariants.{OnLine, Right, Apart}

-- by whether the point lies on the line, then by whether the line crosses to its right
abbrev pub meets_by : Bool → Bool → Meets
meets_by on right = cond on OnLine (cond right Right Apart)

-- of the line from a to b and the point p
abbrev pub meets_of : Point → Point → Point → Meets
meets_of a b p = meets_by (on_line_lem a b p) (crosses_right a b p)
