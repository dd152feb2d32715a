-- The rings of a sketch, with the keys that face numbers go by, and their holes.
use Rattle.std.specs.Prelude.{List, map}
use Rattle.std.specs.Float.{binary64}
use Rattle.std.specs.Float.Ieee.{of_int}
use Rattle.rotation.specs.Rotation.{Key}
use Rattle.geometry.specs.Angle.{Point}
use Rattle.rules.specs.Keys.{key_of}
use Rattle.rules.specs.Split.{minimal_rings}
use Rattle.rules.specs.Face.{Ring, ring_of}
use Rattle.rules.specs.Holes.{Hole, holes_of}
use Rattle.rules.specs.Sketch.{Sketch, point_at_lem, sketched}

-- the key of a point: the bits of its x and y as floats
unfoldable pub point_key : Point → Key
unfolding key_of of_int
point_key p = key_of (of_int binary64 p.x) (of_int binary64 p.y)

-- the rings of a sketch
unfoldable pub sketch_rings : Sketch → List Ring
unfolding point_key point_at_lem sketched minimal_rings ring_of
sketch_rings k = map (ring_of (point_at_lem k) (λ n. point_key (point_at_lem k n)) (sketched k)) (minimal_rings (sketched k))

-- their holes
unfoldable pub sketch_holes : Sketch → List Hole
unfolding sketch_rings holes_of point_at_lem sketched
sketch_holes k = holes_of (point_at_lem k) (sketched k) (sketch_rings k)
