-- The holes that a lent list of records holds.
use Rattle.std.specs.Prelude.{List, map}
use Rattle.rules.specs.Holes as rules
use Rattle.holes.specs.declared.Hole.{Hole}

-- the hole of a record
abbrev pub hole_of : Hole → rules.Hole
hole_of h = record { ring = h.ring; holder = h.holder; doubled = h.doubled }

-- the holes of a list of records
abbrev pub lent_holes : List Hole → List rules.Hole
lent_holes = map hole_of
