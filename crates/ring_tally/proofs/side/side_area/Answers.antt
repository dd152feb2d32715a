-- The area of a side.
use mathlib.Core.Path.{sym, ap}
use lib.Ieee.{of_bits}
use Rattle.rules.specs.Ringing.{side_area_lem}
use Rattle.ring_tally.specs.Sides.{side_of}
use Rattle.ring_tally.proofs.side.side_area.Goals as goal

pub returns-in-Flat : goal.returns-in-Flat
unfolding of_bits
returns-in-Flat c = ap (λ z. side_area_lem (side_of z)) (sym c.in-Flat.is)
