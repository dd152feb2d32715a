-- The side by the sign of the area.
use mathlib.Core.Path.{sym, ap, ap₂}
use mathlib.Core.Bool.{false}
use lib.IntN.{pos}
use lib.Ieee.{fin, of_bits, lt}
use Rattle.ring_tally.specs.Sides.{side_where}
use Rattle.ring_tally.proofs.side.side_of.Goals as goal

pub returns-then-area : goal.returns-then-area
unfolding of_bits
returns-then-area c = let a = c.args.area in sym (ap (λ t. side_where t (lt a (fin false 0 (pos 0))) a) c.if-area.true)

pub returns-then-area-2 : goal.returns-then-area-2
unfolding of_bits
returns-then-area-2 c = let a = c.args.area in sym (ap₂ (λ t u. side_where t u a) c.if-area.false c.if-area-2.true)

pub returns-else-area-2 : goal.returns-else-area-2
unfolding of_bits
returns-else-area-2 c = let a = c.args.area in sym (ap₂ (λ t u. side_where t u a) c.if-area.false c.if-area-2.false)
