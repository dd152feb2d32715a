-- The row of a ring is written by its tally.
use mathlib.Core.Path.{◌≡◌, ap, ◌∙◌}
use mathlib.Core.Bool.{false}
use lib.IntN.{negsuc}
use lib.Ieee.{fin, of_bits, binary64, mul}
use lib.ListN.{set}
use Rattle.rules.specs.Ringing.{side_number_lem, side_area_lem}
use Rattle.ring_tally.specs.Sides.{side_of, sign_side}
use Rattle.rings.proofs.walk.write_row.Goals as goal

pub returns : goal.returns
unfolding of_bits
returns c =
    let a = c.args in
    let side = c.side_of-side.ensures in
    let at = c.from-ring.ensures in
    let number : c.side_number.result ≡ side_number_lem (side_of (sign_side (mul binary64 a.tally.sum (fin false 1 (negsuc 0))))) = c.side_number.ensures ∙ ap (λ z. side_number_lem (side_of z)) side in
    let area : c.side_area.result ≡ side_area_lem (side_of (sign_side (mul binary64 a.tally.sum (fin false 1 (negsuc 0))))) = c.side_area.ensures ∙ ap (λ z. side_area_lem (side_of z)) side in
    λ i. record {
      first = set a.ring_first.now (at i) a.first;
      size = set a.ring_length.now (at i) a.tally.count;
      side = set a.ring_side.now (at i) (number i);
      area = set a.ring_area.now (at i) (area i);
    }
