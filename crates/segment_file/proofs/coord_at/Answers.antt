-- `coord_at` meets its contract: each float is that of its eight bytes.
use mathlib.Core.Path.{ap, ◌∙◌}
use lib.Ieee.{binary64, of_bits}
use Rattle.segment_file.proofs.coord_at.Goals as goal

pub returns : goal.returns
returns c =
    let ex = c.float_of.ensures ∙ ap (of_bits binary64) c.le64.ensures in
    let ey = c.float_of-2.ensures ∙ ap (of_bits binary64) c.le64-2.ensures in
    let ez = c.float_of-3.ensures ∙ ap (of_bits binary64) c.le64-3.ensures in
    λ i. record { x = ex i; y = ey i; z = ez i }
