-- `float_of` meets its contract at every pattern: 0.0 / 0.0 is the one NaN of the definition.
use mathlib.Core.Path.{◌≡◌, refl, ◌∙◌}
use lib.Ieee.{nan, binary64, of_bits, div}
use Rattle.segment_file.proofs.Patterns.{above_infinity, no_nan_pattern}
use Rattle.segment_file.proofs.float_of.Goals as goal

quotient : div binary64 (of_bits binary64 0) (of_bits binary64 0) ≡ nan
unfolding div of_bits
quotient = refl

pub returns-then-nan_pattern : goal.returns-then-nan_pattern
returns-then-nan_pattern c = quotient ∙ above_infinity c.args.bits c.if-nan_pattern.true

pub float_from_bits-result : goal.float_from_bits-result
float_from_bits-result c = no_nan_pattern c.args.bits c.if-nan_pattern.false
