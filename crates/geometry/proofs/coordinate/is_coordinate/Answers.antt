-- `is_coordinate` meets its contract: its tests are the rule of number 1.
-- Assumes nothing.
use lib.Ieee.{of_bits, neg}
use Rattle.geometry.proofs.Shifted.{tests_are}
use Rattle.geometry.proofs.coordinate.is_coordinate.Goals as goal

pub returns : goal.returns
unfolding of_bits neg
returns c = tests_are c.args.x
