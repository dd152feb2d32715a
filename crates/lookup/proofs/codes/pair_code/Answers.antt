-- `lookup::codes::pair_code` meets its contract.
use mathlib.Core.Path.{refl}
use Rattle.lookup.specs.Codes.{pair_code_lem}
use Rattle.lookup.proofs.codes.pair_code.Goals as goal

pub returns : goal.returns
unfolding pair_code_lem
returns c = refl
