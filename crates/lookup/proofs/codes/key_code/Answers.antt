-- `lookup::codes::key_code` meets its contract.
use mathlib.Core.Path.{refl}
use Rattle.lookup.specs.Codes.{key_code_lem}
use Rattle.lookup.proofs.codes.key_code.Goals as goal

pub returns : goal.returns
unfolding key_code_lem
returns c = refl
