-- Demand 1 of ring extraction: a refusal changes nothing lent.
use Prim.Native.Nat.{◌*◌}
use mathlib.Core.Path.{refl}
use lib.Dec.{leb}
use lib.ListN.{length}
use Rattle.rules.specs.Limits.{Limits}
use Rattle.rules.specs.State.{State}
use Rattle.rules.specs.Ringing.{long_enough, ringed}
use Rattle.rules.specs.Extraction.{Lent, holes_in, extracted, extract}
use Rattle.calls.proofs.Refusals.{Keeps, success-keeps, demand-keeps, step_keeps}

pub extract-keeps : (l : Limits) (s : State) (out : Lent) → Keeps s out (extract l s out)
unfolding extract extracted ringed
extract-keeps l s out =
    step_keeps s out l 3 _
    (demand-keeps s out (long_enough (2 * s.edges) out.rings) 8 _
    (demand-keeps s out (leb (length (holes_in s)) (length out.holes)) 13 _ (success-keeps s out _ _ refl)))
