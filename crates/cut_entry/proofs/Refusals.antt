-- Demand 1 of cutting: a refusal changes nothing lent.
use Prim.Native.Nat.{ℕ}
use mathlib.Core.Path.{refl}
use mathlib.Core.List.{List}
use lib.Dec.{leb}
use lib.ListN.{length}
use Rattle.rules.specs.Limits.{Limits}
use Rattle.rules.specs.State.{State}
use Rattle.rules.specs.Stages.{cut_step}
use Rattle.calls.proofs.Refusals.{Keeps, success-keeps, demand-keeps, step_keeps}

pub cut_keeps : (l : Limits) (s : State) (out : List ℕ) → Keeps s out (cut_step l s out)
unfolding cut_step
cut_keeps l s out = step_keeps s out l 2 _ (demand-keeps s out (leb s.edges (length out)) 8 _ (success-keeps s out _ _ refl))
