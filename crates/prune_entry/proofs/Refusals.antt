-- Demand 1 of pruning: a refusal changes nothing lent.
use Prim.Native.Nat.{ℕ}
use mathlib.Core.Path.{refl}
use mathlib.Core.List.{List}
use lib.Dec.{leb}
use lib.ListN.{length}
use Rattle.rules.specs.Limits.{Limits}
use Rattle.rules.specs.State.{State}
use Rattle.rules.specs.Stages.{prune_step}
use Rattle.calls.proofs.Refusals.{Keeps, success-keeps, demand-keeps, step_keeps}

pub prune-keeps : (l : Limits) (s : State) (out : List ℕ) → Keeps s out (prune_step l s out)
unfolding prune_step
prune-keeps l s out = step_keeps s out l 1 _ (demand-keeps s out (leb s.edges (length out)) 8 _ (success-keeps s out _ _ refl))
