-- Demand 1: a refusal changes nothing lent. A bad record is no refusal of the call; the records before it stay.
use Prim.Native.Nat.{ℕ}
use mathlib.Core.Path.{refl}
use mathlib.Core.List.{List}
use Rattle.rules.specs.Limits.{Limits}
use Rattle.rules.specs.State.{State}
use Rattle.calls.proofs.Refusals.{Keeps, success-keeps, step_keeps}
use Rattle.file_taking.specs.FileAdding.{add_records_lem}

pub records-keeps : (l : Limits) (bytes : List ℕ) (s : State) → Keeps s (record {}) (add_records_lem l bytes s)
unfolding add_records_lem
records-keeps l bytes s = step_keeps s (record {}) l 0 _ (success-keeps s (record {}) _ _ refl)
