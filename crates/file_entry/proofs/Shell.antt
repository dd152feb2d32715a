-- The tests of the entry: the first that fails gives its refusal and leaves everything, and where all pass the file is taken.
use Prim.Native.Nat.{ℕ}
use mathlib.Core.Path.{◌≡◌}
use mathlib.Core.List.{List}
use Rattle.rules.specs.Limits.{Limits}
use Rattle.rules.specs.State.{State}
use Rattle.tables.specs.declared.Refusal.{Refusal}
use Rattle.calls.specs.Checks.{stage_check, due}
use Rattle.calls.proofs.Shells.{turned_down_lem, Good, step_stops, step-passes}
use Rattle.taking.specs.Taking.{take_file_lem}
use Rattle.file_taking.specs.FileAdding.{records_taken, add_records_lem}

module _ (l : Limits) (bytes : List ℕ) (s : State) where
  pub records_stop : (why : Refusal) → due why ≡ stage_check l 0 s → turned_down_lem why s (record {}) ≡ add_records_lem l bytes s
  unfolding add_records_lem
  records_stop why e = step_stops l 0 s (record {}) _ why e

  pub records_pass : Good l s → s.stage ≡ 0 → records_taken (take_file_lem l bytes s) ≡ add_records_lem l bytes s
  unfolding add_records_lem
  records_pass g t = step-passes l 0 s (record {}) _ g t
