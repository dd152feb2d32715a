-- The call that adds a file's records answers, on a new graph, what the file's taking came to; so the law is one of the call.
use Prim.Native.Nat.{ℕ, ◌≤◌}
use native.Mathlib.Omega.{arith}
use mathlib.Core.Path.{◌≡◌, ◌∙◌}
use mathlib.Core.List.{List}
use lib.Dec.{eqb}
use borrow.Author.Tests.{eq-eqb}
use Rattle.rules.specs.Limits.{Limits, Fine, limits}
use Rattle.rules.specs.LineIds.{list_end}
use Rattle.rules.specs.State.{State, roomy, sound}
use Rattle.rules.specs.Adding.{Nothing}
use Rattle.rules.proofs.AddingSound.{steady_tests}
use Rattle.rules.proofs.Going.{demand-is}
use Rattle.rules.proofs.NodeSound.{Steady}
use Rattle.taking.specs.Taking.{take_file_lem}
use Rattle.file_taking.specs.FileAdding.{records_taken, add_records_lem}
use Rattle.older_station.specs.Wider.{Wider, older_limits}
use Rattle.older_station.specs.Older.{OlderStation}
use Rattle.older_station.specs.Entry.{OlderEntry}
use Rattle.older_station.proofs.Widening.{roomy_less}
use Rattle.older_station.proofs.Older.{new_steady, older_station_lem, limits_rose, fine_older}

-- a graph that passes 6, 7 and 5
steady_call : (l : Limits) (bytes : List ℕ) (s : State) → Steady l s → add_records_lem l bytes s ≡ records_taken (take_file_lem l bytes s)
unfolding add_records_lem
steady_call l bytes s t =
    let none : Nothing = record {} in
    let q = steady_tests l s t in
    demand-is (roomy l s) 6 s none _ q.0 ∙ demand-is (sound l s) 7 s none _ q.1 ∙ demand-is (eqb s.stage 0) 5 s none _ (eq-eqb s.stage 0 q.2)

-- THE LAW OF THE CALL
pub older_entry : (old new : Limits) → Wider old new → Fine old → old.pairs ≤ list_end → OlderEntry old new
unfolding OlderEntry OlderStation
older_entry old new w fine small s n e z room bytes sound = record {
  older = steady_call old bytes s (new_steady old s n e z (roomy_less old new s w room));
  newer = steady_call new bytes s (new_steady new s n e z room);
  law = older_station_lem old new w fine small s n e z room bytes sound;
}

-- a call of before, beside this library's
pub entry_before : OlderEntry older_limits limits
entry_before = older_entry older_limits limits limits_rose fine_older (omega arith)
