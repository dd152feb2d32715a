-- AN OLD STATION REFUSES A FILE OF SOUND SEGMENTS PAST ITS LIMITS BY 3 OR 4, UNLESS 12 COMES FIRST (document 02, §6).
use Prim.Native.Nat.{ℕ, ◌≤◌}
use native.Mathlib.Omega.{arith}
use mathlib.Core.Path.{◌≡◌, refl, sym, subst}
use mathlib.Core.Bool.{true}
use mathlib.Core.List.{List}
use lib.ListN.{drop}
use Rattle.rules.specs.Limits.{Limits, Fine, limits}
use Rattle.rules.specs.LineIds.{list_end}
use Rattle.rules.specs.State.{State, roomy}
use Rattle.rules.specs.Claim.{empty_sketch}
use Rattle.rules.proofs.Going.{new-stays}
use Rattle.rules.proofs.Histories.{start_together}
use Rattle.rules.proofs.NodeSound.{Steady}
use Rattle.taking.specs.Taking.{Taking, take_file_lem}
use Rattle.older_station.specs.Wider.{Wider, older_limits}
use Rattle.older_station.specs.Drawing.{drawn_by, drawing}
use Rattle.older_station.specs.Older.{Older, OlderStation}
use Rattle.older_station.proofs.Widening.{widened, wider_is, roomy_less}
use Rattle.older_station.proofs.Growing.{grown_within, first_grown, file_grown}
use Rattle.older_station.proofs.Walks.{Walk}
use Rattle.older_station.proofs.Files.{Both, walk}
use Rattle.older_station.proofs.Endings.{ends-takes, ends-taken, ends-numbers, ends-three, ends-four, ends-twelve, ends-due, ends-past}

-- ---- from the walk over the file

module _ (old new : Limits) (bytes : List ℕ) (o n : Taking) where
  walk-older : Walk old (drawn_by bytes) (drawing bytes) (λ b u. take_file_lem new (drop b bytes) u) o n → Older old new bytes o n
  walk-older w =
      let at = drawn_by bytes in
      let all = drawing bytes in
      let e = w.ends in
      record {
        takes = ends-takes old at all o n e;
        taken = ends-taken old at all o n (λ c. file_grown c bytes empty_sketch) e;
        numbers = ends-numbers old at all o n e;
        before = λ k h. grown_within old (at k) (at o.count) (first_grown k o.count h bytes empty_sketch) w.before;
        three = ends-three old at all o n e;
        four = ends-four old at all o n e;
        twelve = ends-twelve old at all o n e;
        alike = w.alike;
        due = ends-due old at all o n (λ c. file_grown c bytes empty_sketch) (λ c d h. first_grown c d h bytes empty_sketch) e;
        past = ends-past old at all o n e;
      }

-- a new graph over tables that are long enough passes 6, 7 and 5
pub new_steady : (l : Limits) (s : State) → s.nodes ≡ 0 → s.edges ≡ 0 → s.stage ≡ 0 → roomy l s ≡ true → Steady l s
new_steady l s n e z r = let t = new-stays l s n e z r in record { room = t.room; sense = t.sense; young = z }

-- THE LAW
pub older_station_lem : (old new : Limits) → Wider old new → Fine old → old.pairs ≤ list_end → OlderStation old new
unfolding OlderStation
older_station_lem old new w fine small s n e z room bytes sound =
    let same = wider_is old new w in
    let wide = widened old new.nodes new.edges in
    let both : Both old new.nodes new.edges w.nodes w.edges fine small s empty_sketch = record {
      steady = new_steady old s n e z (roomy_less old new s w room);
      wide = new_steady wide s n e z (subst (λ l. roomy l s ≡ true) (sym same) room);
      together = start_together old fine s n e z;
    } in
    walk-older old new bytes (take_file_lem old bytes s) (take_file_lem new bytes s)
    (subst (λ l. Walk old (drawn_by bytes) (drawing bytes) (λ b u. take_file_lem l (drop b bytes) u) (take_file_lem old bytes s) (take_file_lem l bytes s)) same
    (walk old new.nodes new.edges w.nodes w.edges fine small bytes s empty_sketch sound both))

-- ---- this library beside the one before

-- the limits rose
pub limits_rose : Wider older_limits limits
limits_rose = record { nodes = omega arith; edges = omega arith; pairs = refl; bound = refl }

-- and were fine enough
pub fine_older : Fine older_limits
fine_older = record { keys = omega arith; areas = omega arith }

-- A STATION OF BEFORE, beside this library
pub station_before : OlderStation older_limits limits
station_before = older_station_lem older_limits limits limits_rose fine_older (omega arith)
