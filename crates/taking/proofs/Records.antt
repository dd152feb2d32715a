-- One record: what follows it is there, it leaves a state that can be added to again, and a whole record never waits for more bytes.
use Prim.Native.Nat.{ℕ, ◌+◌, ◌*◌, ◌≤◌}
use native.Mathlib.Omega.{arith}
use mathlib.Core.Path.{◌≡◌, refl}
use mathlib.Core.Bool.{Bool, true, false, cond, ◌&&◌, ◌||◌, not}
use mathlib.Core.List.{List}
use borrow.Author.Tests.{ne_eqb}
use lib.Dec.{eqb, ltb, leb}
use lib.ListN.{length}
use Rattle.geometry.specs.Reply.{Reply, refused, success}
use Rattle.geometry.specs.declared.Line3D.{Line3D}
use Rattle.geometry.specs.Angle.{planar}
use Rattle.rotation.specs.Rotation.{key_same}
use Rattle.rules.specs.Keys.{key_of}
use Rattle.rules.specs.LineIds.{lowest_free}
use Rattle.rules.specs.Limits.{Limits, limits}
use Rattle.rules.specs.State.{State, roomy, sound}
use Rattle.rules.specs.Adding.{Outcome, demand, Nothing, Added, add}
use Rattle.file_rules.specs.Records.{Found, taken, passed, wrong, end, field}
use Rattle.file_rules.specs.SegmentFile.{segment_next}
use Rattle.rules.proofs.AddCases.{nu, nv, half, used, known}
use Rattle.adding.specs.Outcomes.{Ready}
use Rattle.adding.proofs.Carrying.{ready_again}
use Rattle.frames.proofs.FrameLaws.{Within}
use Rattle.segment_file.proofs.Found.{Settled, segment-within, segment_settled}
use Rattle.taking.specs.Taking.{Rest, onward, ended, after_adding_lem, take_record_lem, waits}

-- a record, whatever it holds, leaves the graph ready for the next
pub record_ready : (f : Found Line3D) (s : State) → Ready limits s → Ready limits (take_record_lem limits f s).state
record_ready (taken line size) s ready = ready_again line s ready (add limits line s) refl
record_ready (passed size) s ready = ready
record_ready (wrong n) s ready = ready
record_ready end s ready = ready

-- ---- what follows a record

-- the next record stands further on, within the bytes
abbrev pub Further : List ℕ → Rest → Type 0
Further bytes (onward size) = (6 ≤ size) × (size ≤ length bytes)
Further bytes (ended r) = Unit {0}

further_added : (bytes : List ℕ) (r : Reply Added) (size : ℕ) → (6 ≤ size) × (size ≤ length bytes) → Further bytes (after_adding_lem r size)
further_added bytes (refused n) size h = tt
further_added bytes (success a) size h = h

further_found : (l : Limits) (bytes : List ℕ) (f : Found Line3D) (s : State) → Within bytes f → Further bytes (take_record_lem l f s).rest
further_found l bytes (taken line size) s h = further_added bytes (add l line s).reply size h
further_found l bytes (passed size) s h = h
further_found l bytes (wrong n) s h = tt
further_found l bytes end s h = tt

pub record_further : (l : Limits) (bytes : List ℕ) (s : State) → Further bytes (take_record_lem l (segment_next bytes) s).rest
record_further l bytes s = further_found l bytes (segment_next bytes) s (segment-within bytes)

-- ---- no addition answers 9

-- a reply that more bytes would not change
abbrev Firm : {A : Type 0} → Reply A → Type 0
Firm (refused n) = eqb n 9 ≡ false
Firm (success a) = Unit {0}

module _ (s : State) (none : Nothing) where
  firm-demand : (b : Bool) (n : ℕ) (o : Outcome Added Nothing) → eqb n 9 ≡ false → Firm o.reply → Firm (demand b n s none o).reply
  firm-demand true n o e p = p
  firm-demand false n o e p = e

firm_either : (b : Bool) (x y : Outcome Added Nothing) → Firm x.reply → Firm y.reply → Firm (cond b x y).reply
firm_either true x y p q = p
firm_either false x y p q = q

add-firm : (l : Limits) (g : Line3D) (s : State) → Firm (add l g s).reply
unfolding add
add-firm l g s =
    let n : Nothing = record {} in
    firm-demand s n (roomy l s) 6 _ refl
    (firm-demand s n (sound l s) 7 _ refl
    (firm-demand s n (eqb s.stage 0) 5 _ refl
    (firm-demand s n (planar l.bound g.start && planar l.bound g.end) 1 _ refl
    (firm-demand s n (not (key_same (key_of g.start.x g.start.y) (key_of g.end.x g.end.y))) 2 _ refl
    (firm_either (ltb (half g s) (2 * s.edges)) _ _
    (firm-demand s n (known l g s || ltb (lowest_free (used l g s)) l.pairs) 12 _ refl tt)
    (firm-demand s n (leb (s.nodes + (cond (nu g s) 1 0 + cond (nv g s) 1 0)) l.nodes) 3 _ refl
    (firm-demand s n (ltb s.edges l.edges) 4 _ refl
    (firm-demand s n (ltb (lowest_free (used l g s)) l.pairs) 12 _ refl tt))))))))

-- ---- a whole record never waits

-- it goes on, or it ended for good
abbrev pub Final : Rest → Type 0
Final (onward size) = Unit {0}
Final (ended r) = waits r ≡ false

final_added : (r : Reply Added) (size : ℕ) → Firm r → Final (after_adding_lem r size)
final_added (refused n) size e = e
final_added (success a) size e = tt

final_found : (l : Limits) (f : Found Line3D) (s : State) → Settled f → Final (take_record_lem l f s).rest
final_found l (taken line size) s h = final_added (add l line s).reply size (add-firm l line s)
final_found l (passed size) s h = tt
final_found l (wrong n) s h = ne_eqb n 9 h
final_found l end s h = absurd h

pub record_final : (l : Limits) (bytes : List ℕ) (s : State) → 4 + field bytes 0 4 ≤ length bytes → Final (take_record_lem l (segment_next bytes) s).rest
record_final l bytes s there = final_found l (segment_next bytes) s (segment_settled bytes there)

-- a success is no refusal
pub never : {A : Type 0} {a : A} {n : ℕ} → success a ≡ refused n → ⊥
never e = let z : ◌≡◌ {A = ℕ} 0 1 = cc in omega arith
