-- What taking leaves: a graph that can be added to again, and how far it came. An empty graph can be added to, whatever the tables hold.
use Prim.Native.Nat.{ℕ, zero, suc, ◌+◌, ◌<◌, ◌≤◌}
use native.Mathlib.Omega.{arith}
use mathlib.Core.Path.{◌≡◌, refl, sym, ap, subst, ◌∙◌}
use mathlib.Core.Bool.{true}
use mathlib.Core.List.{List}
use lib.ListN.{length, drop, length-drop}
use lib.Seq.{drop-drop}
use Rattle.geometry.specs.Reply.{Reply, refused, success}
use Rattle.lists.proofs.Counts.{by_lt, by_eq, true_is_false}
use Rattle.rules.specs.Limits.{Limits, limits}
use Rattle.rules.specs.State.{State, roomy, sound}
use Rattle.rules.specs.Adding.{Nothing}
use Rattle.file_rules.specs.Records.{wrong, end, field}
use Rattle.file_rules.specs.SegmentFile.{segment_next}
use Rattle.rules.specs.Stages.{created}
use Rattle.adding.specs.Outcomes.{Ready}
use Rattle.segment_file.proofs.Found.{segment-none, segment-short}
use Rattle.taking.specs.Taking.{Rest, onward, ended, take_record_lem, Taking, halted, behind, follow, take_on, take_file_lem, waits}
use Rattle.taking.proofs.Records.{record_ready, Further, record_further, Final, record_final, never}
use Rattle.taking.proofs.Turns.{file-step, file_halts}

-- ---- the start

-- a graph with no node and no edge is sound
created-sound : (s : State) → sound limits (created s) ≡ true
unfolding sound
created-sound s = refl

-- where the tables are long enough, an empty graph over them is ready
pub created_ready : (s : State) → roomy limits (created s) ≡ true → Ready limits (created s)
created_ready s room = record { room = room; sense = created-sound s; stage = refl }

-- ---- the state after records

follow_ready : (r : Rest) (s : State) (more : ℕ → State → Taking) → Ready limits s → ((size : ℕ) → Ready limits (more size s).state) → Ready limits (follow r s more).state
follow_ready (onward size) s more ready next = next size
follow_ready (ended r) s more ready next = ready

on_ready : (fuel : ℕ) (bytes : List ℕ) (s : State) → Ready limits s → Ready limits (take_on limits fuel bytes s).state
unfolding take_on
on_ready zero bytes s ready = ready
on_ready (suc fuel) bytes s ready =
    let t = take_record_lem limits (segment_next bytes) s in
    let left = record_ready (segment_next bytes) s ready in
    follow_ready t.rest t.state _ left (λ size. on_ready fuel (drop size bytes) t.state left)

-- taking leaves a graph that can be added to again, refused or not
pub file_ready : (bytes : List ℕ) (s : State) → Ready limits s → Ready limits (take_file_lem limits bytes s).state
file_ready bytes s ready = on_ready (suc (length bytes)) bytes s ready

-- ---- how far it came

-- the records taken stand within the bytes, and each has some
pub record Reached (bytes : List ℕ) (t : Taking) : Type 0 where
  pub within : t.bytes ≤ length bytes
  pub counted : t.count ≤ t.bytes

follow-reached : (bytes : List ℕ) (r : Rest) (s : State) (more : ℕ → State → Taking) → Further bytes r → ((size : ℕ) → Reached (drop size bytes) (more size s)) → Reached bytes (follow r s more)
follow-reached bytes (onward size) s more h next =
    let n = next size in
    record { within = omega (arith, n.within, h.1, length-drop size bytes); counted = omega (arith, n.counted, h.0) }
follow-reached bytes (ended r) s more h next = record { within = omega arith; counted = omega arith }

on_reached : (l : Limits) (fuel : ℕ) (bytes : List ℕ) (s : State) → Reached bytes (take_on l fuel bytes s)
unfolding take_on
on_reached l zero bytes s = record { within = omega arith; counted = omega arith }
on_reached l (suc fuel) bytes s =
    let t = take_record_lem l (segment_next bytes) s in
    follow-reached bytes t.rest t.state _ (record_further l bytes s) (λ size. on_reached l fuel (drop size bytes) t.state)

pub file-reached : (l : Limits) (bytes : List ℕ) (s : State) → Reached bytes (take_file_lem l bytes s)
file-reached l bytes s = on_reached l (suc (length bytes)) bytes s

-- ---- what is left behind the records taken

-- where more bytes are waited for, no whole record is left, and at a success nothing is
pub record Rested (bytes : List ℕ) (t : Taking) : Type 0 where
  pub short : waits t.reply ≡ true → (let rest = drop t.bytes bytes in length rest < 4 + field rest 0 4)
  pub none : (a : Nothing) → t.reply ≡ success a → t.bytes ≡ length bytes

-- one record in front
one_rested : (bytes : List ℕ) (size : ℕ) (t : Taking) → size ≤ length bytes → Rested (drop size bytes) t → Rested bytes (behind 1 size t)
one_rested bytes size t h r = record {
  short = λ w. subst (λ z. length z < 4 + field z 0 4) (drop-drop t.bytes size bytes) (r.short w);
  none = λ a e. omega (arith, r.none a e, length-drop size bytes);
}

-- a whole record, or bytes too few for one
follow_rested : (bytes : List ℕ) (r : Rest) (s : State) (more : ℕ → State → Taking) → Further bytes r → Final r → ((size : ℕ) → 6 ≤ size → size ≤ length bytes → Rested (drop size bytes) (more size s)) → Rested bytes (follow r s more)
follow_rested bytes (onward size) s more h f next = one_rested bytes size (more size s) h.1 (next size h.0 h.1)
follow_rested bytes (ended r) s more h f next = record { short = λ w. absurd (true_is_false (sym w ∙ f)); none = λ a e. absurd (true_is_false (sym (ap waits e) ∙ f)) }

few_rested : (bytes : List ℕ) (s : State) (r : Reply Nothing) → length bytes < 4 + field bytes 0 4 → ((a : Nothing) → r ≡ success a → length bytes ≡ 0) → Rested bytes (halted r s)
few_rested bytes s r few none = record { short = λ w. few; none = λ a e. sym (none a e) }

rested_on : (l : Limits) (n : ℕ) (bytes : List ℕ) (s : State) → length bytes < n → Rested bytes (take_file_lem l bytes s)
rested_on l zero bytes s h = absurd (omega arith)
rested_on l (suc n) bytes s h =
    by_lt (length bytes) (4 + field bytes 0 4)
    (λ few. by_eq (length bytes) 0
    (λ none. subst (Rested bytes) (sym (file_halts l bytes s end (success (record {})) (segment-none bytes none) refl)) (few_rested bytes s (success (record {})) few (λ a e. none)))
    (λ any. subst (Rested bytes) (sym (file_halts l bytes s (wrong 9) (refused 9) (segment-short bytes (omega arith) few) refl)) (few_rested bytes s (refused 9) few (λ a e. absurd (never (sym e))))))
    (λ there.
    let t = take_record_lem l (segment_next bytes) s in
    subst (Rested bytes) (sym (file-step l bytes s))
    (follow_rested bytes t.rest t.state _ (record_further l bytes s) (record_final l bytes s there)
    (λ size k m. rested_on l n (drop size bytes) t.state (omega (arith, length-drop size bytes)))))

pub file_rested : (l : Limits) (bytes : List ℕ) (s : State) → Rested bytes (take_file_lem l bytes s)
file_rested l bytes s = rested_on l (suc (length bytes)) bytes s (omega arith)
