-- A file is its segments added one after another: what `take_file_lem` leaves is what `filed` leaves, and of the records that it counts as many are
-- segments as `filed` accepts.
use Prim.Native.Nat.{ℕ, zero, suc, ◌+◌}
use native.Mathlib.Omega.{arith}
use mathlib.Core.Path.{◌≡◌, refl, sym, ap, subst, ◌∙◌}
use mathlib.Core.Bool.{true}
use mathlib.Core.List.{List, []}
use lib.ListN.{length, drop}
use Rattle.geometry.specs.Reply.{Reply, refused, success}
use Rattle.geometry.specs.declared.Line3D.{Line3D}
use Rattle.rules.specs.Limits.{Limits}
use Rattle.rules.specs.State.{State}
use Rattle.rules.specs.Adding.{Nothing, Added, add}
use Rattle.file_rules.specs.Records.{Found, taken, passed, wrong, end, Reading, read_on, read_file}
use Rattle.file_rules.specs.Records as records
use Rattle.file_rules.specs.SegmentFile.{segment_next}
use Rattle.rules.specs.Filing.{Filed, or_filed, filed, file_segments, segments_among}
use Rattle.rules.specs.Claim.{is_refused, call}
use Rattle.rules.specs.Sketch.{adding}
use Rattle.rules.proofs.Filing.{filed-none, filed-one}
use Rattle.rules.proofs.Refused.{refused-same}
use Rattle.taking.specs.Taking.{after_adding_lem, take_record_lem, Taking, halted, follow, take_on, take_file_lem}

-- a refused addition leaves the state as it was
add-keeps : (l : Limits) (g : Line3D) (s : State) → is_refused (add l g s).reply ≡ true → (add l g s).state ≡ s
unfolding call
add-keeps l g s e = refused-same l s (adding g) e

-- taking left what adding the segments left, and of the records that it counts as many are segments as were accepted
record Same (among : ℕ → ℕ) (t : Taking) (f : Filed) : Type 0 where
  state : t.state ≡ f.state
  accepted : f.accepted ≡ among t.count

-- ---- one record, and what follows it

-- how many segments stand among the first k records, by what the first is and what is read behind it
abbrev among : Found Line3D → (ℕ → ℕ → Reading Line3D) → ℕ → ℕ
among f rest zero = 0
among f rest (suc k) = length (records.onward f (λ size. rest size k)).holds

module _ (l : Limits) (s : State) (more : ℕ → State → Taking) (rest : ℕ → ℕ → Reading Line3D) (all : ℕ → Reading Line3D)
    (same : (size : ℕ) (u : State) → Same (λ k. length (rest size k).holds) (more size u) (filed l (all size).holds u)) where
  -- no segment
  same_none : (r : Reply Nothing) (f : Found Line3D) → Same (among f rest) (halted r s) (filed l [] s)
  same_none r f = subst (Same (among f rest) (halted r s)) (sym (filed-none l s)) (record { state = refl; accepted = refl })

  -- by an addition's reply, and the state that it left
  same-added : (g : Line3D) (size : ℕ) (r : Reply Added) (u : State) → (is_refused r ≡ true → u ≡ s)
      → Same (among (taken g size) rest) (follow (after_adding_lem r size) u more) (or_filed r g s (filed l (all size).holds u))
  same-added g size (refused n) u keeps = record { state = keeps refl; accepted = refl }
  same-added g size (success a) u keeps =
      let e = same size u in
      let c : suc (more size u).count ≡ 1 + (more size u).count = omega arith in
      record { state = e.state; accepted = ap suc e.accepted ∙ ap (among (taken g size) rest) c }

  same-found : (f : Found Line3D) → (let t = take_record_lem l f s in Same (among f rest) (follow t.rest t.state more) (filed l (records.onward f all).holds s))
  same-found (taken g size) =
      let o = add l g s in
      subst (Same (among (taken g size) rest) (follow (after_adding_lem o.reply size) o.state more)) (sym (filed-one l g (all size).holds s))
      (same-added g size o.reply o.state (add-keeps l g s))
  same-found (passed size) =
      let e = same size s in
      let c : suc (more size s).count ≡ 1 + (more size s).count = omega arith in
      record { state = e.state; accepted = e.accepted ∙ ap (among (passed size) rest) c }
  same-found (wrong n) = same_none (refused n) (wrong n)
  same-found end = same_none (success (record {})) end

-- ---- records one after another

-- that is how many there are among a file's
among_file : (bytes : List ℕ) (k : ℕ) → among (segment_next bytes) (λ size k. read_on segment_next k (drop size bytes)) k ≡ segments_among bytes k
among_file bytes zero = refl
among_file bytes (suc k) = refl

same_on : (l : Limits) (fuel : ℕ) (bytes : List ℕ) (s : State) → Same (segments_among bytes) (take_on l fuel bytes s) (filed l (read_on segment_next fuel bytes).holds s)
unfolding take_on
same_on l zero bytes s = subst (Same (segments_among bytes) (halted (success (record {})) s)) (sym (filed-none l s)) (record { state = refl; accepted = refl })
same_on l (suc fuel) bytes s =
    let e = same-found l s (λ size u. take_on l fuel (drop size bytes) u) (λ size k. read_on segment_next k (drop size bytes)) (λ size. read_on segment_next fuel (drop size bytes))
    (λ size u. same_on l fuel (drop size bytes) u) (segment_next bytes) in
    record { state = e.state; accepted = e.accepted ∙ among_file bytes (take_on l (suc fuel) bytes s).count }

-- WHAT A FILE LEAVES, and how many of the records that it counts are segments
pub file-filed : (l : Limits) (bytes : List ℕ) (s : State)
    → (let t = take_file_lem l bytes s in let f = filed l (file_segments bytes) s in (t.state ≡ f.state) × (f.accepted ≡ segments_among bytes t.count))
unfolding read_file
file-filed l bytes s = let e = same_on l (suc (length bytes)) bytes s in (e.state, e.accepted)
