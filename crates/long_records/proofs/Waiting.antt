-- Where more bytes may follow, what stands behind the records taken is a record that is not there to its end, or nothing.
use Prim.Native.Nat.{ℕ, zero, suc, ◌+◌, ◌<◌, ◌≤◌}
use native.Mathlib.Omega.{arith}
use mathlib.Core.Path.{◌≡◌, sym, ap, subst, ◌∙◌}
use mathlib.Core.Bool.{true, false, ◌&&◌}
use mathlib.Core.List.{List}
use lib.Dec.{ltb}
use lib.ListN.{length, drop, length-drop}
use lib.Seq.{drop-drop}
use borrow.Author.Tests.{ltb-false, le-leb}
use Rattle.lists.proofs.Counts.{by_lt, by_eq, true_is_false}
use Rattle.geometry.specs.declared.Line3D.{Line3D}
use Rattle.rules.specs.Limits.{limits}
use Rattle.rules.specs.State.{State}
use Rattle.file_rules.specs.Records.{Found, field}
use Rattle.file_rules.specs.SegmentFile.{segment_next}
use Rattle.segment_file.proofs.Found.{segment-none, segment-short}
use Rattle.taking.specs.Taking.{Rest, onward, ended, take_record_lem, Taking, follow, take_file_lem, waits}
use Rattle.taking.proofs.Records.{Further, record_further, Final, record_final}
use Rattle.taking.proofs.Turns.{file-step}
use Rattle.long_records.specs.Turns.{buffer_bytes, is_long_lem}

-- fewer bytes than the record has, or than a length has
abbrev pub Short : List ℕ → Type 0
Short p = length p < 4 + field p 0 4

-- a file by what its first bytes are found to be
pub by_found : (a : List ℕ) (f : Found Line3D) → f ≡ segment_next a → (s : State)
    → (let u = take_record_lem limits f s in follow u.rest u.state (λ size v. take_file_lem limits (drop size a) v)) ≡ take_file_lem limits a s
by_found a f e s =
    ap (λ z. let u = take_record_lem limits z s in follow u.rest u.state (λ size v. take_file_lem limits (drop size a) v)) e
    ∙ sym (file-step limits a s)

-- nothing is taken of such bytes
short-takes : (a : List ℕ) (s : State) → Short a → 0 ≡ (take_file_lem limits a s).bytes
short-takes a s few =
    by_eq (length a) 0
    (λ none. ap (λ t. t.bytes) (by_found a _ (segment-none a none) s))
    (λ any. ap (λ t. t.bytes) (by_found a _ (segment-short a (omega arith) few) s))

-- behind a whole record
rest-left : (a : List ℕ) (r : Rest) (s : State) → Further a r → Final r
    → ((size : ℕ) → 6 ≤ size → size ≤ length a → waits (take_file_lem limits (drop size a) s).reply ≡ true → Short (drop (take_file_lem limits (drop size a) s).bytes (drop size a)))
    → (let t = follow r s (λ size u. take_file_lem limits (drop size a) u) in waits t.reply ≡ true → Short (drop t.bytes a))
rest-left a (onward size) s h f more w = subst Short (drop-drop (take_file_lem limits (drop size a) s).bytes size a) (more size h.0 h.1 w)
rest-left a (ended r) s h f more w = absurd (true_is_false (sym w ∙ f))

left_on : (n : ℕ) (a : List ℕ) (s : State) → length a < n → waits (take_file_lem limits a s).reply ≡ true → Short (drop (take_file_lem limits a s).bytes a)
left_on zero a s h w = absurd (omega arith)
left_on (suc n) a s h w =
    by_lt (length a) (4 + field a 0 4)
    (λ few. subst (λ k. Short (drop k a)) (short-takes a s few) few)
    (λ there.
    let t = take_record_lem limits (segment_next a) s in
    let e = file-step limits a s in
    subst (λ (u : Taking). Short (drop u.bytes a)) (sym e)
    (rest-left a t.rest t.state (record_further limits a s) (record_final limits a s there)
    (λ size k m. left_on n (drop size a) t.state (omega (arith, length-drop size a)))
    (ap (λ u. waits u.reply) (sym e) ∙ w)))

pub left-short : (a : List ℕ) (s : State) → waits (take_file_lem limits a s).reply ≡ true → Short (drop (take_file_lem limits a s).bytes a)
left-short a s w = left_on (suc (length a)) a s (omega arith) w

-- a record that is not there to its end and can fit leaves room for a read
pub short-fits : (p : List ℕ) → Short p → is_long_lem p ≡ false → length p < buffer_bytes
short-fits p short fits =
    by_lt (length p) 6 (λ few. omega arith)
    (λ head.
    let small = ltb-false buffer_bytes (4 + field p 0 4) (ap (λ b. b && ltb buffer_bytes (4 + field p 0 4)) (sym (le-leb 6 (length p) head)) ∙ fits) in
    omega (arith, small))
