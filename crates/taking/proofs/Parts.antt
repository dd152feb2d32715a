-- Parts of a file: taking a part, and then what it left together with more bytes, comes to taking all of them.
use Prim.Native.Nat.{ℕ, zero, suc, ◌+◌, ◌<◌, ◌≤◌}
use native.Mathlib.Omega.{arith}
use mathlib.Core.Path.{◌≡◌, refl, sym, ap, ◌∙◌}
use mathlib.Core.Bool.{Bool, true, false, cond}
use mathlib.Core.List.{List, ◌++◌}
use lib.ListN.{length, drop, length-drop}
use lib.Seq.{drop-append-le, drop-drop}
use Rattle.geometry.specs.Reply.{Reply, refused, success}
use Rattle.lists.proofs.Counts.{by_lt, by_eq}
use Rattle.rules.specs.Limits.{Limits}
use Rattle.rules.specs.State.{State}
use Rattle.rules.specs.Adding.{Nothing}
use Rattle.file_rules.specs.Records.{wrong, end, field}
use Rattle.file_rules.specs.SegmentFile.{segment_next}
use Rattle.segment_file.proofs.Found.{segment-none, segment-short, segment_more}
use Rattle.taking.specs.Taking.{Rest, onward, ended, take_record_lem, Taking, halted, behind, follow, take_file_lem, waits, resumed}
use Rattle.taking.proofs.Records.{Further, record_further, Final, record_final}
use Rattle.taking.proofs.Turns.{file-step, file_halts, behind-none, behind_more}

module _ (l : Limits) (b : List ℕ) where
  -- what a part comes to with the bytes b behind it
  abbrev joined : List ℕ → Taking → Taking
  joined a t = resumed t (λ u. take_file_lem l (drop t.bytes a ++ b) u)

  -- bytes that end where a record could begin, or inside one
  halted-joined : (a : List ℕ) (s : State) (r : Reply Nothing) → waits r ≡ true → take_file_lem l (a ++ b) s ≡ joined a (halted r s)
  halted-joined a s r w = sym (behind-none (take_file_lem l (a ++ b) s)) ∙ sym (ap (λ t. cond t (behind 0 0 (take_file_lem l (a ++ b) s)) (halted r s)) w)

  -- one record in front of a part
  one-joined : (a : List ℕ) (size : ℕ) (t : Taking) → behind 1 size (joined (drop size a) t) ≡ joined a (behind 1 size t)
  one-joined a size t = go (waits t.reply)
    where
      go : (w : Bool) → behind 1 size (cond w (behind t.count t.bytes (take_file_lem l (drop t.bytes (drop size a) ++ b) t.state)) t)
          ≡ cond w (behind (1 + t.count) (size + t.bytes) (take_file_lem l (drop (size + t.bytes) a ++ b) t.state)) (behind 1 size t)
      go true =
          sym (behind_more 1 t.count size t.bytes _)
          ∙ ap (λ z. behind (1 + t.count) (size + t.bytes) (take_file_lem l (z ++ b) t.state)) (drop-drop t.bytes size a)
      go false = refl

  -- a record that is there to its end
  rest-joined : (a : List ℕ) (r : Rest) (s : State) → Further a r → Final r
      → ((size : ℕ) → 6 ≤ size → size ≤ length a → take_file_lem l (drop size a ++ b) s ≡ joined (drop size a) (take_file_lem l (drop size a) s))
      → follow r s (λ size u. take_file_lem l (drop size (a ++ b)) u) ≡ joined a (follow r s (λ size u. take_file_lem l (drop size a) u))
  rest-joined a (onward size) s h f more =
      ap (λ z. behind 1 size (take_file_lem l z s)) (drop-append-le size a b h.1)
      ∙ ap (behind 1 size) (more size h.0 h.1)
      ∙ one-joined a size (take_file_lem l (drop size a) s)
  rest-joined a (ended r) s h f more = sym (ap (λ w. cond w (behind 0 0 (take_file_lem l (a ++ b) s)) (halted r s)) f)

  whole_joined : (a : List ℕ) (s : State) → 4 + field a 0 4 ≤ length a
      → ((size : ℕ) (u : State) → 6 ≤ size → size ≤ length a → take_file_lem l (drop size a ++ b) u ≡ joined (drop size a) (take_file_lem l (drop size a) u))
      → take_file_lem l (a ++ b) s ≡ joined a (take_file_lem l a s)
  whole_joined a s there more =
      let t = take_record_lem l (segment_next a) s in
      file-step l (a ++ b) s
      ∙ ap (λ f. let u = take_record_lem l f s in follow u.rest u.state (λ size v. take_file_lem l (drop size (a ++ b)) v)) (segment_more a there b)
      ∙ rest-joined a t.rest t.state (record_further l a s) (record_final l a s there) (λ size h k. more size t.state h k)
      ∙ ap (joined a) (sym (file-step l a s))

  -- bytes too few for a record
  few-joined : (a : List ℕ) (s : State) (r : Reply Nothing) → take_file_lem l a s ≡ halted r s → waits r ≡ true → take_file_lem l (a ++ b) s ≡ joined a (take_file_lem l a s)
  few-joined a s r e w = halted-joined a s r w ∙ ap (joined a) (sym e)

  joined_on : (n : ℕ) (a : List ℕ) (s : State) → length a < n → take_file_lem l (a ++ b) s ≡ joined a (take_file_lem l a s)
  joined_on zero a s h = absurd (omega arith)
  joined_on (suc n) a s h =
      by_lt (length a) (4 + field a 0 4)
      (λ few. by_eq (length a) 0 (λ none. few-joined a s (success (record {})) (file_halts l a s end (success (record {})) (segment-none a none) refl) refl)
      (λ any. few-joined a s (refused 9) (file_halts l a s (wrong 9) (refused 9) (segment-short a (omega arith) few) refl) refl))
      (λ there. whole_joined a s there (λ size u k m. joined_on n (drop size a) u (omega (arith, length-drop size a))))

  -- PARTS DO NOT MATTER: a part, and then what it left with the bytes behind it, come to the whole; what is refused for good stays so
  pub in_parts : (a : List ℕ) (s : State) → take_file_lem l (a ++ b) s ≡ resumed (take_file_lem l a s) (λ u. take_file_lem l (drop (take_file_lem l a s).bytes a ++ b) u)
  in_parts a s = joined_on (suc (length a)) a s (omega arith)
