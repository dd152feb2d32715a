-- A record that is longer than the buffer: its length and kind stand in its first bytes, and whatever the others are, they decide.
use Prim.Native.Nat.{ℕ, ◌+◌, ◌-◌, ◌<◌, ◌≤◌}
use native.Mathlib.Omega.{arith}
use mathlib.Core.Path.{◌≡◌, refl, sym, ap, subst, ◌∙◌}
use mathlib.Core.Bool.{Bool, true, false, cond}
use mathlib.Core.List.{List, [], ◌++◌}
use lib.ListN.{length, take, drop, length-append, length-drop, drop_of_length-le}
use lib.Seq.{take-append-le, drop-append-le}
use borrow.Author.Tests.{eqb-true, eqb-false}
use Rattle.geometry.specs.Reply.{Reply, refused, success}
use Rattle.lists.proofs.Counts.{by_test, true_is_false}
use Rattle.lists.proofs.Tests.{both}
use Rattle.rules.specs.Limits.{limits}
use Rattle.rules.specs.State.{State}
use Rattle.rules.specs.Adding.{Nothing}
use Rattle.file_rules.specs.Records.{Found, taken, passed, wrong, end, little_endian, field, pick_found, wrong_length, known_kind, whole_frame_lem, frame}
use Rattle.frames.proofs.Cases.{frame_whole}
use Rattle.frames.proofs.FrameLaws.{Framed, frame-there}
use Rattle.segment_file.proofs.Found.{by_frame, other-there, segment-none, segment-short}
use Rattle.taking.specs.Taking.{Taking, halted, behind, take_file_lem, waits}
use Rattle.taking.specs.Answers.{reply_of}
use Rattle.buffered_input.specs.Reads.{is_open_lem, Dropped}
use Rattle.long_records.specs.declared.Turn.{Turn}
use Rattle.long_records.specs.Turns.{buffer_bytes, whole_reply, long_reply_lem, passed_count_lem, Turned}
use Rattle.long_records.proofs.Waiting.{by_found}

module _ (p came : List ℕ) (head : 6 ≤ length p) where
  -- the length and the kind are those of the first bytes
  same_length : field (p ++ came) 0 4 ≡ field p 0 4
  same_length = ap little_endian (take-append-le 4 p came (omega arith))

  same_kind : field (p ++ came) 4 2 ≡ field p 4 2
  same_kind =
      ap (λ z. little_endian (take 2 z)) (drop-append-le 4 p came (omega arith))
      ∙ ap little_endian (take-append-le 2 (drop 4 p) came (omega (arith, length-drop 4 p)))

  -- the input ended inside it
  pub long-cut : length p + length came < 4 + field p 0 4 → (s : State) → halted (refused 9) s ≡ take_file_lem limits (p ++ came) s
  long-cut h s =
      let size = length-append p came in
      by_found (p ++ came) (wrong 9) (segment-short (p ++ came) (omega (arith, size)) (omega (arith, size, same_length))) s

  module _ (long : buffer_bytes < 4 + field p 0 4) (there : length p + length came ≡ 4 + field p 0 4) where
    -- what a frame comes to: the answer, whether it counts, and that nothing is left behind a record that is passed over
    abbrev Told : Found ℕ → State → Taking → Type 0
    Told f s t =
        (record { reply = whole_reply f; count = passed_count_lem (whole_reply f); bytes = t.bytes; state = s } ≡ t) × (waits (whole_reply f) ≡ true → drop t.bytes (p ++ came) ≡ [])

    -- it is refused
    refused-told : (n : ℕ) → waits (refused n) ≡ false → wrong n ≡ frame (p ++ came) → (s : State) → Told (wrong n) s (take_file_lem limits (p ++ came) s)
    refused-told n firm e s =
        subst (Told (wrong n) s) (by_found (p ++ came) (wrong n) (by_frame (p ++ came) (wrong n) e) s) (refl, λ w. absurd (true_is_false (sym w ∙ firm)))

    -- it is passed over: it is too long for a segment, and nothing is left behind it
    passed-told : (kind : ℕ) → taken kind (4 + field p 0 4) ≡ frame (p ++ came) → (s : State) → Told (taken kind (4 + field p 0 4)) s (take_file_lem limits (p ++ came) s)
    passed-told kind e s =
        let size = 4 + field p 0 4 in
        let all : length (p ++ came) ≤ size = omega (arith, length-append p came) in
        let other : kind ≡ 1 → ⊥ = λ one. omega (arith, (subst (Framed (p ++ came)) (sym e) (frame-there (p ++ came))).2 one) in
        let rest : halted (success (record {})) s ≡ take_file_lem limits (drop size (p ++ came)) s =
        by_found [] end (segment-none [] refl) s ∙ ap (λ z. take_file_lem limits z s) (sym (drop_of_length-le (p ++ came) all)) in
        subst (Told (taken kind size) s) (ap (behind 1 size) rest ∙ by_found (p ++ came) (passed size) (other-there (p ++ came) kind size other e) s)
        (refl, λ w. drop_of_length-le (p ++ came) {i = size + 0} (omega (arith, all)))

    -- THE RECORD, by its length and kind
    pub long-told : (s : State) → Told (whole_frame_lem (field p 0 4) (field p 4 2)) s (take_file_lem limits (p ++ came) s)
    long-told s =
        let e : whole_frame_lem (field p 0 4) (field p 4 2) ≡ frame (p ++ came) =
        (λ i. whole_frame_lem (sym same_length i) (sym same_kind i)) ∙ frame_whole (p ++ came) (omega (arith, same_length, length-append p came)) in
        go (wrong_length (field p 0 4) (field p 4 2)) (known_kind (field p 4 2)) e
      where
        go : (b c : Bool) → (let f = pick_found b (wrong 10) (pick_found c (taken (field p 4 2) (4 + field p 0 4)) (wrong 11)) in
            f ≡ frame (p ++ came) → Told f s (take_file_lem limits (p ++ came) s))
        go true c e = refused-told 10 refl e s
        go false true e = passed-told (field p 4 2) e s
        go false false e = refused-told 11 refl e s

-- ---- the turn that drops it

module _ (p new : List ℕ) (r : Turn) (head : 6 ≤ length p) (within : length p ≤ buffer_bytes) (long : buffer_bytes < 4 + field p 0 4) (fits : field p 0 4 < 4294967296)
    (none : r.kept ≡ 0) (answer : reply_of r.reply ≡ long_reply_lem r.source (field p 0 4) (field p 4 2)) (counted : r.count ≡ passed_count_lem (reply_of r.reply))
    (d : Dropped (4 + field p 0 4 - length p) (record { got = r.got; source = r.source })) where
  -- what its answer comes to
  abbrev Comes : Reply Nothing → State → Taking → Type 0
  Comes f s t = record { reply = f; count = passed_count_lem f; bytes = t.bytes; state = s } ≡ t

  by_answer : (f : Reply Nothing) → reply_of r.reply ≡ f → (s : State) (t : Taking) → Comes f s t
      → record { reply = reply_of r.reply; count = r.count; bytes = t.bytes; state = s } ≡ t
  by_answer f e s t g = (λ i. record { reply = e i; count = (counted ∙ ap passed_count_lem e) i; bytes = t.bytes; state = s }) ∙ g

  -- all of it came
  turned_open : is_open_lem r.source ≡ true → (s : State) → Turned p new s r s
  turned_open more s =
      let n = field p 0 4 in
      let k = field p 4 2 in
      let e : reply_of r.reply ≡ whole_reply (whole_frame_lem n k) = answer ∙ ap (λ b. cond b (whole_reply (whole_frame_lem n k)) (refused 9)) more in
      let all = eqb-true r.got (4 + n - length p) (sym d.all ∙ more) in
      let g = long-told p d.came head long (omega (arith, d.size, all)) s in
      record {
        came = d.came;
        size = d.size;
        few = omega (arith, d.within);
        some = λ w. omega (arith, all);
        used = (take_file_lem limits (p ++ d.came) s).bytes;
        took = by_answer (whole_reply (whole_frame_lem n k)) e s (take_file_lem limits (p ++ d.came) s) g.0;
        room = omega (arith, none);
        rest = λ w. ap (λ m. take m new) none ∙ sym (g.1 (ap waits (sym e) ∙ (both (waits (reply_of r.reply)) (is_open_lem r.source) w).0));
      }

  -- the input ended inside it
  turned_shut : is_open_lem r.source ≡ false → (s : State) → Turned p new s r s
  turned_shut shut s =
      let n = field p 0 4 in
      let e : reply_of r.reply ≡ refused 9 = answer ∙ ap (λ b. cond b (whole_reply (whole_frame_lem n (field p 4 2))) (refused 9)) shut in
      let part = eqb-false r.got (4 + n - length p) (sym d.all ∙ shut) in
      record {
        came = d.came;
        size = d.size;
        few = omega (arith, d.within);
        some = λ w. absurd (true_is_false (sym w ∙ shut));
        used = (take_file_lem limits (p ++ d.came) s).bytes;
        took = by_answer (refused 9) e s (take_file_lem limits (p ++ d.came) s)
            (subst (Comes (refused 9) s) (long-cut p d.came head (omega (arith, d.size, d.within, part)) s) refl);
        room = omega (arith, none);
        rest = λ w. absurd (true_is_false (sym (both (waits (reply_of r.reply)) (is_open_lem r.source) w).1 ∙ shut));
      }

  pub long-turned : (s : State) → Turned p new s r s
  long-turned s = by_test (is_open_lem r.source) (λ more. turned_open more s) (λ shut. turned_shut shut s)
