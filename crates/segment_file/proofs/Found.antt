-- What the segment reader finds, by the frame at its place.
use mathlib.Core.Path.{◌≡◌, refl, sym, ap, subst, ◌∙◌}
use mathlib.Core.Bool.{Bool, true, false, cond}
use mathlib.Core.List.{List, ◌++◌}
use Prim.Native.Nat.{ℕ, ◌+◌, ◌<◌, ◌≤◌}
use native.Mathlib.Omega.{arith}
use borrow.Author.Tests.{ne_eqb}
use lib.Dec.{eqb}
use lib.Ieee.{binary64, of_bits}
use lib.ListN.{length, take, drop, length-drop}
use Rattle.geometry.specs.declared.Line3D.{Line3D}
use Rattle.file_rules.specs.Records.{field, Found, taken, passed, wrong, end, pick_found, wrong_length, known_kind, whole_frame_lem, frame, told, by_kind, read_next}
use Rattle.file_rules.specs.SegmentFile.{coord_at_lem, segment_in, segment_next}
use Rattle.frames.proofs.Bytes.{field_in}
use Rattle.frames.proofs.Cases.{frame-none, frame-short, frame_whole}
use Rattle.frames.proofs.FrameLaws.{Framed, frame-there, Within, next-within, next_more}
use Rattle.segment_file.specs.Record.{line_at}

-- the frame decides
pub by_frame : (s : List ℕ) (f : Found ℕ) → f ≡ frame s → by_kind 1 segment_in s f ≡ segment_next s
unfolding segment_next read_next
by_frame s f e = ap (by_kind 1 segment_in s) e

-- a record of another kind is passed over
pub other-there : (s : List ℕ) (kind size : ℕ) → (kind ≡ 1 → ⊥) → taken kind size ≡ frame s → passed size ≡ segment_next s
other-there s kind size d e =
    sym (ap (λ b. cond b (told (segment_in (take size s)) size) (passed size)) (ne_eqb kind 1 d)) ∙ by_frame s (taken kind size) e

module _ (s : List ℕ) (at size : ℕ) (e : taken 1 size ≡ frame (drop at s)) where
  said : Framed (drop at s) (taken 1 size)
  said = subst (Framed (drop at s)) (sym e) (frame-there (drop at s))

  -- a segment's 58 bytes are there
  pub room : at + 58 ≤ length s
  room = omega (arith, said.1, said.2 refl, length-drop at s)

  -- a point of the record is that of the file
  point : (off place : ℕ) → off + 24 ≤ 58 → at + off ≡ place → coord_at_lem (take size (drop at s)) off ≡ coord_at_lem s place
  point off place h p =
      let n = said.2 refl in
      let x = field_in s at size off 8 place (omega arith) p in
      let y = field_in s at size (off + 8) 8 (place + 8) (omega arith) (omega arith) in
      let z = field_in s at size (off + 16) 8 (place + 16) (omega arith) (omega arith) in
      λ i. record { x = of_bits binary64 (x i); y = of_bits binary64 (y i); z = of_bits binary64 (z i) }

  -- and so is its segment
  pub segment-there : (line : Line3D) → line ≡ line_at s at → taken line size ≡ segment_next (drop at s)
  segment-there line l =
      let n = said.2 refl in
      let start = point 10 (at + 10) (omega arith) refl in
      let stop = point 34 (at + 34) (omega arith) refl in
      let id = field_in s at size 6 4 (at + 6) (omega arith) refl in
      ap (λ z. taken z size) l ∙ sym (λ i. taken (record { start = start i; end = stop i; line_id = id i }) size) ∙ by_frame (drop at s) (taken 1 size) e

-- ---- what is found, and the bytes behind it

-- no byte, and bytes that end inside a record
pub segment-none : (s : List ℕ) → length s ≡ 0 → end ≡ segment_next s
segment-none s h = by_frame s end (frame-none s h)

pub segment-short : (s : List ℕ) → 0 < length s → length s < 4 + field s 0 4 → wrong 9 ≡ segment_next s
segment-short s h k = by_frame s (wrong 9) (frame-short s h k)

-- what is taken or passed over is there
pub segment-within : (s : List ℕ) → Within s (segment_next s)
unfolding segment_next
segment-within s = next-within s 1 segment_in

-- neither the end nor 9
abbrev pub Settled : {A : Type 0} → Found A → Type 0
Settled (taken a size) = Unit {0}
Settled (passed size) = Unit {0}
Settled (wrong n) = n ≡ 9 → ⊥
Settled end = ⊥

settled_told : (b : Bool) (s : List ℕ) (size : ℕ) → Settled (cond b (told (segment_in s) size) (passed size))
settled_told true s size = tt
settled_told false s size = tt

settled_known : (a b : Bool) (s : List ℕ) (kind size : ℕ) → Settled (by_kind 1 segment_in s (pick_found a (wrong 10) (pick_found b (taken kind size) (wrong 11))))
settled_known true b s kind size = λ e. omega arith
settled_known false true s kind size = settled_told (eqb kind 1) (take size s) size
settled_known false false s kind size = λ e. omega arith

module _ (s : List ℕ) (there : 4 + field s 0 4 ≤ length s) where
  -- of a record that is there to its end
  pub segment_settled : Settled (segment_next s)
  segment_settled =
      let n = field s 0 4 in
      let k = field s 4 2 in
      subst Settled (by_frame s (whole_frame_lem n k) (frame_whole s there)) (settled_known (wrong_length n k) (known_kind k) s k (4 + n))

  -- whatever follows it, the same is found
  pub segment_more : (t : List ℕ) → segment_next (s ++ t) ≡ segment_next s
  unfolding segment_next
  segment_more t = next_more s t there 1 segment_in
