-- What a frame says of its bytes: a record is there to its end, and it stays what it is whatever follows it.
use mathlib.Core.Path.{◌≡◌, refl, sym, ap, subst, ◌∙◌}
use mathlib.Core.Bool.{Bool, true, false, cond, ◌&&◌, ◌||◌, not}
use mathlib.Core.List.{List, ◌++◌}
use Prim.Native.Nat.{ℕ, ◌+◌, ◌≤◌}
use native.Mathlib.Omega.{arith}
use borrow.Author.Tests.{ltb-false, eqb-true, not-false}
use lib.Dec.{eqb, ltb}
use lib.ListN.{length, take, drop, length-drop, length-append}
use lib.Seq.{take-append-le, drop-append-le}
use Rattle.geometry.specs.Reply.{Reply, refused, success}
use Rattle.lists.proofs.Counts.{by_lt}
use Rattle.lists.proofs.Tests.{neither}
use Rattle.file_rules.specs.Records.{Found, taken, passed, wrong, end, little_endian, field, pick_found, cut_short_lem, wrong_length, known_kind, whole_frame_lem, frame, told, by_kind, read_next}
use Rattle.frames.proofs.Cases.{whole_none, frame_whole}

-- ---- a record is there to its end

module _ (s : List ℕ) where
  -- a frame has a length and a kind, its bytes are there, and a segment's are 58
  abbrev pub Framed : Found ℕ → Type 0
  Framed (taken kind size) = (6 ≤ size) × (size ≤ length s) × (kind ≡ 1 → size ≡ 58)
  Framed (passed size) = ⊥
  Framed (wrong n) = Unit {0}
  Framed end = Unit {0}

  -- either of two, by the test
  framed_either : (b : Bool) (x y : Found ℕ) → Framed x → (b ≡ false → Framed y) → Framed (pick_found b x y)
  framed_either true x y p q = p
  framed_either false x y p q = q refl

  -- of any kind that is known
  framed_known : (b : Bool) (kind size : ℕ) → Framed (taken kind size) → Framed (pick_found b (taken kind size) (wrong 11))
  framed_known true kind size p = p
  framed_known false kind size p = tt

  -- a segment's length is right
  segment-long : (size kind : ℕ) → ((eqb kind 1 && not (eqb size 54)) || (eqb kind 2 && ltb size 14)) ≡ false → kind ≡ 1 → size ≡ 54
  segment-long size kind e k =
      let f : (eqb 1 1 && not (eqb size 54)) ≡ false = subst (λ z. (eqb z 1 && not (eqb size 54)) ≡ false) k (neither _ _ e).0 in
      eqb-true size 54 (not-false (eqb size 54) f)

  pub frame-there : Framed (frame s)
  unfolding frame
  frame-there =
      let n = field s 0 4 in
      let k = field s 4 2 in
      framed_either (eqb (length s) 0) end _ tt
      (λ any. framed_either (cut_short_lem s) (wrong 9) _ tt
      (λ there. framed_either (wrong_length n k) (wrong 10) _ tt
      (λ long.
      let l = neither (ltb n 2) _ long in
      let two = ltb-false n 2 l.0 in
      let all = ltb-false (length s) (4 + n) (neither (ltb (length s) 4) _ there).1 in
      framed_known (known_kind k) k (4 + n) (omega arith, all, λ e. omega (arith, segment-long n k l.1 e)))))

  -- what a reader finds, taken or passed over, is there
  abbrev pub Within : {A : Type 0} → Found A → Type 0
  Within (taken a size) = (6 ≤ size) × (size ≤ length s)
  Within (passed size) = (6 ≤ size) × (size ≤ length s)
  Within (wrong n) = Unit {0}
  Within end = Unit {0}

  module _ {A : Type 0} (own : ℕ) (read : List ℕ → Reply A) where
    within-told : (b : Bool) (r : Reply A) (size : ℕ) → (6 ≤ size) × (size ≤ length s) → Within (cond b (told r size) (passed size))
    within-told true (refused n) size p = tt
    within-told true (success a) size p = p
    within-told false r size p = p

    within_kind : (f : Found ℕ) → Framed f → Within (by_kind own read s f)
    within_kind (taken kind size) p = within-told (eqb kind own) (read (take size s)) size (p.0, p.1)
    within_kind (passed size) p = absurd p
    within_kind (wrong n) p = tt
    within_kind end p = tt

    pub next-within : Within (read_next own read s)
    unfolding read_next
    next-within = within_kind (frame s) frame-there

-- ---- more bytes behind a whole record

module _ (s t : List ℕ) (there : 4 + field s 0 4 ≤ length s) where
  -- the same length, and the same kind where there is room for one
  same_length : field (s ++ t) 0 4 ≡ field s 0 4
  same_length = ap little_endian (take-append-le 4 s t (omega arith))

  same_kind : 2 ≤ field s 0 4 → field (s ++ t) 4 2 ≡ field s 4 2
  same_kind two =
      ap (λ z. little_endian (take 2 z)) (drop-append-le 4 s t (omega arith))
      ∙ ap little_endian (take-append-le 2 (drop 4 s) t (omega (arith, length-drop 4 s)))

  -- so that it is the same record
  same_whole : whole_frame_lem (field (s ++ t) 0 4) (field (s ++ t) 4 2) ≡ whole_frame_lem (field s 0 4) (field s 4 2)
  same_whole =
      by_lt (field s 0 4) 2
      (λ h. sym (whole_none (field (s ++ t) 0 4) (field (s ++ t) 4 2) (omega (arith, same_length))) ∙ whole_none (field s 0 4) (field s 4 2) h)
      (λ h. λ i. whole_frame_lem (same_length i) (same_kind h i))

  pub frame_more : frame (s ++ t) ≡ frame s
  frame_more = sym (frame_whole (s ++ t) (omega (arith, same_length, length-append s t))) ∙ same_whole ∙ frame_whole s there

  module _ {A : Type 0} (own : ℕ) (read : List ℕ → Reply A) where
    more_kind : (f : Found ℕ) → Framed s f → by_kind own read (s ++ t) f ≡ by_kind own read s f
    more_kind (taken kind size) p = ap (λ z. cond (eqb kind own) (told (read z) size) (passed size)) (take-append-le size s t p.1)
    more_kind (passed size) p = refl
    more_kind (wrong n) p = refl
    more_kind end p = refl

    -- and a reader finds the same
    pub next_more : read_next own read (s ++ t) ≡ read_next own read s
    unfolding read_next
    next_more = ap (by_kind own read (s ++ t)) frame_more ∙ more_kind (frame s) (frame-there s)
