-- The lines of rings that lists hold: what each is, and how long they get.
use Prim.Native.Nat.{ℕ, zero, suc, ◌+◌, ◌*◌, ◌^◌, ◌<◌, ◌≤◌}
use native.Mathlib.Omega.{arith}
use native.Mathlib.Numerals.{add-one}
use mathlib.Core.Path.{◌≡◌, sym, subst, ◌∙◌}
use mathlib.Core.Bool.{Bool}
use mathlib.Core.List.{List, [], ◌++◌}
use lib.IntN.{ℤ}
use lib.Ieee.{Float}
use lib.ListN.{length, get_or, length-append}
use Rattle.rules.specs.Face.{Ring, face_number_lem}
use Rattle.rules.specs.Limits.{limits}
use Rattle.file_rules.specs.Lines.{head_line, ring_nodes, starting_nodes, ring_line}
use Rattle.lists.specs.Buffer.{written, Put}
use Rattle.lists.proofs.Buffers.{written_none, written_row}
use Rattle.listing_text.proofs.Lengths.{head-short, ring-short}
use Rattle.rules.specs.Listing.{no_ring, line_of, lines_of}
use Rattle.ring_lines.specs.Rooms.{lines_room, listing_room}
use Rattle.ring_lists.specs.Shown.{passed, Shown}
use Rattle.ring_lists.proofs.Halving.{small_mag}
use Rattle.ring_lists.proofs.Written.{passed-next}

module _ (rings : List Ring) (half_edges_lem first size face : List ℕ) (area : List Float) (shown : Shown rings half_edges_lem first size face area) where
  -- no ring is longer than all together
  pub size_small : (k : ℕ) → k < length rings → get_or size k 0 ≤ 2 * limits.edges
  size_small k h = omega (arith, (shown.each k h).sized, passed-next rings k h, shown.short (suc k) (omega arith))

  module _ (source : List ℕ) where
    -- what is written for ring k is its line
    pub line-is : (k : ℕ) → k < length rings → (n f a b : ℕ) (z : ℤ) → n ≡ k → f ≡ get_or face k 0 → a ≡ get_or first k 0 → b ≡ get_or size k 0 → z ≡ (get_or rings k no_ring).doubled
        → ring_line n f z (ring_nodes source half_edges_lem a b) ≡ line_of source rings k
    line-is k h n f a b z en ef ea eb ez =
        let e = shown.each k h in
        (λ i. ring_line (en i) (ef i) (ez i) (ring_nodes source half_edges_lem (ea i) (eb i)))
        ∙ (λ i. ring_line k (e.faced i) (get_or rings k no_ring).doubled (starting_nodes source (e.holds i)))

    module _ (nodes16 : (h : ℕ) → get_or source h 0 < 65536) (faces16 : (h : ℕ) → get_or face h 0 < 65536) where
      -- the first k lines have 72 bytes each and 6 for each node at most
      pub lines-short : (k : ℕ) → k ≤ length rings → length (lines_of source rings k) ≤ 72 * k + 6 * passed rings k
      lines-short zero h = omega arith
      lines-short (suc k) h =
          let e = shown.each k (omega arith) in
          let r = get_or rings k no_ring in
          omega (
            arith,
            length-append (lines_of source rings k) (line_of source rings k),
            ring-short k (face_number_lem rings r) r.doubled source r.half_edges_lem (omega (arith, shown.few)) (omega (arith, e.faced, faces16 k)) (small_mag r.doubled e.halved.small) nodes16,
            lines-short k (omega arith),
            passed-next rings k (omega arith),
          )

      -- so the next line fits where all lines were given room
      pub line-room : (at : ℕ) (old new : List ℕ) (place k : ℕ) → k < length rings → Put at (lines_of source rings k) old new place
          → at + lines_room limits ≤ length new → place + (72 + 6 * get_or size k 0) ≤ length new
      line-room at old new place k h p room =
          omega (
            arith,
            p.after,
            lines-short k (omega arith),
            passed-next rings k h,
            (shown.each k h).sized,
            shown.short (suc k) (omega arith),
            shown.few,
          )

-- ---- lines one after another in the buffer

-- none yet
pub no_lines : (at : ℕ) (out : List ℕ) → Put at [] out out at
no_lines at out = record { buffer = sym (written_none at out); after = omega arith }

-- one text and then another
pub put_row : (at : ℕ) (a b old new newer : List ℕ) (place after : ℕ) → at + length a ≤ length old → Put at a old new place → Put place b new newer after → Put at (a ++ b) old newer after
put_row at a b old new newer place after fits p q = record {
  buffer = q.buffer ∙ (λ i. written (p.after i) b (p.buffer i)) ∙ written_row at a b old fits;
  after = omega (arith, p.after, q.after, length-append a b);
}

-- the next line
pub one_line : (source : List ℕ) (rings : List Ring) (at k : ℕ) (old new newer : List ℕ) (place after : ℕ) → Put at (lines_of source rings k) old new place
    → Put place (line_of source rings k) new newer after → place ≤ length old → Put at (lines_of source rings (k + 1)) old newer after
one_line source rings at k old new newer place after p q fits =
    subst (λ n. Put at (lines_of source rings n) old newer after) (sym (add-one k))
    (put_row at (lines_of source rings k) (line_of source rings k) old new newer place after (omega (arith, p.after)) p q)

-- ---- line one

-- after it the rings' lines have room
pub head_room_lem : (a b c d e : ℕ) (euler : Bool) (old new : List ℕ) (place : ℕ) → a < 2 ^ 64 → b < 2 ^ 64 → c < 2 ^ 64 → d < 2 ^ 64 → e < 2 ^ 64
    → Put 0 (head_line a b c d e euler) old new place → listing_room limits ≤ length old → length new ≡ length old → place + lines_room limits ≤ length new
head_room_lem a b c d e euler old new place ha hb hc hd he p room same =
    omega (arith, p.after, head-short a b c d e euler ha hb hc hd he)
