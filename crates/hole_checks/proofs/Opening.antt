-- Open rings by the numbers of their sides: as many as there are holes.
use Prim.Native.Nat.{ℕ, zero, suc, ◌+◌, ◌<◌, ◌≤◌}
use native.Mathlib.Nat.{not-suc-le-zero, le_of_suc-le-suc}
use native.Mathlib.Numerals.{add-one}
use native.Mathlib.Omega.{arith}
use mathlib.Core.Path.{◌≡◌, refl, sym, ap, ◌∙◌}
use mathlib.Core.List.{List, [], ◌∷◌, map}
use lib.Dec.{eqb}
use lib.IntN.{ℤ, pos, negsuc}
use lib.Ieee.{Float}
use lib.ListN.{length, get_or, drop, length-append, get_or-append}
use lib.Signed.{lt_z}
use borrow.Author.Tests.{le-ltb}
use Rattle.lists.specs.Lists.{bit, below}
use Rattle.lists.proofs.Counts.{below_agree, length-below}
use Rattle.rules.specs.Face.{Ring}
use Rattle.rules.specs.State.{State}
use Rattle.rules.specs.Ringing.{rings_of, ring_replies_lem, side_by, side_number_lem}
use Rattle.rules.specs.Holes.{is_open_lem, ring_at}
use Rattle.rules.specs.Extraction.{holes_in}
use Rattle.rules.proofs.ShapedRings.{holes-many}
use Rattle.extracting.specs.Extraction.{replies_of}
use Rattle.extracting.specs.Sides.{Sided}
use Rattle.hole_checks.specs.Open.{open_side, open_among}

-- ---- the loop that counts

-- one more is counted where its side is open
pub open_more : (sides : List ℕ) (i : ℕ) → length (open_among sides (i + 1)) ≡ length (open_among sides i) + bit (eqb (get_or sides i 0) open_side)
open_more sides i = ap (λ n. length (open_among sides n)) (add-one i) ∙ length-below (λ k. eqb (get_or sides k 0) open_side) i

-- ---- the sides that are replied

-- a side is open where the doubled area is below zero
open_below : (z : ℤ) (a : Float) → eqb (side_number_lem (side_by z a)) open_side ≡ lt_z z (pos 0)
open_below (pos zero) a = refl
open_below (pos (suc n)) a = sym (le-ltb (suc n) 0 (omega arith))
open_below (negsuc n) a = refl

-- ring by ring
open_at : (s : State) (all : List Ring) (first : ℕ) (rs : List Ring) (i : ℕ) → i < length rs
    → eqb (get_or (map (λ w. side_number_lem w.side) (ring_replies_lem s all first rs)) i 0) open_side ≡ is_open_lem (ring_at rs i)
open_at s all first [] i h = absurd (not-suc-le-zero h)
open_at s all first (r ∷ rs) zero h = open_below r.doubled _
open_at s all first (r ∷ rs) (suc i) h = open_at s all (first + length r.half_edges_lem) rs i (le_of_suc-le-suc h)

-- a reply for each ring
replies_many : (s : State) (all : List Ring) (first : ℕ) (rs : List Ring) → length (map (λ w. side_number_lem w.side) (ring_replies_lem s all first rs)) ≡ length rs
replies_many s all first [] = refl
replies_many s all first (r ∷ rs) = ap suc (replies_many s all (first + length r.half_edges_lem) rs)

module _ (s : State) (sides₀ sides : List ℕ) (n : ℕ) (e : Sided s sides₀ sides n) where
  -- the sides replied
  abbrev replied : List ℕ
  replied = map (λ w. side_number_lem w.side) (replies_of s)

  -- there is one for each ring that was counted
  replied-many : length replied ≡ n
  replied-many = replies_many s (rings_of s) 0 (rings_of s) ∙ sym e.number

  -- they stand in the list
  pub sides-within : n ≤ length sides
  sides-within = omega (arith, replied-many, ap length e.side, length-append replied (drop (length replied) sides₀))

  -- and as many of them are open as there are holes
  pub open_holes : length (open_among sides n) ≡ length (holes_in s)
  open_holes =
      ap length (below_agree (λ i. eqb (get_or sides i 0) open_side) (λ i. is_open_lem (ring_at (rings_of s) i)) n same)
      ∙ ap (λ k. length (below (λ i. is_open_lem (ring_at (rings_of s) i)) k)) e.number ∙ sym (holes-many s)
    where
      same : (i : ℕ) → i < n → eqb (get_or sides i 0) open_side ≡ is_open_lem (ring_at (rings_of s) i)
      same i h =
          ap (λ l. eqb (get_or l i 0) open_side) e.side
          ∙ ap (λ k. eqb k open_side) (get_or-append replied (drop (length replied) sides₀) 0 i (omega (arith, replied-many)))
          ∙ open_at s (rings_of s) 0 (rings_of s) i (omega (arith, e.number))
