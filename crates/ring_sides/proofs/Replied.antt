-- The sides that a ring extraction replies, read back, are those of the rings.
use Prim.Native.Nat.{ℕ, ◌<◌}
use native.Mathlib.Omega.{arith}
use mathlib.Core.Path.{◌≡◌, refl, sym, ap, ap₂, ◌∙◌}
use mathlib.Core.Bool.{true}
use mathlib.Core.List.{List, [], map}
use lib.Ieee.{nan}
use lib.ListN.{length, get_or, drop, length-append, length-map, get_or-map}
use Rattle.geometry.specs.Reply.{success}
use Rattle.lists.specs.Lists.{over}
use Rattle.lists.proofs.Entries.{get_d_any}
use Rattle.rules.specs.Limits.{limits}
use Rattle.rules.specs.Split.{minimal_rings}
use Rattle.rules.specs.Face.{doubled_area_lem}
use Rattle.rules.specs.State.{State, arrangement, point_of, sound}
use Rattle.rules.specs.Ringing.{Ringing, RingLists, side_number_lem, side_area_lem, side_by, float_area, rings_of, ring_replies_lem, ringed, ring_step}
use Rattle.rules.specs.Extraction.{Lent, RingAnswer}
use Rattle.rules.proofs.Claims.{each_at}
use Rattle.rules.proofs.Histories.{fine_limits}
use Rattle.rules.proofs.Replies.{over-front, rings_of-halves, ring_step-passed}
use Rattle.rules.proofs.ExtractionLaws.{extraction_rules}
use Rattle.ring_tally.specs.Sides.{side_of, side_in, number_in, shown_in}
use Rattle.rings.proofs.Meaning.{sides-exact, sides-replied}
use Rattle.hole_checks.specs.Clause.{Extracts}
use Rattle.ring_sides.specs.Sides.{side_at_lem, side_from}
use Rattle.std.specs.Prelude.{Ok}
use Rattle.ring_sides.proofs.Reading.{side-back, within-lists}

-- ---- lists written from the rings

-- what was written for ring i stands there
ring_entry_lem : {B : Type 0} (F : List ℕ → B) (rings : List (List ℕ)) (out : List B) (d : B) (i : ℕ) → i < length rings → get_or (over (map F rings) out) i d ≡ F (get_or rings i [])
ring_entry_lem F rings out d i h =
    let low : i < length (map F rings) = omega (arith, length-map rings F) in
    over-front (map F rings) out i d low ∙ get_d_any (map F rings) i d (F []) low ∙ get_or-map F rings i []

-- and the list has a place for it
ring-place : {B : Type 0} (F : List ℕ → B) (rings : List (List ℕ)) (out : List B) (i : ℕ) → i < length rings → i < length (over (map F rings) out)
ring-place F rings out i h = omega (arith, length-append (map F rings) (drop (length (map F rings)) out), length-map rings F)

-- ---- a ring extraction

module _ (s : State) (out : RingLists) where
  -- the numbers that it writes
  ringed-sides : (ringed s out).lists.side ≡ over (map (λ w. side_number_lem w.side) (ring_replies_lem s (rings_of s) 0 (rings_of s))) out.side
  unfolding ringed
  ringed-sides = refl

  -- the areas
  ringed-areas : (ringed s out).lists.area ≡ over (map (λ w. side_area_lem w.side) (ring_replies_lem s (rings_of s) 0 (rings_of s))) out.area
  unfolding ringed
  ringed-areas = refl

  -- how many rings it counts
  ringed-count : (r : Ringing) → (ringed s out).reply ≡ success r → r.count ≡ length (rings_of s)
  unfolding ringed
  ringed-count r e = cc

  -- as many as there are
  rings-many : length (rings_of s) ≡ length (minimal_rings (arrangement s))
  rings-many = sym (length-map (rings_of s) (λ r. r.half_edges_lem)) ∙ ap length (rings_of-halves s)

-- what a successful call left
module _ (s : State) (out : Lent) (r : RingAnswer) (after : State) (written : Lent) (e : Extracts s out (success r) after written) where
  -- of the rings it is what the step that finds them leaves
  found : ring_step limits s out.rings ≡ record { reply = success r.ringing; state = after; lists = written.rings }
  found =
      (extraction_rules limits s out r (sym (ap (λ o. o.reply) e))).before
      ∙ ap (λ o. record { reply = success r.ringing; state = o.state; lists = o.lists.rings }) (sym e)

  -- its state was sound
  pub was_sound : sound limits s ≡ true
  was_sound = (ring_step-passed limits s out.rings r.ringing (ap (λ o. o.reply) found)).sense

  -- it gave what the rules say
  gave : record { reply = success r.ringing; state = after; lists = written.rings } ≡ ringed s out.rings
  gave = sym found ∙ (ring_step-passed limits s out.rings r.ringing (ap (λ o. o.reply) found)).gives

  -- a ring for each number below the count
  pub counted : r.ringing.count ≡ length (minimal_rings (arrangement s))
  counted = ringed-count s out.rings r.ringing (sym (ap (λ o. o.reply) gave)) ∙ rings-many s out.rings

  -- the numbers written are those of the rings' sides
  numbers_are : written.rings.side ≡ over (map (number_in s.source s.node_x s.node_y) (minimal_rings (arrangement s))) out.rings.side
  numbers_are =
      ap (λ o. o.lists.side) gave ∙ ringed-sides s out.rings
      ∙ ap (λ l. over l out.rings.side) (sym (sides-replied side_number_lem limits fine_limits s was_sound))

  -- and so are the areas
  areas_are : written.rings.area ≡ over (map (shown_in s.source s.node_x s.node_y) (minimal_rings (arrangement s))) out.rings.area
  areas_are =
      ap (λ o. o.lists.area) gave ∙ ringed-areas s out.rings
      ∙ ap (λ l. over l out.rings.area) (sym (sides-replied side_area_lem limits fine_limits s was_sound))

  module _ (i : ℕ) (h : i < r.ringing.count) where
    -- ring i
    abbrev ring : List ℕ
    ring = get_or (minimal_rings (arrangement s)) i []

    -- its side, read back from the lists, is the side by the sign of its area
    pub side_read : side_at_lem written.rings.side written.rings.area i ≡ Ok (side_in s.source s.node_x s.node_y ring)
    side_read =
        let low : i < length (minimal_rings (arrangement s)) = omega (arith, counted) in
        let N = number_in s.source s.node_x s.node_y in
        let A = shown_in s.source s.node_x s.node_y in
        let sides = out.rings.side in
        let areas = out.rings.area in
        ap₂ (λ n a. side_at_lem n a i) numbers_are areas_are
        ∙ within-lists (over (map N (minimal_rings (arrangement s))) sides) (over (map A (minimal_rings (arrangement s))) areas) i
        (ring-place N (minimal_rings (arrangement s)) sides i low) (ring-place A (minimal_rings (arrangement s)) areas i low)
        ∙ ap₂ side_from (ring_entry_lem N (minimal_rings (arrangement s)) sides 0 i low) (ring_entry_lem A (minimal_rings (arrangement s)) areas nan i low)
        ∙ side-back (side_in s.source s.node_x s.node_y ring)

    -- which is the side of the rules, by its doubled area in whole numbers
    pub side-exact : side_of (side_in s.source s.node_x s.node_y ring) ≡ side_by (doubled_area_lem (point_of s) (arrangement s) ring) (float_area s ring)
    side-exact =
        let low : i < length (minimal_rings (arrangement s)) = omega (arith, counted) in
        each_at _ (minimal_rings (arrangement s)) i low (sides-exact limits fine_limits s was_sound)
