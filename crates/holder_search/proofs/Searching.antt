-- The search for a holder, candidate by candidate: what one more leaves of the best so far, and what the best of all is.
use Prim.Native.Nat.{ℕ, suc, ◌+◌, ◌<◌, ◌≤◌}
use native.Mathlib.Omega.{arith}
use mathlib.Core.Path.{◌≡◌, refl, sym, ap, subst, ◌∙◌}
use mathlib.Core.Bool.{Bool, true, false, cond, not, ◌&&◌, ◌||◌, and-false}
use mathlib.Core.List.{List}
use lib.IntN.{ℤ, pos}
use lib.ListN.{length, get_or}
use lib.Seq.{get_or-take}
use lib.Dec.{eqb, ltb}
use lib.Signed.{lt_z}
use borrow.Author.Tests.{eq-eqb, ne_eqb}
use Rattle.lists.specs.Lists.{below}
use Rattle.lists.proofs.Counts.{by_test, by_eq, by_lt, true_is_false, below_less}
use Rattle.lists.proofs.Tests.{both}
use Rattle.geometry.specs.Angle.{Point}
use Rattle.rules.specs.Cycles.{Arrangement}
use Rattle.rules.specs.Face.{Ring}
use Rattle.rules.specs.Holes.{outside, enclosed, ring_nodes, ring_at, holds, holds_first, holder_of_lem, Holder}
use Rattle.rules.proofs.LabelLaws.{below_at}
use Rattle.rules.proofs.Orders.{order_int, never_self}
use Rattle.rules.proofs.HoleLaws.{holds_first-order, hole_rules, the_holder}
use Rattle.inside.specs.Spots.{spot_in}
use Rattle.candidates.specs.Candidates.{number_at, in_box_lem, Boxed}
use Rattle.candidate_order.specs.Order.{InOrder, Parted}
use Rattle.passing.specs.Passing.{LeastAreas, EndsBefore, rest_larger}
use Rattle.candidate_order.proofs.Ordering.{order-low, order-place}
use Rattle.holding.specs.Maps.{origins, Map, Laid}
use Rattle.holder_search.specs.Search.{Field, Opening, holds_at_lem, first_by, Behind, Best}
use Rattle.holding.specs.Holding.{holds_by_lem}
use Rattle.holder_search.proofs.Boxes.{held_in-box}
use Rattle.holder_search.proofs.HoldingLaws.{holds_by, candidate_ring, candidate_laid, nodes-within}

-- every candidate comes before none
pub first_of_none : (rings : List ℕ) (numbers : List ℤ) (face : List ℕ) (count j best : ℕ) → best ≡ count → first_by rings numbers face count j best ≡ true
first_of_none rings numbers face count j best e = rw (eq-eqb best count e) refl

-- ---- the best so far

-- one that does not hold comes behind
pub behind_open : (rs : List Ring) (m : Map) (o : Ring) (rings : List ℕ) (count best j : ℕ) → holds_at_lem rs m o rings j ≡ false → Behind rs m o rings count best j
behind_open rs m o rings count best j f h = absurd (true_is_false (sym h ∙ f))

module _ (rs : List Ring) (m : Map) (o : Ring) (rings order : List ℕ) (count : ℕ) where
  -- no candidate was met
  pub best_none : Best rs m o rings order count count count
  best_none = record { low = omega arith; holder = λ l. absurd (omega arith); behind = λ k l h. absurd (omega arith) }

  -- candidates that come behind it change nothing
  pub pass_by : (place next best : ℕ) → ((k : ℕ) → next ≤ k → k < place → Behind rs m o rings count best (get_or order k 0)) → Best rs m o rings order count place best
      → Best rs m o rings order count next best
  pass_by place next best more old = record {
    low = old.low;
    holder = old.holder;
    behind = λ k l h. by_lt k place (more k l) (λ g. old.behind k g h);
  }

module _ (rs : List Ring) (m : Map) (bound slope : ℕ) (rings : List ℕ) (numbers : List ℤ) (count : ℕ) (field : Field rs m bound slope rings numbers count) where
  -- ---- candidates and enclosed rings

  abbrev chosen : ℕ → Bool
  chosen i = enclosed (ring_at rs i)

  -- the list has the enclosed rings in their order
  listed_at : (j : ℕ) → j < count → get_or rings j 0 ≡ get_or (below chosen (length rs)) j 0
  listed_at j low = sym (get_or-take count rings j 0 low) ∙ ap (λ l. get_or l j 0) field.candidates.listed

  -- each enclosed ring is a candidate
  place_of : (i : ℕ) → i < length rs → chosen i ≡ true → (j : ℕ) × (j < count) × (get_or rings j 0 ≡ i)
  place_of i low e =
      let here : length (below chosen i) < count = omega (arith, below_less chosen i (length rs) low e, field.candidates.many) in
      (length (below chosen i), here, listed_at (length (below chosen i)) here ∙ below_at chosen i (length rs) low e)

  -- ---- which comes first

  -- by the numbers of candidates as by their rings
  pub first_by-is : (j best : ℕ) → j < count → best < count → first_by rings numbers m.face count j best ≡ holds_first rs (get_or rings j 0) (get_or rings best 0)
  first_by-is j best low some =
      let some-other : eqb best count ≡ false = ne_eqb best count (omega arith) in
      let a = (field.candidates.each j low).area in
      let b = (field.candidates.each best some).area in
      let f = (candidate_laid rs m bound slope rings numbers count field j low).faced in
      let g = (candidate_laid rs m bound slope rings numbers count field best some).faced in
      λ t. some-other t || (lt_z (a t) (b t) || (not (lt_z (b t) (a t)) && ltb (f t) (g t)))

  -- one that comes later is behind, whether it holds or not
  pub behind_late : (o : Ring) (best j : ℕ) → j < count → best ≤ count → first_by rings numbers m.face count j best ≡ false → Behind rs m o rings count best j
  behind_late o best j low small f h = by_eq best count
      (λ e. absurd (true_is_false (sym (first_of_none rings numbers m.face count j best e) ∙ f)))
      (λ d. let some : best < count = omega arith in (some, sym (first_by-is j best low some) ∙ f))

  -- and so is one with a larger area
  pub behind_larger : (o : Ring) (best j : ℕ) → j < count → best < count → lt_z (number_at numbers best 4) (number_at numbers j 4) ≡ true → Behind rs m o rings count best j
  behind_larger o best j low some e =
      behind_late o best j low (omega arith) (rw (ne_eqb best count (omega arith), order_int.one_way (number_at numbers best 4) (number_at numbers j 4) e, e) refl)

  -- one that has the open ring's corner beside its box does not hold
  module _ (o : Ring) (inner : List ℕ) (corner : ℕ) (x y : ℤ) (opening : Opening o m bound slope inner corner x y) (j : ℕ) (low : j < count) where
    pub beside : in_box_lem numbers j x y ≡ false → holds_at_lem rs m o rings j ≡ false
    beside f = by_test (holds_at_lem rs m o rings j) (λ h. absurd (true_is_false (sym (within h) ∙ f))) (λ h. h)
      where
        laid : Laid rs m bound (get_or rings j 0)
        laid = candidate_laid rs m bound slope rings numbers count field j low

        at : ℕ → Point
        at = spot_in m.xs m.ys

        g : Arrangement
        g = origins m.source

        ring : Ring
        ring = ring_at rs (get_or rings j 0)

        box : Boxed field.along m.ys bound numbers j (ring_nodes g ring.half_edges_lem) ring.doubled
        box = subst (λ l. Boxed field.along m.ys bound numbers j l ring.doubled) laid.nodes (field.candidates.each j low)

        same : holds_by_lem at (ring_nodes g ring.half_edges_lem) inner ≡ holds_at_lem rs m o rings j
        same = (λ t. holds_by_lem at (ring_nodes g ring.half_edges_lem) (opening.nodes t)) ∙ sym (holds_by at g ring o laid.joined)

        within : holds_at_lem rs m o rings j ≡ true → in_box_lem numbers j x y ≡ true
        within h =
            (λ t. in_box_lem numbers j (opening.is_x t) (opening.is_y t))
            ∙ held_in-box slope m.xs m.ys field.along numbers j bound field.slanted g ring.half_edges_lem inner laid.joined
            (nodes-within ring.half_edges_lem m.source bound laid.within) corner opening.leftmost ring.doubled box opening.within (same ∙ h)

    -- it lies beside where it begins to the right of the corner
    pub beside_left : lt_z x (number_at numbers j 0) ≡ true → holds_at_lem rs m o rings j ≡ false
    beside_left e = beside (rw e refl)

    -- and where it ends to the left
    pub beside_right : lt_z (number_at numbers j 1) x ≡ true → holds_at_lem rs m o rings j ≡ false
    beside_right e = beside (rw e (and-false (not (lt_z x (number_at numbers j 0)))))

  -- ---- the candidate at a place

  module _ (order : List ℕ) (o : Ring) (place best j : ℕ) (here : get_or order place 0 ≡ j) (low : j < count) (old : Best rs m o rings order count (place + 1) best) where
    -- one that comes behind changes nothing
    pub leave : Behind rs m o rings count best j → Best rs m o rings order count place best
    leave b = pass_by rs m o rings order count (place + 1) place best
        (λ k l h. let same : k ≡ place = omega arith in subst (Behind rs m o rings count best) (sym (ap (λ p. get_or order p 0) same ∙ here)) b) old

    -- one that holds and comes first is the best
    pub take_better : holds_at_lem rs m o rings j ≡ true → first_by rings numbers m.face count j best ≡ true → Best rs m o rings order count place j
    take_better h e = record {
      low = omega arith;
      holder = λ l. h;
      behind = λ k l g. by_eq k place
          (λ q. subst (Behind rs m o rings count j) (sym (ap (λ p. get_or order p 0) q ∙ here)) (λ t. (low, never_self (holds_first rs) (holds_first-order rs) (get_or rings j 0))))
          (λ d t. let b = old.behind k (omega arith) g t in (
            low,
            (holds_first-order rs).goes_on_lem (get_or rings (get_or order k 0) 0) (get_or rings best 0) (get_or rings j 0) b.1
                ((holds_first-order rs).one_way (get_or rings j 0) (get_or rings best 0) (sym (first_by-is j best low b.0) ∙ e)),
          ));
    }

  -- ---- many at once

  module _ (order : List ℕ) (stand : InOrder numbers count order) (o : Ring) where
    module _ (inner : List ℕ) (corner : ℕ) (x y : ℤ) (opening : Opening o m bound slope inner corner x y) where
      -- those that begin to the right of the corner
      pub best_start : (place : ℕ) → Parted numbers order count x place → Best rs m o rings order count place count
      best_start place p = pass_by rs m o rings order count count place count
          (λ k l h. behind_open rs m o rings count count (get_or order k 0) (beside_left o inner corner x y opening (get_or order k 0) (order-low numbers count order stand k h) (p.right k l h)))
          (best_none rs m o rings order count)

      -- those that end to the left of it
      pub best_next : (place next best : ℕ) → place ≤ count → EndsBefore numbers order x next place → Best rs m o rings order count place best → Best rs m o rings order count next best
      best_next place next best small ends old = pass_by rs m o rings order count place next best
          (λ k l h. behind_open rs m o rings count best (get_or order k 0) (beside_right o inner corner x y opening (get_or order k 0) (order-low numbers count order stand k (omega arith)) (ends k l h)))
          old

    -- all that is left, where it has larger areas
    pub best_settled : (least : List ℤ) → LeastAreas numbers order count least → (place best : ℕ) → place < count → rest_larger numbers count best least place ≡ true
        → Best rs m o rings order count (suc place) best → Best rs m o rings order count 0 best
    best_settled least areas place best low e old =
        let t = both (not (eqb best count)) (lt_z (number_at numbers best 4) (get_or least place (pos 0))) e in
        let some : best < count = by_eq best count (λ q. absurd (true_is_false (sym t.0 ∙ ap not (eq-eqb best count q)))) (λ d. omega (arith, old.low)) in
        pass_by rs m o rings order count (suc place) 0 best
        (λ k l h.
        let j = get_or order k 0 in
        behind_larger o best j (order-low numbers count order stand k (omega arith)) some (by_test (lt_z (number_at numbers best 4) (number_at numbers j 4)) (λ f. f)
        (λ f. absurd (true_is_false (sym t.1 ∙ order_int.goes_on_lem (number_at numbers best 4) (number_at numbers j 4) (get_or least place (pos 0)) f (areas k place (omega arith) low))))))
        old

  -- ---- the best of all

  module _ (order : List ℕ) (stand : InOrder numbers count order) (o : Ring) (best : ℕ) (all : Best rs m o rings order count 0 best) where
    abbrev Held : ℕ → Type 0
    Held i = Holder (spot_in m.xs m.ys) (origins m.source) rs o i

    -- a ring that holds is a candidate that does
    held_at : (i : ℕ) → Held i → (j : ℕ) × (j < count) × (get_or rings j 0 ≡ i) × (holds_at_lem rs m o rings j ≡ true)
    held_at i h =
        let p = place_of i h.low h.encloses in
        (p.0, p.1, p.2, ap (λ k. holds (spot_in m.xs m.ys) (origins m.source) (ring_at rs k) o) p.2 ∙ h.around)

    -- which comes behind the best
    held-behind : (i : ℕ) → Held i → (best < count) × (holds_first rs i (get_or rings best 0) ≡ false)
    held-behind i h =
        let p = held_at i h in
        let k = order-place numbers count order stand p.0 p.1 in
        let b = all.behind k.0 (omega arith) k.1 (ap (holds_at_lem rs m o rings) k.2 ∙ p.3) in
        (b.0, subst (λ r. holds_first rs r (get_or rings best 0) ≡ false) (ap (λ j. get_or rings j 0) k.2 ∙ p.2) b.1)

    -- the best candidate is the holder
    pub best_is : holder_of_lem (spot_in m.xs m.ys) (origins m.source) rs o ≡ cond (eqb best count) outside (get_or rings best 0)
    best_is = by_eq best count
        (λ e. rw (eq-eqb best count e) ((hole_rules (spot_in m.xs m.ys) (origins m.source) rs).unheld o (λ i h. omega (arith, e, (held-behind i h).0))))
        (λ d.
        let some : best < count = omega (arith, all.low) in
        let c = candidate_ring rs m bound slope rings numbers count field best some in
        rw (ne_eqb best count d) (the_holder (spot_in m.xs m.ys) (origins m.source) rs field.map.apart o (get_or rings best 0)
        (record { low = c.0; encloses = c.1; around = all.holder some })
        (λ i h. (held-behind i h).1)))
