-- At most two thirds as many rings are enclosed as there are edges, and at most as many are open: a ring that is not flat has three
-- half-edges or more, since one half-edge alone would join a node to itself and two go forth and back, and the rings together have at
-- most two for each edge.
use Prim.Native.Nat.{ℕ, zero, suc, ◌+◌, ◌*◌, ◌≤◌}
use native.Mathlib.Omega.{arith}
use mathlib.Core.Path.{◌≡◌, refl, sym, ap, subst, ◌∙◌}
use mathlib.Core.Bool.{Bool, true}
use mathlib.Core.List.{List, [], ◌∷◌, map}
use lib.ListN.{length, get_or, length-append, length-map}
use lib.IntN.{pos, neg_ℤ, ◌+ℤ◌, ◌*ℤ◌, +ℤ_idr, +ℤ_invr}
use lib.Signed.{lt_z}
use Rattle.lists.specs.Lists.{bit, below, flatten, Each}
use Rattle.lists.proofs.Counts.{by_test, true_is_false, length-below, below_le}
use Rattle.rotation.specs.Rotation.{Key}
use Rattle.geometry.specs.Angle.{Point}
use Rattle.rules.specs.HalfEdge.{twin}
use Rattle.rules.specs.Cycles.{Arrangement, halves}
use Rattle.rules.specs.Split.{split_successor, minimal_rings}
use Rattle.rules.specs.Face.{cross_term, doubled_area_lem, Ring, how_many, ring_of}
use Rattle.rules.specs.Limits.{Limits, shaped_rings}
use Rattle.rules.specs.State.{State, arrangement, point_of, node_key, sound}
use Rattle.rules.specs.Ringing.{rings_of}
use Rattle.rules.specs.Holes.{enclosed, is_open_lem, ring_at, holes_of}
use Rattle.rules.specs.Extraction.{holes_in}
use Rattle.rules.specs.Claim.{Joined}
use Rattle.rules.specs.Sane.{Sane}
use Rattle.rules.proofs.Twin.{twin-twin}
use Rattle.rules.proofs.Partition.{total-length}
use Rattle.rules.proofs.Rings.{area_term, area-is, area-twin, minimal_rings_are, split-permutes, ring_rules}
use Rattle.rules.proofs.Soundness.{is-sound}
use Rattle.rules.proofs.Tables.{sound-sane}
use Rattle.rules.proofs.HoleLaws.{hole_rules}

-- ---- how many pass a test, by place or by member

-- the first number and the others
below-front : (p : ℕ → Bool) (n : ℕ) → length (below p (suc n)) ≡ bit (p 0) + length (below (λ i. p (suc i)) n)
below-front p zero = omega (arith, length-below p 0)
below-front p (suc n) = omega (arith, length-below p (suc n), below-front p n, length-below (λ i. p (suc i)) n)

-- by place, as many as there are
places-many : (p : Ring → Bool) (rs : List Ring) → length (below (λ i. p (ring_at rs i)) (length rs)) ≡ how_many p rs
places-many p [] = refl
places-many p (r ∷ rs) = below-front (λ i. p (ring_at (r ∷ rs) i)) (length rs) ∙ ap (λ n. bit (p r) + n) (places-many p rs)

-- ---- one ring

module _ (at : ℕ → Point) (g : Arrangement) where
  -- a half-edge from a node to itself adds nothing
  self_term : (a b : Point) → a ≡ b → cross_term a b ≡ pos 0
  self_term a b e = subst (λ z. cross_term a z ≡ pos 0) e (+ℤ_invr (a.x *ℤ a.y))

  -- a half-edge that goes back takes away what the one before it added
  back_term : (h i : ℕ) → g.origin (twin h) ≡ g.origin i → g.origin (twin i) ≡ g.origin h → area_term at g i ≡ neg_ℤ (area_term at g h)
  back_term h i there back =
      let home : g.origin (twin i) ≡ g.origin (twin (twin h)) = back ∙ ap (λ k. g.origin k) (sym (twin-twin h)) in
      ap (λ n. cross_term (at n) (at (g.origin (twin i)))) (sym there) ∙ ap (λ n. cross_term (at (g.origin (twin h))) (at n)) home ∙ area-twin at g h

  -- so one forth and one back add nothing
  forth_and_back : (h i : ℕ) → Joined g h (h ∷ i ∷ []) → doubled_area_lem at g (h ∷ i ∷ []) ≡ pos 0
  forth_and_back h i j =
      area-is at g (h ∷ i ∷ []) ∙ ap (λ z. area_term at g h +ℤ z) (+ℤ_idr (area_term at g i) ∙ back_term h i j.0 j.1) ∙ +ℤ_invr (area_term at g h)

  -- a ring that is not flat has three half-edges or more
  pub three_halves : (r : List ℕ) → Joined g (get_or r 0 0) r → (doubled_area_lem at g r ≡ pos 0 → ⊥) → 3 ≤ length r
  three_halves [] j d = absurd (d (area-is at g []))
  three_halves (h ∷ []) j d = absurd (d (area-is at g (h ∷ []) ∙ +ℤ_idr (area_term at g h) ∙ self_term _ _ (ap at (sym j))))
  three_halves (h ∷ i ∷ []) j d = absurd (d (forth_and_back h i j))
  three_halves (h ∷ i ∷ k ∷ r) j d = omega arith

-- ---- the rings of an arrangement

module _ (g : Arrangement) (sane : Sane g) where
  -- together they have at most two half-edges for each edge
  pub rings-within : length (flatten (minimal_rings g)) ≤ 2 * g.edges
  rings-within =
      let all = total-length (split_successor g) (halves g) g.active (split-permutes g sane) in
      omega (arith, ap (λ rs. length (flatten rs)) (minimal_rings_are g), all, below_le g.active (halves g))

module _ (g : Arrangement) (at : ℕ → Point) (key : ℕ → Key) (p : Ring → Bool) (shaped : (r : Ring) → p r ≡ true → r.doubled ≡ pos 0 → ⊥) where
  -- the doubled area of a ring
  ring-doubled : (r : List ℕ) → (ring_of at key g r).doubled ≡ doubled_area_lem at g r
  unfolding ring_of
  ring-doubled r = refl

  -- three half-edges for each that passes
  thrice_many : (ls : List (List ℕ)) → Each (λ r. Joined g (get_or r 0 0) r) ls → 3 * how_many p (map (ring_of at key g) ls) ≤ length (flatten ls)
  thrice_many [] e = omega arith
  thrice_many (r ∷ ls) e =
      let rest = thrice_many ls e.1 in
      by_test (p (ring_of at key g r))
      (λ t. omega (arith, ap bit t, rest, length-append r (flatten ls), three_halves at g r e.0 (λ z. shaped (ring_of at key g r) t (ring-doubled r ∙ z))))
      (λ f. omega (arith, ap bit f, rest, length-append r (flatten ls)))

  -- so at most two for each three edges
  pub few_shaped : Sane g → 3 * length (below (λ i. p (ring_at (map (ring_of at key g) (minimal_rings g)) i)) (length (map (ring_of at key g) (minimal_rings g)))) ≤ 2 * g.edges
  few_shaped sane =
      omega (arith, places-many p (map (ring_of at key g) (minimal_rings g)), thrice_many (minimal_rings g) (ring_rules g at sane).joined, rings-within g sane)

-- ---- the rings of a sound state

-- they are made from the half-edges of each
rings_are : (s : State) → rings_of s ≡ map (ring_of (point_of s) (node_key s) (arrangement s)) (minimal_rings (arrangement s))
unfolding rings_of
rings_are s = refl

-- as many edges
edges_are : (s : State) → (arrangement s).edges ≡ s.edges
unfolding arrangement
edges_are s = refl

-- a hole for each open ring
pub holes-many : (s : State) → length (holes_in s) ≡ length (below (λ i. is_open_lem (ring_at (rings_of s) i)) (length (rings_of s)))
unfolding holes_in
holes-many s =
    sym (length-map (holes_of (point_of s) (arrangement s) (rings_of s)) (λ h. h.ring)) ∙ ap length (hole_rules (point_of s) (arrangement s) (rings_of s)).order

module _ (l : Limits) (s : State) (ok : sound l s ≡ true) where
  -- of those that a test passes which no flat ring does
  few_passing : (p : Ring → Bool) → ((r : Ring) → p r ≡ true → r.doubled ≡ pos 0 → ⊥) → 3 * length (below (λ i. p (ring_at (rings_of s) i)) (length (rings_of s))) ≤ 2 * s.edges
  few_passing p shaped =
      let few = few_shaped (arrangement s) (point_of s) (node_key s) p shaped (sound-sane l s (is-sound l s ok)) in
      omega (arith, subst (λ rs. 3 * length (below (λ i. p (ring_at rs i)) (length rs)) ≤ 2 * (arrangement s).edges) (sym (rings_are s)) few, edges_are s)

  -- at most two enclosed rings for each three edges
  pub third-enclosed : 3 * length (below (λ i. enclosed (ring_at (rings_of s) i)) (length (rings_of s))) ≤ 2 * s.edges
  third-enclosed = few_passing enclosed (λ r t e. true_is_false (sym t ∙ ap (lt_z (pos 0)) e))

  -- at most as many open ones
  pub third_open : 3 * length (below (λ i. is_open_lem (ring_at (rings_of s) i)) (length (rings_of s))) ≤ 2 * s.edges
  third_open = few_passing is_open_lem (λ r t e. true_is_false (sym t ∙ ap (λ z. lt_z z (pos 0)) e))

  -- so the limits bound both
  pub shaped_enclosed : length (below (λ i. enclosed (ring_at (rings_of s) i)) (length (rings_of s))) ≤ shaped_rings l
  shaped_enclosed = omega (arith, third-enclosed, (is-sound l s ok).edges)

  -- the open ones too
  pub shaped_open : length (below (λ i. is_open_lem (ring_at (rings_of s) i)) (length (rings_of s))) ≤ shaped_rings l
  shaped_open = omega (arith, third_open, (is-sound l s ok).edges)

  -- no more enclosed rings than edges
  pub few_enclosed_lem : length (below (λ i. enclosed (ring_at (rings_of s) i)) (length (rings_of s))) ≤ s.edges
  few_enclosed_lem = omega (arith, third-enclosed)

  -- no more open ones
  pub few_open_lem : length (below (λ i. is_open_lem (ring_at (rings_of s) i)) (length (rings_of s))) ≤ s.edges
  few_open_lem = omega (arith, third_open)

  -- so a hole list with a record for each edge is always long enough
  pub few-holes : length (holes_in s) ≤ s.edges
  few-holes = omega (arith, holes-many s, few_open_lem)
