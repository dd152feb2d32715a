-- The float area of every ring of a sound state is exactly half of its doubled area in whole numbers.
use Prim.Native.Nat.{ℕ, zero, suc, ◌+◌, ◌*◌, ◌^◌, ◌<◌, ◌≤◌}
use native.Mathlib.Omega.{arith}
use native.Mathlib.Nat.{mul-le-mul_right, le_refl}
use mathlib.Core.Path.{◌≡◌, refl, sym, ap, subst, ◌∙◌}
use mathlib.Core.Bool.{true, false}
use mathlib.Core.List.{List, [], ◌∷◌}
use lib.Dec.{T, eqb}
use lib.ListN.{length, get_or}
use lib.IntN.{ℤ, pos, negsuc, nat_abs, ◌+ℤ◌, ◌-ℤ◌, ◌*ℤ◌, neg_ℤ, +ℤ_assoc, +ℤ_idr, +ℤ_idl}
use lib.Ieee.{Float, nan, fin, binary64, add, sub, mul, of_int, round}
use Rattle.geometry.specs.Coordinate.{coordinate, value}
use Rattle.geometry.proofs.Integers.{nat_abs_add, nat_abs_sub}
use Rattle.geometry.proofs.Exact.{add_of_int, sub_of_int}
use Rattle.geometry.proofs.Steps.{Sized, sized-mul, of_coordinate}
use Rattle.lists.specs.Lists.{In, Each}
use Rattle.lists.proofs.Counts.{by_test, in_head, in_tail}
use Rattle.lists.proofs.Tests.{both}
use Rattle.rules.specs.Limits.{Limits, Fine}
use Rattle.rules.specs.HalfEdge.{twin}
use Rattle.rules.specs.Cycles.{walk, cycle, halves}
use Rattle.rules.specs.Split.{split_successor, minimal_rings}
use Rattle.rules.specs.Face.{cross_term, doubled_area_lem}
use Rattle.rules.specs.State.{State, arrangement, point_of, sound_coordinates, sound}
use Rattle.rules.specs.Ringing.{float_sum, float_area}
use Rattle.rules.proofs.CycleLaws.{cycle-live}
use Rattle.rules.proofs.Partition.{true_start}
use Rattle.rules.proofs.Twin.{twin-below}
use Rattle.rules.proofs.Rings.{minimal_rings_are, split-permutes, each_below}
use Rattle.rules.proofs.Soundness.{Sound, is-sound}
use Rattle.rules.proofs.Tables.{source-below, sound-sane}
use Rattle.rules.proofs.Claims.{ExactAreas, SmallAreas, halved}

-- ---- the fold, step by step, with its float operations shut

module _ (s : State) where
  -- where half-edge h starts
  abbrev from : ℕ → ℕ
  from h = get_or s.source h 0

  -- the floats of node n
  abbrev px : ℕ → Float
  px n = get_or s.node_x n nan

  abbrev py : ℕ → Float
  py n = get_or s.node_y n nan

  -- one half-edge more
  sum_step : (t : Float) (h : ℕ) (hs : List ℕ)
      → float_sum s t (h ∷ hs)
      ≡ float_sum s (sub binary64 (add binary64 t (mul binary64 (px (from h)) (py (from (twin h))))) (mul binary64 (px (from (twin h))) (py (from h)))) hs
  unfolding float_sum
  sum_step t h hs = refl

  sum-none : (t : Float) → float_sum s t [] ≡ t
  unfolding float_sum
  sum-none t = refl

  -- the term of a half-edge, in whole numbers
  abbrev term : ℕ → ℤ
  term h = cross_term (point_of s (from h)) (point_of s (from (twin h)))

  area-step : (h : ℕ) (hs : List ℕ) → doubled_area_lem (point_of s) (arrangement s) (h ∷ hs) ≡ term h +ℤ doubled_area_lem (point_of s) (arrangement s) hs
  unfolding doubled_area_lem arrangement
  area-step h hs = refl

  area-none : doubled_area_lem (point_of s) (arrangement s) [] ≡ pos 0
  unfolding doubled_area_lem
  area-none = refl

  -- half of the sum
  area-half : (ring : List ℕ) → float_area s ring ≡ mul binary64 (float_sum s (fin false 0 (pos 0)) ring) (fin false 1 (negsuc 0))
  unfolding float_area
  area-half ring = refl

  term_is : (h : ℕ) → term h ≡ value (px (from h)) *ℤ value (py (from (twin h))) -ℤ value (px (from (twin h))) *ℤ value (py (from h))
  unfolding point_of
  term_is h = refl

-- +0.0 is the float of 0
zero_is : ◌≡◌ {A = Float} (fin false 0 (pos 0)) (of_int binary64 (pos 0))
unfolding of_int round
zero_is = refl

-- ---- exact, while the sizes of the terms add up to at most 2 ^ 53

-- taken one after another or together
regroup : (z u v d : ℤ) → z +ℤ u -ℤ v +ℤ d ≡ z +ℤ (u -ℤ v +ℤ d)
regroup z u v d = ap (λ w. w +ℤ d) (+ℤ_assoc z u (neg_ℤ v)) ∙ +ℤ_assoc z (u -ℤ v) d

module _ (l : Limits) (s : State) (ok : Sound l s) where
  -- a node's coordinates are whole numbers within the bound
  coordinates : (n : ℕ) → n < s.nodes → T (coordinate l.bound (px s n)) × T (coordinate l.bound (py s n))
  unfolding sound_coordinates
  coordinates n q =
      let e = both (coordinate l.bound (px s n)) (coordinate l.bound (py s n)) (ok.coordinates n q) in
      (subst T (sym e.0) tt, subst T (sym e.1) tt)

  -- so is the product of one's x and another's y, within the bound's square
  product : (m n : ℕ) → m < s.nodes → n < s.nodes → l.bound * l.bound ≤ 2 ^ 53
      → Sized (mul binary64 (px s m) (py s n)) (value (px s m) *ℤ value (py s n)) (l.bound * l.bound)
  product m n p q fine =
      sized-mul (of_coordinate l.bound (px s m) (coordinates m p).0) (of_coordinate l.bound (py s n) (coordinates n q).1) fine

  -- the fold from a whole number on
  sum-exact : (square : ℕ) → l.bound * l.bound ≤ square → (ring : List ℕ) → ((h : ℕ) → In h ring → h < 2 * s.edges) → (z : ℤ)
      → nat_abs z + length ring * (2 * square) ≤ 2 ^ 53
      → float_sum s (of_int binary64 z) ring ≡ of_int binary64 (z +ℤ doubled_area_lem (point_of s) (arrangement s) ring)
  sum-exact square fits [] low z h = sum-none s (of_int binary64 z) ∙ ap (of_int binary64) (sym (ap (λ w. z +ℤ w) (area-none s) ∙ +ℤ_idr z))
  sum-exact square fits (i ∷ ring) low z h =
      let li = low i (in_head i i ring refl) in
      let a = source-below l s ok i li in
      let b = source-below l s ok (twin i) (twin-below s.edges i li) in
      let small : l.bound * l.bound ≤ 2 ^ 53 = omega arith in
      let p = product (from s i) (from s (twin i)) a b small in
      let q = product (from s (twin i)) (from s i) b a small in
      let u = value (px s (from s i)) *ℤ value (py s (from s (twin i))) in
      let v = value (px s (from s (twin i))) *ℤ value (py s (from s i)) in
      let d = doubled_area_lem (point_of s) (arrangement s) ring in
      let k : nat_abs (z +ℤ u) ≤ nat_abs z + square = omega (arith, nat_abs_add z u, p.small) in
      let m : nat_abs (z +ℤ u -ℤ v) ≤ nat_abs z + 2 * square = omega (arith, nat_abs_sub (z +ℤ u) v, q.small) in
      sum_step s (of_int binary64 z) i ring
      ∙ ap (λ t. float_sum s t ring)
      (ap (λ t. sub binary64 t (mul binary64 (px s (from s (twin i))) (py s (from s i)))) (add_of_int z (omega arith) p.whole)
      ∙ sub_of_int (z +ℤ u) (omega arith) q.whole)
      ∙ sum-exact square fits ring (λ j n. low j (in_tail j i ring n)) (z +ℤ u -ℤ v) (omega arith)
      ∙ ap (of_int binary64) (regroup z u v d ∙ ap (λ w. z +ℤ w) (sym (area-step s i ring ∙ ap (λ t. t +ℤ d) (term_is s i))))

  -- the whole ring, from +0.0
  area-exact : Fine l → (ring : List ℕ) → ((h : ℕ) → In h ring → h < 2 * s.edges) → length ring ≤ 2 * s.edges
      → float_area s ring ≡ halved (doubled_area_lem (point_of s) (arrangement s) ring)
  area-exact fine ring low short =
      let square = l.bound * l.bound in
      let room : length ring * (2 * square) ≤ 2 * l.edges * (2 * square) = mul-le-mul_right (2 * square) (omega (arith, ok.edges)) in
      area-half s ring
      ∙ ap (λ t. mul binary64 t (fin false 1 (negsuc 0)))
      (ap (λ t. float_sum s t ring) zero_is ∙ sum-exact square (le_refl square) ring low (pos 0) (omega (arith, fine.areas)) ∙ ap (of_int binary64) (+ℤ_idl _))

  -- no term is larger than the bound allows, so a ring's doubled area is within the floats that hold every whole number
  area-size : l.bound * l.bound ≤ 2 ^ 53 → (ring : List ℕ) → ((h : ℕ) → In h ring → h < 2 * s.edges)
      → nat_abs (doubled_area_lem (point_of s) (arrangement s) ring) ≤ length ring * (2 * (l.bound * l.bound))
  area-size small [] low = omega (arith, ap nat_abs (area-none s))
  area-size small (i ∷ ring) low =
      let li = low i (in_head i i ring refl) in
      let a = source-below l s ok i li in
      let b = source-below l s ok (twin i) (twin-below s.edges i li) in
      let u = value (px s (from s i)) *ℤ value (py s (from s (twin i))) in
      let v = value (px s (from s (twin i))) *ℤ value (py s (from s i)) in
      let d = doubled_area_lem (point_of s) (arrangement s) ring in
      omega (
        arith,
        ap nat_abs (area-step s i ring ∙ ap (λ t. t +ℤ d) (term_is s i)),
        nat_abs_add (u -ℤ v) d,
        nat_abs_sub u v,
        (product (from s i) (from s (twin i)) a b small).small,
        (product (from s (twin i)) (from s i) b a small).small,
        area-size small ring (λ j n. low j (in_tail j i ring n)),
      )

  -- within the limits it is at most 2 ^ 53
  area-fits : Fine l → (ring : List ℕ) → ((h : ℕ) → In h ring → h < 2 * s.edges) → length ring ≤ 2 * s.edges
      → nat_abs (doubled_area_lem (point_of s) (arrangement s) ring) ≤ 2 ^ 53
  area-fits fine [] low short = omega (arith, ap nat_abs (area-none s))
  area-fits fine (i ∷ ring) low short =
      let square = l.bound * l.bound in
      let room : length (i ∷ ring) * (2 * square) ≤ 2 * l.edges * (2 * square) = mul-le-mul_right (2 * square) (omega (arith, ok.edges)) in
      omega (arith, fine.areas, area-size (omega (arith, fine.areas)) (i ∷ ring) low)

-- ---- the rings

-- a walk is no longer than its fuel
walk-short : (f : ℕ → ℕ) (fuel start cur : ℕ) → length (walk f fuel start cur) ≤ fuel
walk-short f zero start cur = omega arith
walk-short f (suc fuel) start cur = by_test (eqb (f cur) start)
    (λ e. rw e (omega arith))
    (λ e. rw e (omega (arith, walk-short f fuel start (f cur))))

-- each ring of a sound state holds half-edges, and no more than there are
each-ring : (l : Limits) (s : State) → sound l s ≡ true → (P : List ℕ → Type 0)
    → ((r : List ℕ) → ((h : ℕ) → In h r → h < 2 * s.edges) → length r ≤ 2 * s.edges → P r) → Each P (minimal_rings (arrangement s))
unfolding arrangement cycle
each-ring l s e P holds =
    let g = arrangement s in
    let sane = sound-sane l s (is-sound l s e) in
    let f = split_successor g in
    rw (minimal_rings_are g) (each_below _ (cycle f (halves g)) _ (halves g) (λ k q t.
    holds (cycle f (halves g) k)
    (λ h m. (cycle-live f (halves g) g.active (split-permutes g sane) k h (q, (true_start f (halves g) g.active k t).0) m).0)
    (walk-short f (halves g) k k)))

-- the area of each ring of a sound state is exact
pub exact-areas : (l : Limits) → Fine l → (s : State) → sound l s ≡ true → ExactAreas s
exact-areas l fine s e = each-ring l s e _ (area-exact l s (is-sound l s e) fine)

-- and its doubled area is small enough
pub small-areas : (l : Limits) → Fine l → (s : State) → sound l s ≡ true → SmallAreas s
small-areas l fine s e = each-ring l s e _ (area-fits l s (is-sound l s e) fine)
