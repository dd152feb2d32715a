-- The doubled area of a ring of a sound state is a whole number that floats hold, and the area replied is half of it.
use Prim.Native.Nat.{ℕ, zero, suc, ◌*◌, ◌^◌, ◌<◌, ◌≤◌}
use native.Mathlib.Omega.{arith}
use native.Mathlib.Nat.{mul-le-mul_right}
use mathlib.Core.Path.{◌≡◌, refl, sym, subst}
use mathlib.Core.Bool.{true}
use mathlib.Core.List.{List, [], ◌∷◌}
use lib.Dec.{T}
use lib.ListN.{length, get_or}
use lib.IntN.{ℤ, pos, negsuc, nat_abs, ◌+ℤ◌, ◌*ℤ◌}
use lib.Ieee.{nan, mul, of_int, round}
use Rattle.geometry.specs.Coordinate.{coordinate}
use Rattle.geometry.proofs.Integers.{nat_abs_add, nat_abs_sub, mul-bound}
use Rattle.geometry.proofs.Exact.{coordinate_bound_lem}
use Rattle.lists.specs.Lists.{In, Each}
use Rattle.lists.proofs.Counts.{in_head, in_tail}
use Rattle.lists.proofs.Tests.{both}
use Rattle.rules.specs.Limits.{Limits, Fine}
use Rattle.rules.specs.HalfEdge.{twin}
use Rattle.rules.specs.Cycles.{halves, cycle}
use Rattle.rules.specs.Split.{split_successor, minimal_rings}
use Rattle.rules.specs.Face.{cross_term, doubled_area_lem}
use Rattle.rules.specs.State.{State, arrangement, point_of, sound_coordinates, sound}
use Rattle.rules.specs.Ringing.{side_by, side_area_lem}
use Rattle.rules.proofs.Twin.{twin-below}
use Rattle.rules.proofs.CycleLaws.{cycle-is}
use Rattle.rules.proofs.Partition.{true_start}
use Rattle.rules.proofs.Rings.{minimal_rings_are, split-permutes, each_below}
use Rattle.rules.proofs.Soundness.{Sound, is-sound}
use Rattle.rules.proofs.Tables.{source-below, sound-sane}
use Rattle.rules.proofs.Claims.{halved}

-- the area replied by a ring's side is half of the whole number, 0.0 where flat
pub side-half : (z : ℤ) → side_area_lem (side_by z (halved z)) ≡ halved z
unfolding mul of_int round
side-half (pos zero) = refl
side-half (pos (suc n)) = refl
side-half (negsuc n) = refl

-- the whole-number area, from the first half-edge on
area-step : (s : State) (h : ℕ) (hs : List ℕ) → doubled_area_lem (point_of s) (arrangement s) (h ∷ hs)
    ≡ cross_term (point_of s (get_or s.source h 0)) (point_of s (get_or s.source (twin h) 0)) +ℤ doubled_area_lem (point_of s) (arrangement s) hs
unfolding doubled_area_lem arrangement
area-step s h hs = refl

-- of none
area-none : (s : State) → doubled_area_lem (point_of s) (arrangement s) [] ≡ pos 0
unfolding doubled_area_lem
area-none s = refl

module _ (l : Limits) (s : State) (ok : Sound l s) where
  -- a node's coordinates are within the bound
  value-bound : (n : ℕ) → n < s.nodes → (nat_abs (point_of s n).x ≤ l.bound) × (nat_abs (point_of s n).y ≤ l.bound)
  unfolding sound_coordinates point_of
  value-bound n q =
      let a = get_or s.node_x n nan in
      let b = get_or s.node_y n nan in
      let e = both (coordinate l.bound a) (coordinate l.bound b) (ok.coordinates n q) in
      (coordinate_bound_lem l.bound a (subst T (sym e.0) tt), coordinate_bound_lem l.bound b (subst T (sym e.1) tt))

  -- so the term of a half-edge is within twice the bound's square
  term_bound : (h : ℕ) → h < 2 * s.edges
      → nat_abs (cross_term (point_of s (get_or s.source h 0)) (point_of s (get_or s.source (twin h) 0))) ≤ 2 * (l.bound * l.bound)
  term_bound h q =
      let a = get_or s.source h 0 in
      let b = get_or s.source (twin h) 0 in
      let p = point_of s a in
      let r = point_of s b in
      let va = value-bound a (source-below l s ok h q) in
      let vb = value-bound b (source-below l s ok (twin h) (twin-below s.edges h q)) in
      omega (
        arith,
        nat_abs_sub (p.x *ℤ r.y) (r.x *ℤ p.y),
        mul-bound p.x r.y l.bound l.bound va.0 vb.1,
        mul-bound r.x p.y l.bound l.bound vb.0 va.1,
      )

  -- and the doubled area within as much for each half-edge
  area-bound : (square : ℕ) → l.bound * l.bound ≤ square → (ring : List ℕ) → ((h : ℕ) → In h ring → h < 2 * s.edges)
      → nat_abs (doubled_area_lem (point_of s) (arrangement s) ring) ≤ length ring * (2 * square)
  area-bound square k [] low = rw (area-none s) (omega arith)
  area-bound square k (i ∷ ring) low =
      let d = doubled_area_lem (point_of s) (arrangement s) ring in
      let t = cross_term (point_of s (get_or s.source i 0)) (point_of s (get_or s.source (twin i) 0)) in
      rw (area-step s i ring)
      (omega (arith, nat_abs_add t d, term_bound i (low i (in_head i i ring refl)), area-bound square k ring (λ h m. low h (in_tail h i ring m))))

-- so each ring's is at most 2 ^ 53
pub areas-small : (l : Limits) → Fine l → (s : State) → sound l s ≡ true → Each (λ r. nat_abs (doubled_area_lem (point_of s) (arrangement s) r) ≤ 2 ^ 53) (minimal_rings (arrangement s))
unfolding arrangement
areas-small l fine s e =
    let ok = is-sound l s e in
    let g = arrangement s in
    let f = split_successor g in
    let n : ℕ = halves g in
    let t = split-permutes g (sound-sane l s ok) in
    let square : ℕ = l.bound * l.bound in
    rw (minimal_rings_are g) (each_below _ (cycle f n) _ n (λ k q u.
    let c = cycle-is f n g.active t k (q, (true_start f n g.active k u).0) in
    let room : length (cycle f n k) * (2 * square) ≤ 2 * l.edges * (2 * square) = mul-le-mul_right (2 * square) (omega (arith, c.fits, ok.edges)) in
    omega (arith, area-bound l s ok square (omega arith) (cycle f n k) (λ h m. (c.live h m).0), fine.areas)))
