-- Tables that follow a sketch have its holes: nodes and points have the same keys, so their rings have the same face numbers.
use Prim.Native.Nat.{ℕ, ◌^◌, ◌<◌, ◌≤◌}
use native.Mathlib.Omega.{arith}
use mathlib.Core.Path.{◌≡◌, refl, sym, ap, ap₂, subst, ◌∙◌}
use mathlib.Core.Bool.{true}
use mathlib.Core.List.{map}
use lib.Dec.{T}
use lib.ListN.{get_or}
use lib.Ieee.{Float, nan, binary64, of_int}
use lib.Ieee.Fits.{of_int-fits}
use Rattle.geometry.specs.Coordinate.{coordinate, value, canonical_bits}
use Rattle.geometry.proofs.Exact.{whole_of_int, whole_coordinate, whole_value, coordinate_bound_lem}
use Rattle.geometry.proofs.Keys.{key_of-value}
use Rattle.rules.specs.Keys.{key_of, Is64}
use Rattle.rules.specs.Split.{minimal_rings}
use Rattle.rules.specs.Face.{ring_of}
use Rattle.rules.specs.Limits.{Limits}
use Rattle.rules.specs.State.{State, arrangement, point_of, node_key, sound_coordinates}
use Rattle.rules.specs.Holes.{holes_of}
use Rattle.rules.specs.Extraction.{holes_in}
use Rattle.rules.specs.Sketch.{Sketch, point_at_lem, sketched}
use Rattle.rules.specs.SketchRings.{point_key, sketch_holes}
use Rattle.rules.proofs.Tables.{sound-sane}
use Rattle.rules.proofs.Sketches.{good-sane}
use Rattle.rules.proofs.Claims.{Drawn, nodes_are}
use Rattle.rules.proofs.HolesAgree.{keyed-holes_agree}
use Rattle.rules.proofs.Additions.{coordinates_both}

-- ---- the keys of a sketch's points

-- the bits of a coordinate are those of its whole number
bits_of_value : (b : ℕ) (x : Float) → b ≤ 2 ^ 53 → Is64 x → coordinate b x ≡ true → canonical_bits x ≡ canonical_bits (of_int binary64 (value x))
bits_of_value b x fine fits c =
    let t = subst T (sym c) tt in
    let small = coordinate_bound_lem b x t in
    let w = whole_of_int (value x) (omega arith) in
    key_of-value b x (of_int binary64 (value x)) fits (of_int-fits binary64 (value x)) t (whole_coordinate b w small) fine (sym (whole_value w))

-- a node's key is that of the point where it lies
node_key_lem : (l : Limits) (s : State) (n : ℕ) → l.bound ≤ 2 ^ 53 → sound_coordinates l s n ≡ true → Is64 (get_or s.node_x n nan) → Is64 (get_or s.node_y n nan)
    → node_key s n ≡ point_key (point_of s n)
unfolding node_key point_key point_of key_of
node_key_lem l s n fine e fx fy =
    let c = coordinates_both l s n e in
    ap₂ (λ a b. record { x = a; y = b }) (bits_of_value l.bound _ fine fx c.0) (bits_of_value l.bound _ fine fy c.1)

-- ---- the holes of a sketch

-- the holes of a state, its rings made from their half-edges
holes_are : (s : State)
    → holes_in s ≡ holes_of (point_of s) (arrangement s) (map (ring_of (point_of s) (node_key s) (arrangement s)) (minimal_rings (arrangement s)))
unfolding holes_in
holes_are s = refl

-- those of a sketch
sketch_holes_are : (k : Sketch)
    → sketch_holes k ≡ holes_of (point_at_lem k) (sketched k) (map (ring_of (point_at_lem k) (λ n. point_key (point_at_lem k n)) (sketched k)) (minimal_rings (sketched k)))
unfolding sketch_holes
sketch_holes_are k = refl

module _ (l : Limits) (fine : l.bound ≤ 2 ^ 53) (s : State) (k : Sketch) (d : Drawn l s k) where
  -- nodes and points have the same keys
  keys-drawn : (n : ℕ) → n < (arrangement s).nodes → node_key s n ≡ point_key (point_at_lem k n)
  keys-drawn n h =
      let low : n < s.nodes = omega (arith, nodes_are s) in
      let f = d.tracks.stored n low in
      node_key_lem l s n fine (d.ok.coordinates n low) f.0 f.1 ∙ ap point_key (d.tracks.points n low)

  -- so tables and sketch have the same holes
  pub holes-drawn : holes_in s ≡ sketch_holes k
  holes-drawn =
      holes_are s
      ∙ keyed-holes_agree (arrangement s) (sketched k) (sound-sane l s d.ok) (good-sane k d.good) d.same (point_of s) (point_at_lem k)
      (λ n h. d.tracks.points n (omega (arith, nodes_are s))) (node_key s) (λ n. point_key (point_at_lem k n)) keys-drawn
      ∙ sym (sketch_holes_are k)
