-- `put_ring` meets its contract: the parts of the line in a row.
use mathlib.Core.Path.{◌≡◌, sym, subst}
use mathlib.Core.List.{List, ◌++◌}
use Prim.Native.Nat.{ℕ, ◌+◌, ◌<◌, ◌≤◌}
use native.Mathlib.Omega.{arith}
use lib.IntN.{ℤ}
use lib.ListN.{length, get_or, take, drop}
use mir.Syntax.{w64}
use mir.Val.{to_z, of_z}
use Rattle.file_rules.specs.Decimal.{ascii, signed_decimal}
use Rattle.file_rules.specs.Lines.{labelled, spaced, ring_nodes, ring_line}
use Rattle.file_rules.proofs.Signs.{back}
use Rattle.listing_text.proofs.Lengths.{ring-short}
use Rattle.listing_text.proofs.Nodes.{ring-length}
use Rattle.lists.proofs.Buffers.{Left, left-all, left-room, left-fits, left_put, left-last}
use Rattle.listing_text.proofs.put_ring.Goals as goal
use Rattle.listing_text.proofs.put_ring.Goals.{After-face_number-number}

-- what is left on the way
abbrev from_nodes : List ℕ → List ℕ
from_nodes ns = spaced ns ++ ascii "\n"

abbrev from_word : List ℕ → List ℕ
from_word ns = ascii " nodes" ++ from_nodes ns

abbrev from_area : ℤ → List ℕ → List ℕ
from_area area ns = signed_decimal area ++ from_word ns

abbrev from_doubled : ℤ → List ℕ → List ℕ
from_doubled area ns = ascii " doubled " ++ from_area area ns

abbrev from_face : ℕ → ℤ → List ℕ → List ℕ
from_face number area ns = labelled (ascii " face ") number ++ from_doubled area ns

-- the line, by its numbers as they are put
whole : (at ring face number : ℕ) (doubled area : ℤ) (ns out : List ℕ) → face ≡ number → doubled ≡ area → at + length (ring_line ring face doubled ns) ≤ length out
    → Left at (ring_line ring face doubled ns) out at (labelled (ascii "ring ") ring ++ from_face number area ns) out
unfolding ring_line
whole at ring face number doubled area ns out f z h =
    let line = ring_line ring face doubled ns in
    let e : line ≡ ring_line ring number area ns = λ i. ring_line ring (f i) (z i) ns in
    subst (λ (r : List ℕ). Left at line out at r out) e (left-all at line out h)

abbrev nodes : After-face_number-number → List ℕ
nodes c = let a = c.args in ring_nodes a.dir_edges_src.now a.half_edges.now a.first a.ring_length

abbrev area : After-face_number-number → ℤ
area c = to_z w64 (of_z w64 c.args.doubled)

abbrev To : After-face_number-number → ℕ → List ℕ → List ℕ → Type 0
To c place rest new = let a = c.args in Left a.at (ring_line a.ring a.face.0 a.doubled (nodes c)) a.out.now place rest new

start : (c : After-face_number-number) → ((h : ℕ) → get_or c.args.dir_edges_src.now h 0 < 65536)
    → To c c.args.at (labelled (ascii "ring ") c.args.ring ++ from_face c.face_number-number.result (area c) (nodes c)) c.args.out.now
start c small =
    let a = c.args in
    let n = c.face_number-number.ensures in
    let face : a.face.0 < 65536 = subst (λ (x : ℕ). x < 65536) n.0 n.1 in
    let s = ring-short a.ring a.face.0 a.doubled a.dir_edges_src.now (take a.ring_length (drop a.first a.half_edges.now)) c.ranges.ring.fits face c.ranges.doubled.sfits small in
    let l = ring-length a.dir_edges_src.now a.half_edges.now a.first a.ring_length c.requires.ring_length_in_bounds in
    whole a.at a.ring a.face.0 c.face_number-number.result a.doubled (area c) (nodes c) a.out.now (sym n.0) (sym (back a.doubled c.ranges.doubled.sfits))
    (omega (arith, c.requires.ring_length_in_bounds_2, s, l))

pub put_labelled-place-requires : goal.put_labelled-place-requires
put_labelled-place-requires c =
    let k = (goal.at.put_labelled-place-requires c).After-face_number-number in
    left-fits (labelled (ascii "ring ") c.args.ring) (from_face c.face_number-number.result (area k) (nodes k)) (start k (λ h. omega (arith, c.type_inv.dir_edges_src h)))

pub put_labelled-place-requires-2 : goal.put_labelled-place-requires-2
put_labelled-place-requires-2 c =
    let k = (goal.at.put_labelled-place-requires-2 c).After-face_number-number in
    left-fits (labelled (ascii " face ") c.face_number-number.result) (from_doubled (area k) (nodes k))
    (left_put c.put_labelled-place.ensures (start k (λ h. omega (arith, c.type_inv.dir_edges_src h))))

pub put_text-place-requires : goal.put_text-place-requires
put_text-place-requires c =
    let k = (goal.at.put_text-place-requires c).After-face_number-number in
    left-fits (ascii " doubled ") (from_area (area k) (nodes k))
    (left_put c.put_labelled-place-2.ensures (left_put c.put_labelled-place.ensures (start k (λ h. omega (arith, c.type_inv.dir_edges_src h)))))

pub put_signed-place-requires : goal.put_signed-place-requires
put_signed-place-requires c =
    let k = (goal.at.put_signed-place-requires c).After-face_number-number in
    let l = left_put c.put_labelled-place-2.ensures (left_put c.put_labelled-place.ensures (start k (λ h. omega (arith, c.type_inv.dir_edges_src h)))) in
    left-fits (signed_decimal (area k)) (from_word (nodes k)) (left_put c.put_text-place.ensures l)

pub put_text-place-requires-2 : goal.put_text-place-requires-2
put_text-place-requires-2 c =
    let k = (goal.at.put_text-place-requires-2 c).After-face_number-number in
    let l = left_put c.put_labelled-place-2.ensures (left_put c.put_labelled-place.ensures (start k (λ h. omega (arith, c.type_inv.dir_edges_src h)))) in
    left-fits (ascii " nodes") (from_nodes (nodes k)) (left_put c.put_signed-place.ensures (left_put c.put_text-place.ensures l))

pub put_nodes-place-requires : goal.put_nodes-place-requires
put_nodes-place-requires c =
    let k = (goal.at.put_nodes-place-requires c).After-face_number-number in
    let l = left_put c.put_labelled-place-2.ensures (left_put c.put_labelled-place.ensures (start k (λ h. omega (arith, c.type_inv.dir_edges_src h)))) in
    record {
      ring_length_in_bounds = c.requires.ring_length_in_bounds;
      ring_length_in_bounds_2 = left-fits (spaced (nodes k)) (ascii "\n")
          (left_put c.put_text-place-2.ensures (left_put c.put_signed-place.ensures (left_put c.put_text-place.ensures l)));
    }

pub put_text-requires : goal.put_text-requires
put_text-requires c =
    let k = (goal.at.put_text-requires c).After-face_number-number in
    let l = left_put c.put_labelled-place-2.ensures (left_put c.put_labelled-place.ensures (start k (λ h. omega (arith, c.type_inv.dir_edges_src h)))) in
    left-room {rest = ascii "\n"}
    (left_put c.put_nodes-place.ensures (left_put c.put_text-place-2.ensures (left_put c.put_signed-place.ensures (left_put c.put_text-place.ensures l))))

pub returns : goal.returns
returns c =
    let k = (goal.at.returns c).After-face_number-number in
    let l = left_put c.put_labelled-place-2.ensures (left_put c.put_labelled-place.ensures (start k (λ h. omega (arith, c.type_inv.dir_edges_src h)))) in
    left-last c.put_text.ensures
    (left_put c.put_nodes-place.ensures (left_put c.put_text-place-2.ensures (left_put c.put_signed-place.ensures (left_put c.put_text-place.ensures l))))
