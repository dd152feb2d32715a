use Prim.Native.Nat.{ℕ, ◌+◌}
use native.Mathlib.Omega.{arith}
use mathlib.Core.Path.{◌≡◌, ap, ◌∙◌, subst}
use mathlib.Core.Bool.{true}
use mathlib.Core.List.{List}
use lib.ListN.{length, get_or, drop}
use lib.IntN.{ℤ, pos}
use mir.Syntax.{w64}
use mir.Val.{of_z, to_z}
use Rattle.lists.specs.Buffer.{Put}
use Rattle.lists.specs.Lists.{upto}
use Rattle.lists.proofs.Members.{all-below}
use Rattle.lists.proofs.Buffers.{Left, left-all, left-fits, left_put, left-none}
use Rattle.file_rules.specs.RingFile.{ring_at, cut_out, ring_bytes, lent}
use Rattle.file_rules.proofs.Signs.{back}
use Rattle.ring_writing.specs.Rings.{ring_of, bytes_at, writable_at}
use Rattle.ring_writing.proofs.Places.{places_from_lem, places-end, writable-is, record_size, bytes-size}
use Rattle.ring_writing.proofs.records.put_rings.Goals as goal

pub loop-i-init : goal.loop-i-init
loop-i-init c =
    let a = c.args in
    let size = bytes-size (let a = c.args in lent a.ring_first.now a.ring_length.now a.ring_face.now a.ring_doubled.now a.nodes.now) (upto a.count) c.requires.count_value in
    (omega arith, left-all 0 (bytes_at (let a = c.args in lent a.ring_first.now a.ring_length.now a.ring_face.now a.ring_doubled.now a.nodes.now) (upto a.count)) a.out.now (omega (arith, size, c.requires.count_in_bounds)))

-- its ring can be written
able : (c : goal.After-shared_slice_known-in-loop-i-3-1) → let a = c.args in let i = c.loop-i.i in writable_at a.ring_first.now a.ring_length.now (length a.nodes.now) i ≡ true
able c =
    let a = c.args in
    all-below (writable_at a.ring_first.now a.ring_length.now (length a.nodes.now)) a.count c.requires.count_value c.loop-i.i c.loop-i-test.true

pub put_ring-place-requires : goal.put_ring-place-requires
put_ring-place-requires c =
    let t = (let a = c.args in lent a.ring_first.now a.ring_length.now a.ring_face.now a.ring_doubled.now a.nodes.now) in
    let i = c.loop-i.i in
    let w = writable-is (get_or t.first i 0) (get_or t.length i 0) (length t.nodes) (able c) in
    let room = left-fits (ring_bytes (cut_out t.nodes (ring_at t i))) (bytes_at t (drop (i + 1) (upto c.args.count))) (let t = (let a = c.args in lent a.ring_first.now a.ring_length.now a.ring_face.now a.ring_doubled.now a.nodes.now) in
    let q = c.loop-i in
    subst (λ (l : List ℕ). Left 0 (bytes_at t (upto c.args.count)) c.args.out.now q.place l q.out)
    (ap (bytes_at t) (places_from_lem c.args.count q.i c.loop-i-test.true)) q.invariant.1) in
    (w.within, w.few, omega (arith, room, record_size t i (able c)))

pub loop-i-preserved : goal.loop-i-preserved
loop-i-preserved c =
    let t = (let a = c.args in lent a.ring_first.now a.ring_length.now a.ring_face.now a.ring_doubled.now a.nodes.now) in
    let i = c.loop-i.i in
    let same : to_z w64 (of_z w64 (get_or t.doubled i (pos 0))) ≡ get_or t.doubled i (pos 0) = back (get_or t.doubled i (pos 0)) c.put_ring-arg-in-loop-i-1.given in (
      omega arith,
      left_put (subst (λ (d : ℤ). Put c.loop-i.place (ring_bytes (cut_out t.nodes (ring_of (get_or t.first i 0) (get_or t.length i 0) (get_or t.face i 0) d))) c.loop-i.out c.put_ring-place.new.out c.put_ring-place.result) same c.put_ring-place.ensures) (let t = (let a = c.args in lent a.ring_first.now a.ring_length.now a.ring_face.now a.ring_doubled.now a.nodes.now) in
          let q = c.loop-i in
          subst (λ (l : List ℕ). Left 0 (bytes_at t (upto c.args.count)) c.args.out.now q.place l q.out)
          (ap (bytes_at t) (places_from_lem c.args.count q.i c.loop-i-test.true)) q.invariant.1),
    )

pub returns : goal.returns
returns c =
    let q = c.loop-i in
    let a = c.args in
    let e : q.i ≡ a.count = omega arith in
    left-none
    (subst (λ (l : List ℕ). Left 0 (bytes_at (let a = c.args in lent a.ring_first.now a.ring_length.now a.ring_face.now a.ring_doubled.now a.nodes.now) (upto a.count)) a.out.now q.place l q.out)
    (ap (λ (i : ℕ). bytes_at (let a = c.args in lent a.ring_first.now a.ring_length.now a.ring_face.now a.ring_doubled.now a.nodes.now) (drop i (upto a.count))) e ∙ ap (bytes_at (let a = c.args in lent a.ring_first.now a.ring_length.now a.ring_face.now a.ring_doubled.now a.nodes.now)) (places-end a.count))
    q.invariant.1)
