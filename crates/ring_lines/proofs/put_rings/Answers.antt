use native.Mathlib.Omega.{arith}
use mathlib.Core.Path.{◌≡◌, refl, subst, ◌∙◌}
use Rattle.lists.specs.Buffer.{Put}
use Rattle.rules.specs.Listing.{lines_of}
use Rattle.ring_lines.proofs.RingTexts.{no_lines, one_line, line-room}
use Rattle.ring_lines.proofs.put_rings.Goals as goal

pub loop-k-init : goal.loop-k-init
loop-k-init c = (omega arith, refl, λ rings shown e. no_lines c.args.at c.args.out.now)

pub put_line-place-requires : goal.put_line-place-requires
put_line-place-requires c =
    let a = c.args in
    let p = c.requires in
    let q = c.loop-k in
    let room =
    line-room p.0 a.half_edges.now a.ring_first.now a.ring_length.now a.ring_face.now a.ring_area.now p.1 a.dir_edges_src.now
    (λ h. omega (arith, c.type_inv.dir_edges_src h)) (λ h. omega (arith, c.type_inv.ring_face h))
    a.at a.out.now q.out q.place q.k (omega (arith, p.2, c.loop-k-test.true)) (q.invariant.2 p.0 p.1 p.2) (omega (arith, q.invariant.1, p.3))
    in
    (p.0, p.1, omega (arith, p.2, c.loop-k-test.true), room)

pub loop-k-preserved : goal.loop-k-preserved
loop-k-preserved c =
    let a = c.args in
    let q = c.loop-k in
    let t = c.put_line-place in (
      omega arith,
      t.auto.out ∙ q.invariant.1,
      λ rings shown e. let p = q.invariant.2 rings shown e in
          let room =
          line-room rings a.half_edges.now a.ring_first.now a.ring_length.now a.ring_face.now a.ring_area.now shown a.dir_edges_src.now
          (λ h. omega (arith, c.type_inv.dir_edges_src h)) (λ h. omega (arith, c.type_inv.ring_face h))
          a.at a.out.now q.out q.place q.k (omega (arith, e, c.loop-k-test.true)) p (omega (arith, q.invariant.1, c.requires.3))
          in
          one_line a.dir_edges_src.now rings a.at q.k a.out.now q.out t.new.out q.place t.result
          p (t.ensures rings shown (omega (arith, e, c.loop-k-test.true))) (omega (arith, room, q.invariant.1)),
    )

pub returns : goal.returns
returns c =
    λ rings shown e.
    let a = c.args in
    let q = c.loop-k in
    let z : q.k ≡ a.count = omega arith in
    subst (λ n. Put a.at (lines_of a.dir_edges_src.now rings n) a.out.now q.out q.place) z (q.invariant.2 rings shown e)
