use Prim.Native.Nat.{ℕ, ◌+◌, ◌<◌}
use native.Mathlib.Omega.{arith}
use mathlib.Core.Path.{◌≡◌, sym, subst, ◌∙◌}
use lib.ListN.{get_or, take, set}
use lib.Seq.{length-take-le, get_or-take}
use Rattle.faces.proofs.Places.{Written, written_none, once-below, written_more, written_all}
use Rattle.faces.proofs.numbers.write_places.Goals as goal

pub loop-p-init : goal.loop-p-init
loop-p-init c = (written_none (take c.args.count c.args.order.now) c.args.count c.args.faces.now, omega arith)

-- the ring at place p
ring : (c : goal.After-from-ring) → c.from-ring.result ≡ get_or (take c.args.count c.args.order.now) c.loop-p.p 0
ring c = c.from-ring.ensures ∙ sym (get_or-take c.args.count c.args.order.now c.loop-p.p 0 (omega arith))

-- it is one of them
ring_in : (c : goal.After-from-ring) → c.from-ring.result < c.args.count
ring_in c = rw (ring c) (once-below (take c.args.count c.args.order.now) c.args.count (length-take-le c.args.count c.args.order.now (omega arith)) c.requires.3 c.loop-p.p (omega arith))

pub bounds-faces-ring : goal.bounds-faces-ring
bounds-faces-ring c = omega (arith, ring_in c, c.loop-p.invariant.0.same)

pub loop-p-preserved : goal.loop-p-preserved
loop-p-preserved c =
    let q = c.loop-p in (
      subst (λ (r : ℕ). Written (take c.args.count c.args.order.now) c.args.count (q.p + 1) c.args.faces.now (set q.faces r q.p)) (sym (ring c))
          (written_more (take c.args.count c.args.order.now) c.args.count (length-take-le c.args.count c.args.order.now (omega arith)) c.requires.3 q.p c.args.faces.now q.faces (omega arith) (omega arith) q.invariant.0),
      omega arith,
    )

pub returns : goal.returns
returns c =
    let q = c.loop-p in
    let e : q.p ≡ c.args.count = omega arith in
    written_all (take c.args.count c.args.order.now) c.args.count (length-take-le c.args.count c.args.order.now (omega arith)) c.requires.3 c.args.faces.now q.faces (omega arith)
    (subst (λ (k : ℕ). Written (take c.args.count c.args.order.now) c.args.count k c.args.faces.now q.faces) e q.invariant.0)
