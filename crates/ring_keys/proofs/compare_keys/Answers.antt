use Rattle.ring_keys.proofs.KeyLists.{keys-within}
use native.Mathlib.Omega.{arith}
use mathlib.Core.Path.{sym, ◌∙◌}
use Rattle.rotation.specs.Rotation.{keys_of}
use Rattle.ring_keys.proofs.KeyLists.{turned-within, entry_differs, entry_equal, ends_compare}
use Rattle.ring_keys.proofs.compare_keys.Goals as goal

pub loop-k-init : goal.loop-k-init
loop-k-init c = (omega arith, λ t h. absurd (omega arith))

pub place-requires : goal.place-requires
place-requires c = omega (arith, keys-within c.args.xs.now c.args.ys.now, c.requires.0.within, c.requires.0.turned, c.min-shared.ensures)

pub place-requires-in-loop-k : goal.place-requires-in-loop-k
place-requires-in-loop-k c = omega (arith, keys-within c.args.xs.now c.args.ys.now, c.requires.1.within, c.requires.1.turned, c.min-shared.ensures)

pub compare_at-order-requires : goal.compare_at-order-requires
compare_at-order-requires c =
    let k = c.loop-k.k in
    let ks = keys_of c.args.xs.now c.args.ys.now in (
      omega (arith, c.min-shared.ensures, c.place.ensures, turned-within ks c.args.a c.requires.0 k),
      omega (arith, c.min-shared.ensures, c.place-in-loop-k.ensures, turned-within ks c.args.b c.requires.1 k),
    )

pub returns-then-is_ne : goal.returns-then-is_ne
returns-then-is_ne c =
    let q = c.loop-k in
    let m = c.min-shared.ensures in
    entry_differs (keys_of c.args.xs.now c.args.ys.now) c.args.a c.args.b c.requires.0 c.requires.1 q.k (omega arith) (omega arith) q.invariant.1
    c.place.result c.place-in-loop-k.result c.place.ensures c.place-in-loop-k.ensures c.compare_at-order.result c.compare_at-order.ensures (sym c.is_ne.ensures ∙ c.if-is_ne.true)

pub loop-k-preserved : goal.loop-k-preserved
loop-k-preserved c =
    let q = c.loop-k in
    let m = c.min-shared.ensures in (
      omega arith,
      entry_equal (keys_of c.args.xs.now c.args.ys.now) c.args.a c.args.b c.requires.0 c.requires.1 q.k (omega arith) (omega arith) q.invariant.1
          c.place.result c.place-in-loop-k.result c.place.ensures c.place-in-loop-k.ensures c.compare_at-order.result c.compare_at-order.ensures (sym c.is_ne.ensures ∙ c.if-is_ne.false),
    )

pub returns : goal.returns
returns c =
    let q = c.loop-k in
    let m = c.min-shared.ensures in
    c.cmp.ensures ∙ ends_compare (keys_of c.args.xs.now c.args.ys.now) c.args.a c.args.b c.requires.0 c.requires.1 q.k (omega arith) q.invariant.1
