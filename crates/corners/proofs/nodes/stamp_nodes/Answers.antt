use Prim.Native.Nat.{◌+◌, ◌<◌}
use native.Mathlib.Omega.{arith}
use mathlib.Core.Path.{◌≡◌, sym, subst}
use lib.ListN.{length, get_or, take, set}
use lib.Seq.{take_all}
use Rattle.lists.proofs.Members.{in_at}
use Rattle.corners.specs.Nodes.{Stamped}
use Rattle.corners.proofs.Stamps.{stamped_none, stamped_next}
use Rattle.corners.proofs.nodes.stamp_nodes.Goals as goal

pub loop-node-init : goal.loop-node-init
loop-node-init c = (omega arith, stamped_none _ _)

pub from-requires : goal.from-requires
from-requires c = tt

-- the node that is stamped next
next : (c : goal.After-from) → let q = c.loop-node in (q.node-index < length c.args.nodes.now) × (get_or c.args.nodes.now q.node-index 0 < length c.args.stamps.now) × (c.from.result ≡ get_or c.args.nodes.now q.node-index 0)
next c =
    let q = c.loop-node in
    let more = c.loop-node-test.true in
    (more, c.requires (get_or c.args.nodes.now q.node-index 0) (in_at c.args.nodes.now q.node-index more), c.from.ensures)

pub offset_bounds-stamps-from : goal.offset_bounds-stamps-from
offset_bounds-stamps-from c = let n = next c in omega (arith, n.1, n.2)

pub bounds-stamps-from : goal.bounds-stamps-from
bounds-stamps-from c = let n = next c in omega (arith, n.1, n.2, c.loop-node.invariant.1.size)

pub loop-node-preserved : goal.loop-node-preserved
loop-node-preserved c =
    let q = c.loop-node in
    let n = next c in (
      omega (arith, n.0),
      subst (λ v. Stamped (take (q.node-index + 1) c.args.nodes.now) c.args.stamp c.args.stamps.now (set q.stamps v c.args.stamp)) (sym n.2)
          (stamped_next c.args.nodes.now q.node-index c.args.stamp c.args.stamps.now q.stamps n.0 n.1 q.invariant.1),
    )

pub returns : goal.returns
returns c =
    let q = c.loop-node in
    subst (λ f. Stamped f c.args.stamp c.args.stamps.now q.stamps) (take_all q.node-index c.args.nodes.now (omega arith)) q.invariant.1
