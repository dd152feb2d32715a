-- `leftmost` meets its contract.
use mathlib.Core.Path.{sym, subst}
use Rattle.inside.specs.Spots.{spot_in}
use Rattle.corners.specs.Nodes.{Leftmost}
use Rattle.corners.proofs.Lefts.{leftmost-first, leftmost_of_two}
use Rattle.corners.proofs.nodes.leftmost.Goals as goal

pub returns-in-None : goal.returns-in-None
returns-in-None c =
    let at = spot_in c.args.xs.now c.args.ys.now in
    λ nodes left. leftmost-first at nodes c.args.node (subst (Leftmost at nodes) c.in-None.is left)

pub left_of-requires : goal.left_of-requires
left_of-requires c = let p = c.requires in let q = p.2 _ c.in-Some.is in (q.0, q.1, p.0, p.1)

pub returns-in-Some : goal.returns-in-Some
returns-in-Some c =
    let at = spot_in c.args.xs.now c.args.ys.now in
    λ nodes left. leftmost_of_two at nodes c.args.node _ c.left_of.result (subst (Leftmost at nodes) c.in-Some.is left) c.left_of.ensures
