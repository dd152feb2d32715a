-- `left_of` meets its contract.
use mathlib.Core.Path.{sym, ◌∙◌}
use Rattle.rules.specs.Holes.{left_of}
use Rattle.inside.specs.Spots.{spot_in}
use Rattle.corners.proofs.Lefts.{left-order}
use Rattle.corners.proofs.Firsts.{second-first, first-first}
use Rattle.corners.proofs.nodes.left_of.Goals as goal

pub returns-then-is_left : goal.returns-then-is_left
returns-then-is_left c =
    let at = spot_in c.args.xs.now c.args.ys.now in
    second-first (left_of at) (left-order at) c.args.a c.args.b (sym c.is_left.ensures ∙ c.if-is_left.true)

pub returns : goal.returns
returns c =
    let at = spot_in c.args.xs.now c.args.ys.now in
    first-first (left_of at) (left-order at) c.args.a c.args.b (sym c.is_left.ensures ∙ c.if-is_left.false)
