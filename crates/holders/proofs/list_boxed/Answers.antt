-- `list_boxed` meets its contract: the enclosed rings are listed by the table of their places in the view, which is that of x where it is not slanted.
use native.Mathlib.Omega.{arith}
use mathlib.Core.List.{List}
use Rattle.rules.specs.Face.{Ring}
use Rattle.candidates.specs.Candidates.{Listable}
use Rattle.views.proofs.Slants.{plain-slanted}
use Rattle.holders.specs.Asked.{Boxable}
use Rattle.holders.proofs.Asking.{along-listable}
use Rattle.holders.proofs.list_boxed.Goals as goal
use Rattle.holders.proofs.list_boxed.Goals.{After-write_along}

-- ---- as the map is

pub list_enclosed-requires : goal.list_enclosed-requires
list_enclosed-requires c = let p = c.requires in (p.0, p.1.listable)

pub returns-then-plain : goal.returns-then-plain
returns-then-plain c =
    let a = c.args in
    λ rs b. (a.xs.now, plain-slanted a.slope a.xs.now a.ys.now a.node_count c.if-plain.true, c.list_enclosed.ensures rs b.listable)

-- ---- in a slanted view

pub write_along-requires : goal.write_along-requires
write_along-requires c = let b = c.requires.1 in (b.spotted, b.listable.few_nodes)

-- by the table that was written the enclosed rings can be listed
listable : (c : After-write_along) (rs : List Ring) → let a = c.args in
    Boxable rs a.node_count a.nodes.now a.xs.now a.ys.now a.ring_first.now a.ring_length.now a.ring_side.now a.ring_area.now a.ring_count a.rings.now a.numbers.now
    → Listable rs a.nodes.now c.write_along.new.along a.ys.now a.ring_first.now a.ring_length.now a.ring_side.now a.ring_area.now a.node_count a.ring_count a.rings.now a.numbers.now
listable c rs b =
    let a = c.args in
    along-listable rs a.node_count a.nodes.now a.xs.now a.ys.now c.write_along.new.along a.ring_first.now a.ring_length.now a.ring_side.now a.ring_area.now a.ring_count a.rings.now a.numbers.now
    (omega (arith, b.listable.few_nodes, c.write_along.auto.along)) b

pub list_enclosed-requires-2 : goal.list_enclosed-requires-2
list_enclosed-requires-2 c = let p = c.requires in (p.0, listable (goal.at.list_enclosed-requires-2 c).After-write_along p.0 p.1)

pub returns : goal.returns
returns c = λ rs b. (c.write_along.new.along, c.write_along.ensures, c.list_enclosed-2.ensures rs (listable (goal.at.returns c).After-write_along rs b))
