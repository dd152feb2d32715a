-- `put_candidate` meets its contract.
use mathlib.Core.Path.{sym, subst, ◌∙◌}
use lib.Ieee.{nan}
use lib.ListN.{length, get_or, set}
use mir.Syntax.{w64}
use mir.Val.{to_z, of_z}
use mir.ValLaws.{to_z-of_z}
use Rattle.ring_lists.specs.Shown.{HalfOf}
use Rattle.corners.proofs.Boxing.{sides-within}
use Rattle.candidates.specs.Candidates.{nodes_at, beyond, Written}
use Rattle.candidates.proofs.Listing.{written, written_shut}
use Rattle.candidates.proofs.put_candidate.Goals as goal
use Rattle.candidates.proofs.put_candidate.Goals.{After-passes_all}

pub doubled_area-requires : goal.doubled_area-requires
doubled_area-requires c =
    let h = c.requires.halved in
    (h.0, subst (λ k. HalfOf (get_or c.args.ring_area.now k nan) h.0) (sym c.from.ensures) h.1)

pub put_numbers-requires : goal.put_numbers-requires
put_numbers-requires c =
    let a = c.args in
    let l = nodes_at a.nodes.now a.ring_first.now a.ring_length.now a.i in
    (sides-within a.xs.now a.ys.now l c.sides_at-sides.result (length a.xs.now) (length a.ys.now) c.sides_at-sides.ensures c.requires.stands.in_xs c.requires.stands.in_ys, c.requires.in_numbers)

pub passes_all-requires : goal.passes_all-requires
passes_all-requires c = let p = c.requires in record { part = p.stands.part; nodes_within = (p.low, p.few_nodes) }

-- the ring's number is set, and its numbers are stored
set_is : (c : After-passes_all) → let a = c.args in
    Written a.nodes.now a.xs.now a.ys.now a.ring_first.now a.ring_length.now a.ring_area.now a.node_count a.i a.n a.rings.now (set a.rings.now a.n a.i) a.numbers.now c.put_numbers.new.numbers
set_is c =
    let a = c.args in
    let area = a.ring_area.now in
    written a.xs.now a.ys.now a.nodes.now a.ring_first.now a.ring_length.now area a.node_count a.i a.n a.rings.now a.numbers.now c.put_numbers.new.numbers c.sides_at-sides.result (to_z w64 (of_z w64 c.doubled_area.result))
    c.requires.in_numbers c.sides_at-sides.ensures
    (λ z h. to_z-of_z w64 c.doubled_area.result (record { sfits = c.doubled_area.type_inv }) ∙ c.doubled_area.ensures z (subst (λ k. HalfOf (get_or area k nan) z) (sym c.from.ensures) h))
    c.put_numbers.ensures

pub returns-then-passes_all : goal.returns-then-passes_all
returns-then-passes_all c =
    let a = c.args in
    let l = set a.rings.now a.n a.i in
    subst (Written a.nodes.now a.xs.now a.ys.now a.ring_first.now a.ring_length.now a.ring_area.now a.node_count a.i a.n a.rings.now l a.numbers.now) (sym c.shut_box.ensures)
    (written_shut a.xs.now a.ys.now a.nodes.now a.ring_first.now a.ring_length.now a.ring_area.now a.node_count a.i a.n a.rings.now l a.numbers.now c.put_numbers.new.numbers beyond
    (c.passes_all.ensures c.if-passes_all.true) (set_is (goal.at.returns-then-passes_all c).After-passes_all))

pub returns-else-passes_all : goal.returns-else-passes_all
returns-else-passes_all c = set_is (goal.at.returns-else-passes_all c).After-passes_all
