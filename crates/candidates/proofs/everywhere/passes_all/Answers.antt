-- `passes_all` meets its contract: the part of the list that is lent is the ring's, and stamps its nodes.
use Prim.Native.Nat.{◌+◌, ◌-◌}
use native.Mathlib.Omega.{arith}
use mathlib.Core.Path.{◌≡◌, sym, ap, subst, ◌∙◌}
use lib.ListN.{get_or, take, drop, replicate}
use Rattle.lists.proofs.Counts.{true_is_false}
use Rattle.rules.specs.Limits.{limits}
use Rattle.inside.specs.Spots.{NodesWithin}
use Rattle.corners.specs.Nodes.{Stamped}
use Rattle.candidates.specs.Candidates.{nodes_at}
use Rattle.candidates.proofs.Covering.{part-is, stamped_all}
use Rattle.candidates.proofs.everywhere.passes_all.Goals as goal
use Rattle.candidates.proofs.everywhere.passes_all.Goals.{After-from-first}

pub returns-then-length-node_count : goal.returns-then-length-node_count
returns-then-length-node_count c = λ e. absurd (true_is_false (sym e))

-- where the ring's part begins, and how long it is
read : (c : After-from-first) → let a = c.args in (c.from-first.result ≡ get_or a.ring_first.now a.i 0) × (c.from-length.result ≡ get_or a.ring_length.now a.i 0)
read c =
    let a = c.args in
    let k = c.from-k.ensures in
    (c.from-first.ensures ∙ ap (λ n. get_or a.ring_first.now n 0) k, c.from-length.ensures ∙ ap (λ n. get_or a.ring_length.now n 0) k)

-- the part is the ring's
part_is : (c : After-from-first) → let a = c.args in
    take (c.from-first.result + c.from-length.result - c.from-first.result) (drop c.from-first.result a.nodes.now) ≡ nodes_at a.nodes.now a.ring_first.now a.ring_length.now a.i
part_is c =
    let a = c.args in
    let r = read c in
    part-is a.nodes.now a.ring_first.now a.ring_length.now a.i c.from-first.result c.from-length.result r.0 r.1

pub overflow_add-end : goal.overflow_add-end
overflow_add-end c = let r = read (goal.at.overflow_add-end c).After-from-first in omega (arith, c.requires.part.within)

pub slice_bounds-stamp_nodes-end : goal.slice_bounds-stamp_nodes-end
slice_bounds-stamp_nodes-end c = let r = read (goal.at.slice_bounds-stamp_nodes-end c).After-from-first in omega (arith, c.requires.part.within)

pub stamp_nodes-requires : goal.stamp_nodes-requires
stamp_nodes-requires c =
    let p = c.requires in
    subst (λ f. NodesWithin f limits.nodes) (sym (part_is (goal.at.stamp_nodes-requires c).After-from-first)) (λ n m. omega (arith, p.nodes_within.0 n m, p.nodes_within.1))

pub returns : goal.returns
returns c =
    let a = c.args in
    let after = c.stamp_nodes.new.stamps in
    λ e. stamped_all (nodes_at a.nodes.now a.ring_first.now a.ring_length.now a.i) limits.nodes a.node_count after c.requires.nodes_within.1
    (subst (λ f. Stamped f 1 (replicate limits.nodes 0) after) (part_is (goal.at.returns c).After-from-first) c.stamp_nodes.ensures) (c.all_stamped.ensures e)
