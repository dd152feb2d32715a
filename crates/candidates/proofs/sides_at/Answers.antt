-- `sides_at` meets its contract: the part of the list that is lent is the ring's.
use Prim.Native.Nat.{◌+◌, ◌-◌}
use native.Mathlib.Omega.{arith}
use mathlib.Core.Path.{◌≡◌, sym, ap, subst, ◌∙◌}
use lib.ListN.{length, get_or, take, drop, length-take, length-drop}
use Rattle.corners.specs.Boxes.{Outermost}
use Rattle.candidates.specs.Candidates.{nodes_at}
use Rattle.candidates.proofs.Covering.{part-is}
use Rattle.inside.specs.Spots.{NodesWithin}
use Rattle.candidates.proofs.sides_at.Goals as goal
use Rattle.candidates.proofs.sides_at.Goals.{After-from}

-- where the ring's part begins, and how long it is
read : (c : After-from) → let a = c.args in (c.from-first.result ≡ get_or a.ring_first.now a.i 0) × (c.from.result ≡ get_or a.ring_length.now a.i 0)
read c =
    let a = c.args in
    let k = c.from-k.ensures in
    (c.from-first.ensures ∙ ap (λ n. get_or a.ring_first.now n 0) k, c.from.ensures ∙ ap (λ n. get_or a.ring_length.now n 0) k)

-- the part is the ring's
part_is : (c : After-from) → let a = c.args in
    take (c.from-first.result + c.from.result - c.from-first.result) (drop c.from-first.result a.nodes.now) ≡ nodes_at a.nodes.now a.ring_first.now a.ring_length.now a.i
part_is c =
    let a = c.args in
    let r = read c in
    part-is a.nodes.now a.ring_first.now a.ring_length.now a.i c.from-first.result c.from.result r.0 r.1

pub overflow_add-end : goal.overflow_add-end
overflow_add-end c = let r = read (goal.at.overflow_add-end c).After-from in omega (arith, c.requires.part.within)

pub slice_bounds-sides_of-end : goal.slice_bounds-sides_of-end
slice_bounds-sides_of-end c = let r = read (goal.at.slice_bounds-sides_of-end c).After-from in omega (arith, c.requires.part.within)

pub sides_of-requires : goal.sides_of-requires
sides_of-requires c =
    let h = (goal.at.sides_of-requires c).After-from in
    let l = c.args.nodes.now in
    let r = read h in
    let v = c.from-first.result in (
      omega (arith, c.requires.part.within, c.requires.some, length-take (v + c.from.result - v) (drop v l), length-drop v l),
      subst (λ f. NodesWithin f (length c.args.xs.now)) (sym (part_is h)) c.requires.in_xs,
      subst (λ f. NodesWithin f (length c.args.ys.now)) (sym (part_is h)) c.requires.in_ys,
    )

pub returns : goal.returns
returns c = let a = c.args in subst (λ f. Outermost a.xs.now a.ys.now f c.sides_of.result) (part_is (goal.at.returns c).After-from) c.sides_of.ensures
