-- `leaves::take_node` meets its contract: the entries that it writes are those of the rule.
use Prim.Native.Nat.{◌+◌, ◌-◌}
use native.Mathlib.Omega.{arith}
use mathlib.Core.Path.{◌≡◌, ap, ◌∙◌}
use mathlib.Core.Bool.{true}
use lib.ListN.{get_or, set, length-set}
use Rattle.rules.specs.HalfEdge.{twin, edge_of}
use Rattle.rules.specs.Prune.{push}
use Rattle.leaves.specs.Steps.{leaf, latest, tables_at}
use Rattle.leaves.specs.Given.{origin_in}
use Rattle.leaves.proofs.Turns.{taken, taken-reached}
use Rattle.leaves.proofs.take_node.Goals as goal

pub bounds-dir_edges_marked-t : goal.bounds-dir_edges_marked-t
bounds-dir_edges_marked-t c = simp length-set (omega (arith, (c.from-t.ensures ∙ c.twin_of.ensures), c.requires.twin_half))

pub bounds-nodes_degree-other-2 : goal.bounds-nodes_degree-other-2
bounds-nodes_degree-other-2 c = simp length-set (omega (arith, (c.from-other.ensures ∙ ap (origin_in c.args.dir_edges_src.now) (c.from-t.ensures ∙ c.twin_of.ensures)), c.requires.other))

pub push_leaf-stacked-requires : goal.push_leaf-stacked-requires
push_leaf-stacked-requires c =
    let p = c.requires in
    simp length-set (omega (arith, c.from-other.ensures, (c.from-other.ensures ∙ ap (origin_in c.args.dir_edges_src.now) (c.from-t.ensures ∙ c.twin_of.ensures)), p.other, p.other_mark, p.stack_room))

pub returns : goal.returns
unfolding edge_of
returns c =
    let a = c.args in
    let ds = a.nodes_degree.now in
    let nm = a.nodes_marked.now in
    let hm = a.dir_edges_marked.now in
    let out = a.out.now in
    let at = a.at in
    let n = a.node.0 in
    let h = a.half.0 in
    let m = origin_in a.dir_edges_src.now (twin h) in
    let pushed = c.push_leaf-stacked in
    let after = pushed.new.stack in
    let near = ap (origin_in a.dir_edges_src.now) (c.from-t.ensures ∙ c.twin_of.ensures) in
    let room = c.requires.list_room in
    let e : latest pushed.result after ≡ push (leaf (set (set ds n 0) m (get_or ds m 0 - 1)) (set nm n true) m) m (latest at.stacked a.stack.now) =
    pushed.ensures.0
    ∙ (λ i. push (leaf (set (set ds ((c.from-n.ensures) i) 0) ((c.from-other.ensures ∙ ap (origin_in c.args.dir_edges_src.now) (c.from-t.ensures ∙ c.twin_of.ensures)) i) (get_or ds ((c.from-other.ensures ∙ ap (origin_in c.args.dir_edges_src.now) (c.from-t.ensures ∙ c.twin_of.ensures)) i) 0 - 1)) (set nm ((c.from-n.ensures) i) true) (near i)) (near i) (latest at.stacked a.stack.now)) in (
      (λ i. tables_at (set (set ds ((c.from-n.ensures) i) 0) ((c.from-other.ensures ∙ ap (origin_in c.args.dir_edges_src.now) (c.from-t.ensures ∙ c.twin_of.ensures)) i) (get_or ds ((c.from-other.ensures ∙ ap (origin_in c.args.dir_edges_src.now) (c.from-t.ensures ∙ c.twin_of.ensures)) i) 0 - 1)) (set nm ((c.from-n.ensures) i) true) (set (set hm ((c.from-h.ensures) i) true) ((c.from-t.ensures ∙ c.twin_of.ensures) i) true) after
          (set out at.found (edge_of h)) (record { stacked = pushed.result; found = at.found + 1 }))
          ∙ taken n h m pushed.result ds nm hm a.stack.now after out at room e,
      taken-reached pushed.result (edge_of h) out after at room (omega arith),
    )
