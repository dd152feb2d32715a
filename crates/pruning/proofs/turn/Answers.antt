-- `pruning::turn` meets its contract: the node on top leaves the stack, and is taken where its degree is still 1.
use Prim.Native.Nat.{ℕ, ◌+◌}
use native.Mathlib.Omega.{arith}
use mathlib.Core.Path.{◌≡◌, sym, ap, ◌∙◌}
use mathlib.Core.Bool.{Bool}
use mathlib.Core.List.{List}
use lib.ListN.{get_or}
use Rattle.rules.specs.Prune.{first_active_lem}
use Rattle.stars.specs.Groups.{part, group_of}
use Rattle.stars.proofs.Groups.{group_part}
use Rattle.leaves.specs.Given.{origin_in}
use Rattle.leaves.specs.Steps.{top_of}
use Rattle.leaves.proofs.Turns.{takeable, takes}
use Rattle.pruning.proofs.turn.Goals as goal

-- what is read of the offsets is where the node's star begins and ends, so that the half-edge found is its first active one
found-is : (offsets grouped : List ℕ) (marks : List Bool) (top n from to half : ℕ) → n ≡ top → from ≡ get_or offsets n 0 → to ≡ get_or offsets (n + 1) 0
    → half ≡ first_active_lem marks 0 (part from to grouped) → half ≡ first_active_lem marks 0 (group_of offsets grouped top)
found-is offsets grouped marks top n from to half t f e h =
    h ∙ ap (first_active_lem marks 0) (group_part offsets grouped top from to (f ∙ ap (λ i. get_or offsets i 0) t) (e ∙ ap (λ i. get_or offsets (i + 1) 0) t))

pub take_node-requires : goal.take_node-requires
take_node-requires c =
    let a = c.args in
    let p = c.requires in
    let one : get_or a.nodes_degree.now (top_of a.stack.now a.at) 0 ≡ 1 = ap (λ i. get_or a.nodes_degree.now i 0) (sym c.from-n.ensures) ∙ c.if-nodes_degree-n-ne1.false in
    let found = found-is a.offsets.now a.grouped.now a.dir_edges_marked.now (top_of a.stack.now a.at) c.from-n.result c.from.result c.from-2.result c.first_active-half.result.0
    c.from-n.ensures c.from.ensures c.from-2.ensures c.first_active-half.ensures in
    takeable p.nodes p.edges a.offsets.now a.grouped.now a.dir_edges_src.now a.nodes_degree.now a.nodes_marked.now a.dir_edges_marked.now
    p.starred p.counted (top_of a.stack.now a.at) p.node c.first_active-half.result.0 a.stack.now a.out.now _ one found (omega (arith, p.some, p.stack_room)) (p.list_room one)

pub returns : goal.returns
returns c =
    let a = c.args in
    let p = c.requires in
    let one : get_or a.nodes_degree.now (top_of a.stack.now a.at) 0 ≡ 1 = ap (λ i. get_or a.nodes_degree.now i 0) (sym c.from-n.ensures) ∙ c.if-nodes_degree-n-ne1.false in
    let found = found-is a.offsets.now a.grouped.now a.dir_edges_marked.now (top_of a.stack.now a.at) c.from-n.result c.from.result c.from-2.result c.first_active-half.result.0
    c.from-n.ensures c.from.ensures c.from-2.ensures c.first_active-half.ensures in (
      c.take_node.ensures.0
          ∙ takes (group_of a.offsets.now a.grouped.now) (origin_in a.dir_edges_src.now) a.nodes_degree.now a.nodes_marked.now a.dir_edges_marked.now
          a.stack.now a.out.now a.at p.some p.stack_room c.first_active-half.result.0 one found,
      c.take_node.ensures.1,
    )
