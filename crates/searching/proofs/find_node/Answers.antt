use Rattle.searching.proofs.Walks.{node_hit, node_miss, node_end}
use mathlib.Core.Path.{refl, sym, ap₂, ◌∙◌}
use native.Mathlib.Omega.{arith}
use Rattle.lists.specs.Lists.{upto, first_where}
use Rattle.rules.specs.Keys.{key_of}
use Rattle.searching.proofs.find_node.Invariants.{test}
use Rattle.searching.proofs.find_node.Goals as goal

pub loop-n-init : goal.loop-n-init
loop-n-init c = (omega arith, refl)

pub returns-then-has_key : goal.returns-then-has_key
unfolding key_of
returns-then-has_key c =
    node_hit ((test c.args.nodes_x.now c.args.nodes_y.now c.canonical_coordinate_bits-bits_x.result c.canonical_coordinate_bits-bits_y.result)) c.args.graph.node_count c.loop-n.n c.loop-n-test.true (sym c.has_key.ensures ∙ c.if-has_key.true) c.loop-n.invariant.1
    ∙ (let m = c.args.graph.node_count in ap₂ (λ x y. first_where (test c.args.nodes_x.now c.args.nodes_y.now x y) m (upto m)) c.canonical_coordinate_bits-bits_x.ensures c.canonical_coordinate_bits-bits_y.ensures)

pub loop-n-preserved : goal.loop-n-preserved
loop-n-preserved c =
    let t = c.loop-n-test.true in
    (omega (arith, t), node_miss ((test c.args.nodes_x.now c.args.nodes_y.now c.canonical_coordinate_bits-bits_x.result c.canonical_coordinate_bits-bits_y.result)) c.args.graph.node_count c.loop-n.n t (sym c.has_key.ensures ∙ c.if-has_key.false) c.loop-n.invariant.1)

pub returns : goal.returns
unfolding key_of
returns c =
    node_end (test c.args.nodes_x.now c.args.nodes_y.now c.canonical_coordinate_bits-bits_x.result c.canonical_coordinate_bits-bits_y.result) c.args.graph.node_count c.loop-n.n c.loop-n-test.false c.loop-n.invariant.1
    ∙ (let m = c.args.graph.node_count in ap₂ (λ x y. first_where (test c.args.nodes_x.now c.args.nodes_y.now x y) m (upto m)) c.canonical_coordinate_bits-bits_x.ensures c.canonical_coordinate_bits-bits_y.ensures)
