use Rattle.chains.proofs.Chaining.{chained_less}
use Prim.Native.Nat.{◌-◌}
use Rattle.searching.specs.Searches.{find_node_in}
use native.Mathlib.Omega.{arith}
use mathlib.Core.Path.{sym, ap, ap₂, ◌∙◌}
use lib.ListN.{get_or}
use Rattle.chains.proofs.Walking.{walk_start, walk_hit, walk_miss, walk_end}
use Rattle.rotation.specs.Rotation.{Key}
use Rattle.rules.specs.Keys.{key_of}
use Rattle.lookup.specs.Codes.{node_heads, key_code_lem, node_code_lem}
use Rattle.lookup.proofs.Coding.{key-low, has_key, key_meant, node-found}
use Rattle.lookup.proofs.nodes.find_node.Goals.{then-has_key, else-has_key}
use Rattle.lookup.proofs.nodes.find_node.Goals as goal

pub loop-at-init : goal.loop-at-init
loop-at-init c =
    let a = c.args in
    let k : Key = record { x = c.canonical_coordinate_bits-bits_x.result; y = c.canonical_coordinate_bits-bits_y.result } in
    walk_start (has_key a.nodes_x.now a.nodes_y.now k) (λ i. i) (node_code_lem a.nodes_x.now a.nodes_y.now) (key_code_lem k) (key_meant a.nodes_x.now a.nodes_y.now k) node_heads a.nodes a.nodes a.node_chains.now c.requires.chained
    (get_or a.node_chains.now c.key_code-code.result 0) (key-low k) (ap (λ i. get_or a.node_chains.now i 0) c.key_code-code.ensures)

pub loop-at-smaller : goal.loop-at-smaller
loop-at-smaller c =
    let a = c.args in
    let n = c.loop-at.at - 1 in
    omega (arith, c.loop-at-test.true, chained_less node_heads (node_code_lem a.nodes_x.now a.nodes_y.now) a.nodes a.node_chains.now c.requires.chained n (omega (arith, c.loop-at-test.true, c.loop-at.invariant.low)))

pub loop-at-preserved : goal.loop-at-preserved
loop-at-preserved c =
    let a = c.args in
    let k : Key = record { x = c.canonical_coordinate_bits-bits_x.result; y = c.canonical_coordinate_bits-bits_y.result } in
    let p = has_key a.nodes_x.now a.nodes_y.now k in
    let code = node_code_lem a.nodes_x.now a.nodes_y.now in
    let m = key_meant a.nodes_x.now a.nodes_y.now k in
    elim c.if-has_key.branch [
      | then-has_key w ↦ walk_hit p (λ i. i) code (key_code_lem k) m node_heads a.nodes a.nodes a.node_chains.now c.requires.chained c.loop-at.at c.loop-at.found c.if-has_key.found c.loop-at.invariant c.loop-at-test.true (sym c.has_key.ensures ∙ w.if-has_key.true) w.found-is
      | else-has_key w ↦ walk_miss p (λ i. i) code (key_code_lem k) m node_heads a.nodes a.nodes a.node_chains.now c.requires.chained c.loop-at.at c.loop-at.found c.if-has_key.found c.loop-at.invariant c.loop-at-test.true (sym c.has_key.ensures ∙ w.if-has_key.false) w.found-is
    ]

pub returns : goal.returns
unfolding key_of
returns c =
    let a = c.args in
    let k : Key = record { x = c.canonical_coordinate_bits-bits_x.result; y = c.canonical_coordinate_bits-bits_y.result } in
    walk_end (has_key a.nodes_x.now a.nodes_y.now k) (λ i. i) (node_code_lem a.nodes_x.now a.nodes_y.now) (key_code_lem k) (key_meant a.nodes_x.now a.nodes_y.now k) node_heads a.nodes a.nodes a.node_chains.now c.requires.chained
    c.loop-at.at c.loop-at.found c.loop-at.invariant c.loop-at-test.false
    ∙ node-found a.nodes_x.now a.nodes_y.now k a.nodes
    ∙ ap₂ (λ x y. find_node_in a.nodes a.nodes_x.now a.nodes_y.now (record { x = x; y = y })) c.canonical_coordinate_bits-bits_x.ensures c.canonical_coordinate_bits-bits_y.ensures

pub offset_bounds-node_chains-code : goal.offset_bounds-node_chains-code
offset_bounds-node_chains-code c = omega (arith, c.key_code-code.ensures, key-low (record { x = c.canonical_coordinate_bits-bits_x.result; y = c.canonical_coordinate_bits-bits_y.result }))

pub bounds-node_chains-code : goal.bounds-node_chains-code
bounds-node_chains-code c = omega (arith, c.key_code-code.ensures, key-low (record { x = c.canonical_coordinate_bits-bits_x.result; y = c.canonical_coordinate_bits-bits_y.result }), c.requires.room)
