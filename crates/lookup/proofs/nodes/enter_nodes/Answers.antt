use native.Mathlib.Omega.{arith}
use mathlib.Core.Path.{◌≡◌, refl, subst, ◌∙◌}
use Rattle.chains.specs.Chains.{Chained}
use Rattle.chains.proofs.Chaining.{chained-next, length-entered}
use Rattle.rules.specs.State.{key_in_lem}
use Rattle.lookup.specs.Codes.{node_heads, node_code_lem}
use Rattle.lookup.proofs.Coding.{key-low}
use Rattle.lookup.proofs.nodes.enter_nodes.Goals as goal

pub loop-n-init : goal.loop-n-init
loop-n-init c = (omega arith, omega (arith, c.requires.from_le_to), refl, c.requires.nodes_chained.chained)

pub enter-requires : goal.enter-requires
enter-requires c =
    omega (arith, c.loop-n-test.true, c.node_code-code.ensures, c.loop-n.invariant.2, c.requires.from_le_to, key-low (key_in_lem c.args.nodes_x.now c.args.nodes_y.now c.loop-n.n))

pub loop-n-preserved : goal.loop-n-preserved
loop-n-preserved c =
    let a = c.args in
    let n = c.loop-n.n in
    let chains = c.loop-n.node_chains in
    let i = c.loop-n.invariant in (
      omega (arith, i.0),
      omega (arith, c.loop-n-test.true),
      length-entered node_heads c.node_code-code.result n chains c.enter.new.table c.enter.ensures ∙ i.2,
      chained-next node_heads (node_code_lem a.nodes_x.now a.nodes_y.now) n chains c.enter.new.table i.3 c.node_code-code.result c.node_code-code.ensures
          (key-low (key_in_lem a.nodes_x.now a.nodes_y.now n)) (omega (arith, c.loop-n-test.true, i.2, c.requires.from_le_to)) c.enter.ensures,
    )

pub returns : goal.returns
returns c =
    let i = c.loop-n.invariant in
    let z : c.loop-n.n ≡ c.args.to = omega (arith, c.loop-n-test.false, i.1) in
    record {
      room_x = omega (arith, c.requires.from_le_to);
      room_y = omega (arith, c.requires.from_le_to);
      room = omega (arith, c.requires.from_le_to, i.2);
      chained = subst (λ n. Chained node_heads (node_code_lem c.args.nodes_x.now c.args.nodes_y.now) n c.loop-n.node_chains) z i.3;
    }
