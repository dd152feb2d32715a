use native.Mathlib.Omega.{arith}
use mathlib.Core.Path.{◌≡◌, refl, subst, ◌∙◌}
use lib.ListN.{get_or}
use Rattle.chains.specs.Chains.{Chained}
use Rattle.chains.proofs.Chaining.{chained-next, length-entered}
use Rattle.lookup.specs.Codes.{half_heads, half_code_lem}
use Rattle.lookup.proofs.Coding.{pair_low}
use Rattle.lookup.proofs.halves.enter_halves.Goals as goal

pub loop-i-init : goal.loop-i-init
loop-i-init c = (omega arith, omega (arith, c.requires.from_le_to), refl, c.requires.halves_chained.chained)

pub half_code-code-requires : goal.half_code-code-requires
half_code-code-requires c = c.requires.by_index c.loop-i.i c.loop-i-test.true

pub enter-requires : goal.enter-requires
enter-requires c =
    let a = c.args in
    let h = get_or a.nodes_outgoing.now c.loop-i.i 0 in
    omega (arith, c.loop-i-test.true, c.half_code-code.ensures, c.loop-i.invariant.2, c.requires.from_le_to, pair_low (get_or a.dir_edges_src.now h 0) (get_or a.dir_edges_dst.now h 0))

pub loop-i-preserved : goal.loop-i-preserved
loop-i-preserved c =
    let a = c.args in
    let n = c.loop-i.i in
    let chains = c.loop-i.half_chains in
    let i = c.loop-i.invariant in
    let h = get_or a.nodes_outgoing.now n 0 in (
      omega (arith, i.0),
      omega (arith, c.loop-i-test.true),
      length-entered half_heads c.half_code-code.result n chains c.enter.new.table c.enter.ensures ∙ i.2,
      chained-next half_heads (half_code_lem a.dir_edges_src.now a.dir_edges_dst.now a.nodes_outgoing.now) n chains c.enter.new.table i.3 c.half_code-code.result c.half_code-code.ensures
          (pair_low (get_or a.dir_edges_src.now h 0) (get_or a.dir_edges_dst.now h 0)) (omega (arith, c.loop-i-test.true, i.2, c.requires.from_le_to)) c.enter.ensures,
    )

pub returns : goal.returns
returns c =
    let a = c.args in
    let i = c.loop-i.invariant in
    let z : c.loop-i.i ≡ a.to = omega (arith, c.loop-i-test.false, i.1) in
    record {
      room_star = omega (arith, c.requires.from_le_to);
      known = c.requires.by_index;
      room = omega (arith, c.requires.from_le_to, i.2);
      chained = subst (λ n. Chained half_heads (half_code_lem a.dir_edges_src.now a.dir_edges_dst.now a.nodes_outgoing.now) n c.loop-i.half_chains) z i.3;
    }
