-- `chain_all` meets its contract: tables of chains that hold none are chained up to none.
use native.Mathlib.Omega.{arith}
use Rattle.rules.specs.Limits.{limits}
use Rattle.tables.specs.Regions.{xs_in, ys_in, sources_in, targets_in, star_table_in}
use Rattle.chaining.proofs.Growing.{no_nodes, no_halves}
use Rattle.chaining.proofs.chain_all.Goals as goal

pub chain_more-requires : goal.chain_more-requires
chain_more-requires c =
    let a = c.args in
    let q = c.requires.searchable_in.tables in
    let n = c.requires.node_chains_value in
    let h = c.requires.half_chains_value in record {
      searchable_in = c.requires.searchable_in;
      nodes_chained = (no_nodes (xs_in limits a.floats.now) (ys_in limits a.floats.now) a.node_chains.now n.0 (omega (arith, n.1)), omega arith, omega (arith, n.1, q.few_nodes));
      halves_chained = (no_halves (sources_in limits a.numbers.now) (targets_in limits a.numbers.now) (star_table_in limits a.stars.now) a.half_chains.now h.0 (omega (arith, h.1)), omega arith, omega (arith, h.1, q.few_edges));
    }

pub returns : goal.returns
returns c = c.chain_more.ensures
