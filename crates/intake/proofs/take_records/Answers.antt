-- `take_records` meets its contract: the places in use are marked and the graph is chained, and then its records are taken.
use Prim.Native.Nat.{ℕ, ◌+◌, ◌*◌}
use native.Mathlib.Omega.{arith}
use Rattle.rules.specs.Limits.{limits}
use Rattle.tables.specs.Regions.{state_in}
use Rattle.making.proofs.Searching.{searchable_in_lem}
use Rattle.lookup.specs.Codes.{node_heads, half_heads}
use Rattle.chaining.proofs.Growing.{zeros, zeros_long, still_long}
use Rattle.indexing.proofs.Places.{markable_in, free_made}
use Rattle.intake.proofs.take_records.Goals as goal

-- how many entries the tables of chains have
abbrev node_entries : ℕ
node_entries = node_heads + limits.nodes

abbrev half_entries : ℕ
half_entries = half_heads + 2 * limits.edges

pub mark_lists-used-requires : goal.mark_lists-used-requires
mark_lists-used-requires c =
    let a = c.args in
    markable_in a.graph a.floats.now a.numbers.now a.stars.now a.marks.now a.ids.now c.requires

pub chain_all-requires : goal.chain_all-requires
chain_all-requires c =
    let a = c.args in record {
      searchable_in = searchable_in_lem a.graph a.floats.now a.numbers.now a.stars.now a.marks.now a.ids.now c.requires;
      node_chains_value = (zeros node_entries, zeros_long node_entries node_entries (omega arith));
      half_chains_value = (zeros half_entries, zeros_long half_entries half_entries (omega arith));
    }

pub take_chained-requires : goal.take_chained-requires
take_chained-requires c =
    let m = c.chain_all in
    let a = c.args in record {
      ready = c.requires;
      free_at = free_made (state_in limits a.graph a.floats.now a.numbers.now a.stars.now a.marks.now a.ids.now) c.mark_lists-used.result c.next_free-free.result c.mark_lists-used.ensures c.next_free-free.ensures;
      indexed = record {
        nodes = m.ensures.nodes.chained;
        halves = m.ensures.halves.chained;
        node_room = still_long node_entries node_entries m.new.node_chains m.auto.node_chains (omega arith);
        half_room = still_long half_entries half_entries m.new.half_chains m.auto.half_chains (omega arith);
      };
    }
