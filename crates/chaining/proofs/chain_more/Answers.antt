-- `chain_more` meets its contract: the regions are lent as parts.
use native.Mathlib.Omega.{arith}
use Rattle.chaining.proofs.chain_more.Goals as goal

pub enter_nodes-requires : goal.enter_nodes-requires
enter_nodes-requires c =
    let n = c.requires.nodes_chained in
    let q = c.requires.searchable_in.tables in
    record {
      nodes_chained = n.0;
      from_le_to = (omega (arith, n.1), omega (arith, n.1, q.room_x), omega (arith, n.1, q.room_y), omega (arith, n.1, n.2));
    }

pub enter_halves-requires : goal.enter_halves-requires
enter_halves-requires c =
    let h = c.requires.halves_chained in
    let q = c.requires.searchable_in.tables in
    record { halves_chained = h.0; from_le_to = (omega (arith, h.1), q.room_star, h.2); by_index = q.known }

pub returns : goal.returns
returns c = record { nodes = c.enter_nodes.ensures; halves = c.enter_halves.ensures }
