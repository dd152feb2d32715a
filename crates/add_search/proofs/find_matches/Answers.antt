-- `find_matches` meets its contract: the searches read the regions, lent as parts.
use Rattle.add_search.proofs.find_matches.Goals as goal

pub find_edge-half-requires : goal.find_edge-half-requires
find_edge-half-requires c =
    let q = c.requires.tables in
    record { edge_count_bound = (q.few_edges, q.room_star); by_index = q.known; by_index_2 = q.within }

pub returns : goal.returns
returns c =
    record {
      start = c.find_node-start.ensures;
      end = c.find_node-end.ensures;
      half = c.find_edge-half.ensures;
    }
