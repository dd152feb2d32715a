-- `sides::list_sides` meets its contract: of all that the walk leaves, the sides and the count.
use Prim.Native.Nat.{ℕ, ◌*◌}
use native.Mathlib.Omega.{arith}
use mathlib.Core.Path.{◌∙◌, ap}
use mathlib.Core.List.{map}
use lib.ListN.{length, length-replicate}
use Rattle.lists.specs.Lists.{over}
use Rattle.ring_tally.specs.Keys.{keys_y}
use Rattle.ring_tally.specs.Sides.{number_in}
use Rattle.rings.proofs.Rows.{table_rings_lem}
use Rattle.ring_listing.proofs.Walks.{walk_asks}
use Rattle.extracting.proofs.sides.list_sides.Goals as goal

pub write_successors-requires : goal.write_successors-requires
write_successors-requires c = ((c.args.dir_edges_src.now, c.requires.0.arranged), omega (arith, c.requires.0.arranged.few_edges))

pub walk_rings-requires : goal.walk_rings-requires
walk_rings-requires c =
    let p = c.requires.0.arranged in
    let few = p.few_edges in
    let paired = c.requires.0.few in
    let graph = c.args.graph in
    walk_asks graph.node_count graph.edge_count c.args.dir_edges_src.now c.args.dir_edges_marked.now c.args.offsets.now c.args.grouped.now c.args.nodes_x.now c.args.nodes_y.now
    p c.requires.1 _ _ (c.write_successors.ensures c.args.dir_edges_src.now p.star p.groups p.sane) (omega (arith, few, c.write_successors.auto.next)) _ _ _
    (omega arith) (omega (arith, few, length-replicate {A = ℕ} (2 * keys_y) 0)) (record { in_first = omega (arith, paired); in_size = omega (arith, paired); in_side = omega (arith, paired, c.requires.2); in_area = omega (arith, paired) })

pub returns : goal.returns
returns c =
    let graph = c.args.graph in
    let h = c.walk_rings.ensures.rings in
    λ star gs sane.
    let same = table_rings_lem graph.node_count graph.edge_count c.args.dir_edges_src.now c.args.dir_edges_marked.now star c.write_successors.new.next sane (c.write_successors.ensures c.args.dir_edges_src.now star gs sane).split in
    record {
      listed = h.sides ∙ ap (λ rs. over (map (number_in c.args.dir_edges_src.now c.args.nodes_x.now c.args.nodes_y.now) rs) c.args.ring_side.now) same;
      number = h.number ∙ ap length same;
    }
