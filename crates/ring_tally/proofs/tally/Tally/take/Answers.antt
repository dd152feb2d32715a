-- One half-edge more: it goes from the node where it starts to the node where its twin starts, and its key is that of the first.
use Prim.Native.Nat.{◌+◌}
use native.Mathlib.Omega.{arith}
use mathlib.Core.Path.{ap, ap₂, ◌∙◌}
use lib.ListN.{get_or, set}
use lib.Ieee.{nan}
use Rattle.geometry.specs.Coordinate.{canonical_bits}
use Rattle.rules.proofs.Twin.{twin-below}
use Rattle.ring_tally.specs.Keys.{keys_y, bits_from}
use Rattle.ring_tally.specs.Tallies.{taken}
use Rattle.splitting.specs.Splits.{entry_of}
use Rattle.ring_tally.proofs.tally.Tally.take.Goals as goal

-- the half-edge's twin starts at a node too
pub index_at-b-requires : goal.index_at-b-requires
index_at-b-requires c =
    let t = c.requires.takable in
    omega (arith, c.twin_of.ensures, twin-below t.edges c.args.half.0 t.low, t.sited.in_source)

pub bounds-nodes_x-b : goal.bounds-nodes_x-b
bounds-nodes_x-b c =
    let t = c.requires.takable in
    omega (arith, c.index_at-b.ensures ∙ ap (entry_of c.args.dir_edges_src.now) c.twin_of.ensures, t.sited.in_x _ (twin-below t.edges c.args.half.0 t.low))

pub bounds-nodes_y-b : goal.bounds-nodes_y-b
bounds-nodes_y-b c =
    let t = c.requires.takable in
    omega (arith, c.index_at-b.ensures ∙ ap (entry_of c.args.dir_edges_src.now) c.twin_of.ensures, t.sited.in_y _ (twin-below t.edges c.args.half.0 t.low))

pub returns : goal.returns
unfolding bits_from
returns c =
    let a = c.args in
    let xs = a.nodes_x.now in
    let ys = a.nodes_y.now in
    let near = c.index_at-a.ensures in
    let x = c.canonical_coordinate_bits.ensures ∙ ap (λ n. canonical_bits (get_or xs n nan)) near in
    let y = c.canonical_coordinate_bits-2.ensures ∙ ap (λ n. canonical_bits (get_or ys n nan)) near in record {
      keys = (λ i. set (set a.keys.now a.place (x i)) (keys_y + a.place) (y i));
      tally = ap₂ (λ p q. taken a.self (get_or xs p nan) (get_or ys p nan) (get_or xs q nan) (get_or ys q nan)) near (c.index_at-b.ensures ∙ ap (entry_of c.args.dir_edges_src.now) c.twin_of.ensures);
    }
