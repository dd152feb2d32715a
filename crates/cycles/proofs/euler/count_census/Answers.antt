-- `cycles::euler::count_census` meets its contract. What the callees ensure, part by part.
use native.Mathlib.Omega.{arith}
use mathlib.Core.Path.{sym, ◌∙◌}
use Rattle.rules.specs.State.{arrangement_in}
use Rattle.rules.specs.Limits.{limits}
use Rattle.rules.proofs.Naming.{all-zero}
use Rattle.rules.proofs.Counting.{edge_count-is}
use Rattle.pieces.proofs.Numbering.{count-each, touched-each}
use Rattle.cycles.proofs.Outcome.{vertices_by, census-is}
use Rattle.cycles.proofs.euler.count_census.Goals as goal

pub number_pieces-pieces-requires : goal.number_pieces-pieces-requires
number_pieces-pieces-requires c =
    let p = c.requires in
    record { spreads = p.0; placed = p.1; few = p.2; in_pieces = p.2; short = omega arith; clear = λ n l. all-zero limits.nodes n }

pub count_vertices-vertices-requires : goal.count_vertices-vertices-requires
count_vertices-vertices-requires c =
    let p = c.requires in
    (p.2, omega (arith, p.2, c.number_pieces-pieces.auto.pieces))

pub returns : goal.returns
returns c =
    let a = c.args in
    let v = c.count_vertices-vertices in
    let e = c.count_edges-edges in
    let n = c.number_pieces-pieces in
    λ star gs sane rings.
    let g = arrangement_in a.graph.node_count a.graph.edge_count a.dir_edges_src.now a.dir_edges_marked.now star in
    census-is g v.result e.result a.cycles n.result c.euler_holds-verdict.result
    (vertices_by g _ v.result v.ensures
    (touched-each a.graph a.nodes_x.now a.nodes_y.now a.dir_edges_src.now a.dir_edges_marked.now a.offsets.now a.grouped.now _ n.result n.ensures star gs sane))
    (e.ensures ∙ sym (edge_count-is g))
    rings
    (count-each a.graph a.nodes_x.now a.nodes_y.now a.dir_edges_src.now a.dir_edges_marked.now a.offsets.now a.grouped.now _ n.result n.ensures star gs sane)
    c.euler_holds-verdict.ensures
