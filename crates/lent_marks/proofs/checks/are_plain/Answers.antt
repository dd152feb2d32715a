-- `are_plain` meets its contract: the counts are tested, then the bytes of each kind.
use Prim.Native.Nat.{◌*◌, ◌<◌, ◌≤◌}
use native.Mathlib.Omega.{arith}
use borrow.Author.Tests.{le-leb, lt-leb}
use mathlib.Core.Path.{ap₂, ◌∙◌}
use mathlib.Core.Bool.{◌&&◌}
use Rattle.lists.specs.Lists.{upto, all}
use Rattle.rules.specs.Limits.{limits}
use Rattle.tables.proofs.Regions.{tail-is}
use Rattle.lent_marks.specs.Marks.{mark_at_lem}
use Rattle.lent_marks.proofs.checks.are_plain.Goals as goal

pub returns-then-nodes-gt-MAX_NODES : goal.returns-then-nodes-gt-MAX_NODES
returns-then-nodes-gt-MAX_NODES c =
    let g = c.args.graph in
    let many : limits.nodes < g.node_count = omega (arith, c.from-nodes.ensures, c.if-nodes-gt-MAX_NODES.true) in
    rw (lt-leb g.node_count limits.nodes many)

pub returns-then-edges-gt-MAX_EDGES : goal.returns-then-edges-gt-MAX_EDGES
returns-then-edges-gt-MAX_EDGES c =
    let g = c.args.graph in
    let few : g.node_count ≤ limits.nodes = omega (arith, c.from-nodes.ensures, c.if-nodes-gt-MAX_NODES.false) in
    let many : limits.edges < g.edge_count = omega (arith, c.from-edges.ensures, c.if-edges-gt-MAX_EDGES.true) in
    rw (le-leb c.args.graph.node_count limits.nodes few, lt-leb g.edge_count limits.edges many)

pub returns : goal.returns
returns c =
    let a = c.args in
    let few : a.graph.node_count ≤ limits.nodes = omega (arith, c.from-nodes.ensures, c.if-nodes-gt-MAX_NODES.false) in
    let few_edges : a.graph.edge_count ≤ limits.edges = omega (arith, c.from-edges.ensures, c.if-edges-gt-MAX_EDGES.false) in
    let bytes = a.marks.now in
    let nodes = c.are_marks.ensures ∙ (λ i. all (mark_at_lem bytes) (upto (c.from-nodes.ensures i))) in
    let halves = c.are_marks-2.ensures ∙ (λ i. all (mark_at_lem (tail-is limits.nodes bytes i)) (upto (2 * c.from-edges.ensures i))) in
    ap₂ ◌&&◌ nodes halves ∙ rw (le-leb c.args.graph.node_count limits.nodes few, le-leb a.graph.edge_count limits.edges few_edges)
