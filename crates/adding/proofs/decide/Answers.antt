-- `adding::decide` meets its contract: each test that passes leads to the next one.
use mathlib.Core.Path.{sym, ap, ◌∙◌}
use Rattle.rules.specs.Limits.{limits}
use Rattle.adding.specs.Decisions.{room_decision}
use Rattle.adding.proofs.Deciding.{bad_start, bad_end, one-node, joined, apart}
use Rattle.adding.proofs.decide.Goals as goal

pub returns-then-not-is_planar : goal.returns-then-not-is_planar
returns-then-not-is_planar c =
    let a = c.args in
    bad_start limits a.line a.graph.node_count a.graph.edge_count a.start.0 a.end.0 a.half.0 a.known a.free
    (sym c.is_planar.ensures ∙ c.if-not-is_planar.true)

pub returns-then-not-is_planar-2 : goal.returns-then-not-is_planar-2
returns-then-not-is_planar-2 c =
    let a = c.args in
    bad_end limits a.line a.graph.node_count a.graph.edge_count a.start.0 a.end.0 a.half.0 a.known a.free
    (sym c.is_planar.ensures ∙ c.if-not-is_planar.false) (sym c.is_planar-2.ensures ∙ c.if-not-is_planar-2.true)

pub returns-then-same_key : goal.returns-then-same_key
returns-then-same_key c =
    let a = c.args in
    one-node limits a.line a.graph.node_count a.graph.edge_count a.start.0 a.end.0 a.half.0 a.known a.free
    (sym c.is_planar.ensures ∙ c.if-not-is_planar.false) (sym c.is_planar-2.ensures ∙ c.if-not-is_planar-2.false) (sym c.same_key.ensures ∙ c.if-same_key.true)

pub returns-then-half-graph : goal.returns-then-half-graph
returns-then-half-graph c =
    let a = c.args in
    c.find_id.ensures
    ∙ joined limits a.line a.graph.node_count a.graph.edge_count a.start.0 a.end.0 a.half.0 a.known a.free
    (sym c.is_planar.ensures ∙ c.if-not-is_planar.false) (sym c.is_planar-2.ensures ∙ c.if-not-is_planar-2.false) (sym c.same_key.ensures ∙ c.if-same_key.false) c.if-half-graph.true

pub returns : goal.returns
returns c =
    let a = c.args in
    c.find_space.ensures ∙ ap (room_decision limits a.graph.node_count a.graph.edge_count a.free) c.ends_of.ensures
    ∙ apart limits a.line a.graph.node_count a.graph.edge_count a.start.0 a.end.0 a.half.0 a.known a.free
    (sym c.is_planar.ensures ∙ c.if-not-is_planar.false) (sym c.is_planar-2.ensures ∙ c.if-not-is_planar-2.false) (sym c.same_key.ensures ∙ c.if-same_key.false) c.if-half-graph.false
