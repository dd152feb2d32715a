-- `make` meets its contract: one node after the other, then the edge.
use Prim.Native.Nat.{ℕ, ◌*◌, ◌≤◌}
use native.Mathlib.Omega.{arith}
use mathlib.Core.List.{List}
use mathlib.Core.Path.{◌≡◌, sym, ap, subst, ◌∙◌}
use lib.ListN.{length, length-drop}
use Rattle.geometry.specs.declared.Line3D.{Line3D}
use Rattle.rules.specs.Adding.{with_node, with_edge}
use Rattle.rules.specs.Limits.{limits}
use Rattle.rules.specs.State.{State}
use Rattle.tables.specs.Regions.{degrees_in, state_in, least_stars}
use Rattle.adding.specs.declared.Ends.{Ends}
use Rattle.adding.specs.Written.{entered, ends_entered, raised}
use Rattle.adding.proofs.Making.{start-below, end_below, low-start, low-raised}
use Rattle.table_entries.specs.Written.{node_counted, Raisable}
use Rattle.making.proofs.Counting.{node-edges, node-degrees, grown_is}
use Rattle.making.proofs.make.Goals as goal

-- there is a degree for each node that there may be
long : (stars : List ℕ) → least_stars limits ≤ length stars → limits.nodes ≤ length (degrees_in limits stars)
long stars room = omega (arith, room, length-drop (2 * limits.edges) stars)

-- the degrees once both nodes are made
degrees-entered : (n : Ends) (line : Line3D) (s made : State) → made ≡ with_node n.new_end n.end.0 line.end (with_node n.new_start n.start.0 line.start s)
    → made.degree ≡ ends_entered n s.degree 0 0
degrees-entered n line s made e =
    ap (λ s. s.degree) e
    ∙ node-degrees n.new_end n.end.0 line.end (with_node n.new_start n.start.0 line.start s)
    ∙ ap (λ t. entered n.new_end t n.end.0 0) (node-degrees n.new_start n.start.0 line.start s)

pub add_node-requires : goal.add_node-requires
add_node-requires c =
    let a = c.args in
    let r = c.requires.slice_room in
    record {
      few = start-below _ _ a.ends (degrees_in limits a.stars.now) c.requires.makeable (long a.stars.now r.star_room);
      float_room = r.float_room;
      star_room = r.star_room;
      mark_room = r.mark_room;
    }

pub add_node-requires-2 : goal.add_node-requires-2
add_node-requires-2 c =
    let a = c.args in
    let r = c.requires.slice_room in
    record {
      few = end_below _ _ a.ends (degrees_in limits a.stars.now) c.requires.makeable (long a.stars.now r.star_room);
      float_room = omega (arith, r.float_room, c.add_node.auto.floats);
      star_room = omega (arith, r.star_room, c.add_node.auto.stars);
      mark_room = omega (arith, r.mark_room, c.add_node.auto.marks);
    }

pub add_edge-requires : goal.add_edge-requires
add_edge-requires c =
    let a = c.args in
    let n = a.ends in
    let r = c.requires.slice_room in
    let m = c.requires.makeable in
    let old = degrees_in limits a.stars.now in
    let wide = long a.stars.now r.star_room in
    let star_room : least_stars limits ≤ length c.add_node-2.new.stars = omega (arith, r.star_room, c.add_node.auto.stars, c.add_node-2.auto.stars) in
    let degrees = degrees-entered n a.line (state_in limits a.graph a.floats.now a.numbers.now a.stars.now a.marks.now a.ids.now) _ (
    c.add_node-2.ensures (node_counted n.new_start n.start.0 a.graph) a.numbers.now a.ids.now
    ∙ ap (with_node n.new_end n.end.0 a.line.end) (c.add_node.ensures a.graph a.numbers.now a.ids.now)
    ) in
    record {
      room = record {
        float_room = omega (arith, r.float_room, c.add_node.auto.floats, c.add_node-2.auto.floats);
        number_room = r.number_room;
        star_room = star_room;
        mark_room = omega (arith, r.mark_room, c.add_node.auto.marks, c.add_node-2.auto.marks);
        id_room = r.id_room;
      };
      last = record {
        few = m.few;
        from = start-below _ _ n old m wide;
        to = end_below _ _ n old m wide;
        star_room = star_room;
        low_from = subst (λ t. Raisable t n.start.0) (sym degrees) (omega (arith, low-start _ _ n old m wide));
        low_to = subst (λ t. Raisable (raised t n.start.0) n.end.0) (sym degrees) (low-raised _ _ n old m wide);
      };
      space = c.requires.place_lt_pairs;
    }

pub grown-requires : goal.grown-requires
grown-requires c =
    let m = c.requires.makeable in
    (omega (arith, m.space), omega (arith, m.few))

pub returns : goal.returns
returns c =
    let a = c.args in
    let n = a.ends in
    let one = node_counted n.new_start n.start.0 a.graph in
    let two = node_counted n.new_end n.end.0 one in
    let edges = node-edges n.new_end n.end.0 one ∙ node-edges n.new_start n.start.0 a.graph in
    let new = c.add_edge.new in
    ap (λ g. state_in limits g new.floats new.numbers new.stars new.marks new.ids) (c.grown.ensures ∙ grown_is a.graph n _ c.requires.makeable)
    ∙ c.add_edge.ensures two edges
    ∙ ap (with_edge n.start.0 n.end.0 a.place a.line) (
    c.add_node-2.ensures one a.numbers.now a.ids.now ∙ ap (with_node n.new_end n.end.0 a.line.end) (c.add_node.ensures a.graph a.numbers.now a.ids.now)
    )
