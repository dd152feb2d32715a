-- `add_edge` meets its contract: each slice has what the edge brings to it.
use Prim.Native.Nat.{ℕ, ◌+◌, ◌*◌}
use mathlib.Core.Path.{sym, ap, ◌∙◌}
use mathlib.Core.Bool.{false}
use lib.ListN.{set}
use Rattle.rules.specs.Adding.{put_segment_lem}
use Rattle.rules.specs.Limits.{limits}
use Rattle.rules.specs.LineIds.{list_end, start_list}
use Rattle.rules.specs.State.{State}
use Rattle.tables.specs.Tables.{state_of}
use Rattle.tables.specs.Regions.{xs_in, ys_in, zs_in, segments_in, sources_in, targets_in, star_table_in, degrees_in, node_marks_in, half_marks_in, line_ids_in, tracings_in}
use Rattle.adding.specs.Written.{raised, two_at}
use Rattle.table_entries.specs.Written.{edge_counted}
use Rattle.writing.proofs.edge.add_edge.Goals as goal

pub returns : goal.returns
returns c graph e =
    let a = c.args in
    let p = a.place in
    let id = a.line.line_id in
    let segment = c.put_segment.ensures in
    let joined = c.put_ends.ensures in
    let listed = c.put_first.ensures in
    let last = c.put_last.ensures in
    let unmarked = c.unmark.ensures in
    let lowest = c.put_lowest.ensures in
    let list = listed.list ∙ ap (λ t. set t a.edge.0 p) joined.list in
    let link = listed.link ∙ ap (λ t. set t p list_end) joined.link in
    let source = listed.source ∙ joined.source in
    let target = listed.target ∙ joined.target in
    let written : ℕ → State = λ k. state_of (edge_counted graph) (xs_in limits a.floats.now) (ys_in limits a.floats.now) (zs_in limits a.floats.now)
    (raised (raised (degrees_in limits a.stars.now) a.u.0) a.v.0) (node_marks_in limits a.marks.now)
    (put_segment_lem (segments_in limits a.floats.now) k a.line) (set (line_ids_in limits a.ids.now) k id)
    (two_at (sources_in limits a.numbers.now) (2 * k) a.u.0 a.v.0) (two_at (targets_in limits a.numbers.now) (2 * k) a.v.0 a.u.0)
    (two_at (half_marks_in limits a.marks.now) (2 * k) false false) (two_at (star_table_in limits a.stars.now) (2 * k) (2 * k) (2 * k + 1))
    (start_list k id p list_end (tracings_in limits a.numbers.now a.ids.now)) in
    (λ i. state_of (edge_counted graph) (segment.x i) (segment.y i) (segment.z i) (last.degree i) (unmarked.node i)
    (segment.segment i) (lowest.line i) (source i) (target i) (unmarked.half i) (last.star i) (record { place = list i; id = lowest.pair i; next = link i }))
    ∙ ap written (sym e)
