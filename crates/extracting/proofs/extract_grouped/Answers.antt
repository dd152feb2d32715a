-- `extract_grouped` meets its contract. What the callees ensure, put together by the laws of `Numbering`, `Outcome` and `Listing`.
use Prim.Native.Nat.{ℕ, ◌*◌, ◌≤◌}
use native.Mathlib.Omega.{arith}
use mathlib.Core.Path.{◌≡◌, sym, ap, ◌∙◌}
use lib.Dec.{lit<}
use lib.ListN.{length, take, length-replicate}
use lib.Seq.{length-take-le}
use Rattle.lists.specs.Lists.{flatten, over}
use Rattle.rules.specs.Limits.{limits}
use Rattle.rules.specs.Ringing.{side_number_lem, side_area_lem}
use Rattle.rules.proofs.Histories.{fine_limits}
use Rattle.rules.proofs.Soundness.{is-sound}
use Rattle.rules.proofs.Replies.{rings_of-halves}
use Rattle.tables.specs.Tables.{state_of}
use Rattle.stars.proofs.Sound.{sound_sortable}
use Rattle.ring_tally.specs.Keys.{keys_y}
use Rattle.rings.specs.Listing.{rows_of}
use Rattle.rings.proofs.Meaning.{places-replied, sizes-replied, sides-replied}
use Rattle.faces.specs.Numbers.{rings_at, face_numbers}
use Rattle.extracting.proofs.Numbering.{rings-few, flat-few, comparisons_fit, faces-replied}
use Rattle.extracting.proofs.Outcome.{rings-many}
use Rattle.extracting.proofs.Arranging.{sound-arranged}
use Rattle.extracting.proofs.Listing.{Listing, got, short, whole, able, made-is}
use Rattle.extracting.proofs.extract_grouped.Goals as goal

pub list_rings-listed-requires : goal.list_rings-listed-requires
list_rings-listed-requires c =
    let p = c.requires in
    let k = (state_of c.args.graph c.args.nodes_x.now c.args.nodes_y.now p.nodes_z p.degree p.nodes_marked p.lines p.line_ids c.args.dir_edges_src.now p.target c.args.dir_edges_marked.now p.star p.tracings) in
    let ok = is-sound limits k p.sense in (
      sound-arranged limits k p.sense p.roomed c.args.offsets.now c.args.grouped.now p.groups,
      (sound_sortable limits k p.roomed p.sense).located,
      record { in_half_edges = p.long.in_half_edges; in_keys = omega (arith, ok.edges, length-replicate {A = ℕ} (2 * keys_y) 0); in_rows = record { in_first = p.long.in_first; in_size = p.long.in_size; in_side = p.long.in_side; in_area = p.long.in_area } },
    )

pub slice_bounds-name_rings-end : goal.slice_bounds-name_rings-end
slice_bounds-name_rings-end c =
    let p = c.requires in
    let w = c.list_rings-listed in
    let l : Listing c.args.graph c.args.nodes_x.now c.args.nodes_y.now c.args.dir_edges_src.now c.args.dir_edges_marked.now c.args.offsets.now c.args.grouped.now c.args.half_edges.now
    (rows_of c.args.ring_first.now c.args.ring_length.now c.args.ring_side.now c.args.ring_area.now) w.new.half_edges w.new.keys
    (rows_of w.new.ring_first w.new.ring_length w.new.ring_side w.new.ring_area) w.result = record { each = w.ensures } in
    omega (arith, whole l p.nodes_z p.degree p.nodes_marked p.lines p.line_ids p.target p.star p.tracings p.sense p.groups c.from-total.result c.from-total.ensures, flat-few limits (state_of c.args.graph c.args.nodes_x.now c.args.nodes_y.now p.nodes_z p.degree p.nodes_marked p.lines p.line_ids c.args.dir_edges_src.now p.target c.args.dir_edges_marked.now p.star p.tracings) p.sense, p.long.in_half_edges, w.auto.half_edges)

pub slice_bounds-name_rings-end-2 : goal.slice_bounds-name_rings-end-2
slice_bounds-name_rings-end-2 c =
    let p = c.requires in
    let w = c.list_rings-listed in
    let l : Listing c.args.graph c.args.nodes_x.now c.args.nodes_y.now c.args.dir_edges_src.now c.args.dir_edges_marked.now c.args.offsets.now c.args.grouped.now c.args.half_edges.now
    (rows_of c.args.ring_first.now c.args.ring_length.now c.args.ring_side.now c.args.ring_area.now) w.new.half_edges w.new.keys
    (rows_of w.new.ring_first w.new.ring_length w.new.ring_side w.new.ring_area) w.result = record { each = w.ensures } in
    sym (length-take-le (2 * c.from-total.result) w.new.half_edges
    (omega (arith, whole l p.nodes_z p.degree p.nodes_marked p.lines p.line_ids p.target p.star p.tracings p.sense p.groups c.from-total.result c.from-total.ensures, flat-few limits (state_of c.args.graph c.args.nodes_x.now c.args.nodes_y.now p.nodes_z p.degree p.nodes_marked p.lines p.line_ids c.args.dir_edges_src.now p.target c.args.dir_edges_marked.now p.star p.tracings) p.sense, p.long.in_half_edges, w.auto.half_edges)))

pub name_rings-made-requires : goal.name_rings-made-requires
name_rings-made-requires c =
    let p = c.requires in
    let k = (state_of c.args.graph c.args.nodes_x.now c.args.nodes_y.now p.nodes_z p.degree p.nodes_marked p.lines p.line_ids c.args.dir_edges_src.now p.target c.args.dir_edges_marked.now p.star p.tracings) in
    let w = c.list_rings-listed in
    let l : Listing c.args.graph c.args.nodes_x.now c.args.nodes_y.now c.args.dir_edges_src.now c.args.dir_edges_marked.now c.args.offsets.now c.args.grouped.now c.args.half_edges.now
    (rows_of c.args.ring_first.now c.args.ring_length.now c.args.ring_side.now c.args.ring_area.now) w.new.half_edges w.new.keys
    (rows_of w.new.ring_first w.new.ring_length w.new.ring_side w.new.ring_area) w.result = record { each = w.ensures } in
    let h = (got l p.nodes_z p.degree p.nodes_marked p.lines p.line_ids p.target p.star p.tracings p.sense p.groups).listed in
    let all = whole l p.nodes_z p.degree p.nodes_marked p.lines p.line_ids p.target p.star p.tracings p.sense p.groups c.from-total.result c.from-total.ensures in
    let inside : 2 * c.from-total.result ≤ length w.new.half_edges = omega (arith, all, flat-few limits k p.sense, p.long.in_half_edges, w.auto.half_edges) in
    let long : length (take (2 * c.from-total.result) w.new.half_edges) ≡ 2 * c.from-total.result = length-take-le (2 * c.from-total.result) w.new.half_edges inside in (
      omega (arith, long, all, short l p.nodes_z p.degree p.nodes_marked p.lines p.line_ids p.target p.star p.tracings p.sense p.groups, w.auto.keys, length-replicate {A = ℕ} (2 * keys_y) 0),
      record {
        source = c.args.dir_edges_src.now;
        nodes_x = c.args.nodes_x.now;
        nodes_y = c.args.nodes_y.now;
        able = able l p.nodes_z p.degree p.nodes_marked p.lines p.line_ids p.target p.star p.tracings p.sense p.groups c.from-total.result c.from-total.ensures c.from.result c.from.ensures;
      },
      omega (arith, c.from.ensures, h.number, rings-few k, p.long.in_face),
    )

pub overflow_cast-comparisons : goal.overflow_cast-comparisons
overflow_cast-comparisons c =
    let p = c.requires in
    let w = c.list_rings-listed in
    let l : Listing c.args.graph c.args.nodes_x.now c.args.nodes_y.now c.args.dir_edges_src.now c.args.dir_edges_marked.now c.args.offsets.now c.args.grouped.now c.args.half_edges.now
    (rows_of c.args.ring_first.now c.args.ring_length.now c.args.ring_side.now c.args.ring_area.now) w.new.half_edges w.new.keys
    (rows_of w.new.ring_first w.new.ring_length w.new.ring_side w.new.ring_area) w.result = record { each = w.ensures } in
    let m = c.name_rings-made.ensures.made _ _ _ (able l p.nodes_z p.degree p.nodes_marked p.lines p.line_ids p.target p.star p.tracings p.sense p.groups c.from-total.result c.from-total.ensures c.from.result c.from.ensures) in
    omega (arith, made-is l p.nodes_z p.degree p.nodes_marked p.lines p.line_ids p.target p.star p.tracings p.sense p.groups c.from-total.result c.from-total.ensures c.from.result c.from.ensures c.name_rings-made.result m, comparisons_fit limits (state_of c.args.graph c.args.nodes_x.now c.args.nodes_y.now p.nodes_z p.degree p.nodes_marked p.lines p.line_ids c.args.dir_edges_src.now p.target c.args.dir_edges_marked.now p.star p.tracings) p.sense (lit< tt))

pub returns : goal.returns
returns c =
    let total : ℕ = 2 * c.from-total.result in
    let rows = rows_of c.list_rings-listed.new.ring_first c.list_rings-listed.new.ring_length c.list_rings-listed.new.ring_side c.list_rings-listed.new.ring_area in
    let w = c.list_rings-listed in
    let l : Listing c.args.graph c.args.nodes_x.now c.args.nodes_y.now c.args.dir_edges_src.now c.args.dir_edges_marked.now c.args.offsets.now c.args.grouped.now c.args.half_edges.now
    (rows_of c.args.ring_first.now c.args.ring_length.now c.args.ring_side.now c.args.ring_area.now) w.new.half_edges w.new.keys
    (rows_of w.new.ring_first w.new.ring_length w.new.ring_side w.new.ring_area) w.result = record { each = w.ensures } in
    λ zs ds nm lines ids target star tr sense gs.
    let k = (state_of c.args.graph c.args.nodes_x.now c.args.nodes_y.now zs ds nm lines ids c.args.dir_edges_src.now target c.args.dir_edges_marked.now star tr) in
    let q = got l zs ds nm lines ids target star tr sense gs in
    let h = q.listed in
    let can = able l zs ds nm lines ids target star tr sense gs c.from-total.result c.from-total.ensures c.from.result c.from.ensures in
    record {
      advanced = c.at_stage-after.ensures;
      count = h.number ∙ rings-many k;
      counted = q.counted;
      compared = made-is l zs ds nm lines ids target star tr sense gs c.from-total.result c.from-total.ensures c.from.result c.from.ensures c.name_rings-made.result (c.name_rings-made.ensures.made _ _ _ can);
      half_edges_lem = h.halves ∙ ap (λ r. over (flatten r) c.args.half_edges.now) (sym (rings_of-halves k));
      first = h.places ∙ ap (λ r. over r c.args.ring_first.now) (places-replied k);
      size = h.sizes ∙ ap (λ r. over r c.args.ring_length.now) (sizes-replied k);
      face = c.name_rings-made.ensures.faces _ _ _ can ∙ ap (λ r. over r c.args.ring_face.now)
          (ap (λ n. face_numbers (rings_at (take total w.new.half_edges) rows.first rows.size n c.args.dir_edges_src.now c.args.nodes_x.now c.args.nodes_y.now)) c.from.ensures
          ∙ faces-replied limits k sense c.args.half_edges.now (rows_of c.args.ring_first.now c.args.ring_length.now c.args.ring_side.now c.args.ring_area.now) w.new.half_edges rows w.result.count h total (whole l zs ds nm lines ids target star tr sense gs c.from-total.result c.from-total.ensures));
      side = h.sides ∙ ap (λ r. over r c.args.ring_side.now) (sides-replied side_number_lem limits fine_limits k sense);
      area = h.areas ∙ ap (λ r. over r c.args.ring_area.now) (sides-replied side_area_lem limits fine_limits k sense);
    }
