-- `extract_regions` meets its contract: the tables that are read are lent as parts, and the lists whole.
use native.Mathlib.Omega.{arith}
use mathlib.Core.Path.{◌≡◌, refl, sym, subst}
use mathlib.Core.Bool.{Bool, true}
use mathlib.Core.List.{List}
use Rattle.rules.specs.Limits.{limits}
use Rattle.rules.specs.State.{roomy, sound}
use Rattle.rules.specs.Ringing.{RingLists}
use Rattle.tables.specs.Regions.{zs_in, segments_in, targets_in, star_table_in, degrees_in, node_marks_in, half_marks_in, line_ids_in, tracings_in}
use Rattle.tables.proofs.Regions.{tail-is}
use Rattle.stars.proofs.Sound.{sound-groupable}
use Rattle.extracting.specs.Extraction.{lists_of, Extraction}
use Rattle.ring_entry.proofs.Lending.{parts_held}
use Rattle.ring_entry.proofs.regions.extract_regions.Goals as goal

pub slice_bounds-group_stars-end-3 : goal.slice_bounds-group_stars-end-3
slice_bounds-group_stars-end-3 c = refl

pub slice_bounds-group_stars-end-4 : goal.slice_bounds-group_stars-end-4
slice_bounds-group_stars-end-4 c = refl

pub group_stars-requires : goal.group_stars-requires
group_stars-requires c =
    let s = c.requires.slice_sound in
    let g = sound-groupable limits ((parts_held c.args.graph c.args.floats.now c.args.numbers.now c.args.stars.now c.args.marks.now) s.ids (half_marks_in limits c.args.marks.now)) s.roomed s.sense in
    record {
      groupable = g;
      node_count_in_bounds = omega (arith, g.few_nodes);
      edge_count_in_bounds = omega (arith, g.few_edges);
    }

pub slice_bounds-extract_grouped-end-5 : goal.slice_bounds-extract_grouped-end-5
slice_bounds-extract_grouped-end-5 c = sym c.group_stars.auto.offsets

pub slice_bounds-extract_grouped-end-6 : goal.slice_bounds-extract_grouped-end-6
slice_bounds-extract_grouped-end-6 c = sym c.group_stars.auto.grouped

pub extract_grouped-requires : goal.extract_grouped-requires
extract_grouped-requires c =
    let s = c.requires.slice_sound in
    record {
      nodes_z = zs_in limits c.args.floats.now;
      degree = degrees_in limits c.args.stars.now;
      nodes_marked = node_marks_in limits c.args.marks.now;
      lines = segments_in limits c.args.floats.now;
      line_ids = line_ids_in limits s.ids;
      target = targets_in limits c.args.numbers.now;
      star = star_table_in limits c.args.stars.now;
      tracings = tracings_in limits c.args.numbers.now s.ids;
      roomed = subst (λ (m : List Bool). roomy limits ((parts_held c.args.graph c.args.floats.now c.args.numbers.now c.args.stars.now c.args.marks.now) s.ids m) ≡ true) (sym (tail-is limits.nodes c.args.marks.now)) s.roomed;
      sense = subst (λ (m : List Bool). sound limits ((parts_held c.args.graph c.args.floats.now c.args.numbers.now c.args.stars.now c.args.marks.now) s.ids m) ≡ true) (sym (tail-is limits.nodes c.args.marks.now)) s.sense;
      groups = c.group_stars.ensures;
      long = c.requires.room;
    }

-- the lists as they were lent
abbrev lent : goal.After-slice_known-12-1 → RingLists
lent c = lists_of c.args.half_edges.now c.args.ring_first.now c.args.ring_length.now c.args.ring_face.now c.args.ring_side.now c.args.ring_area.now

-- and as they came back
abbrev written : goal.After-slice_known-12-1 → RingLists
written c =
    let lists = c.extract_grouped.new in
    lists_of lists.half_edges lists.ring_first lists.ring_length lists.ring_face lists.ring_side lists.ring_area

pub returns : goal.returns
returns c ids sense =
    let e =
    c.extract_grouped.ensures (zs_in limits c.args.floats.now) (degrees_in limits c.args.stars.now) (node_marks_in limits c.args.marks.now)
    (segments_in limits c.args.floats.now) (line_ids_in limits ids) (targets_in limits c.args.numbers.now) (star_table_in limits c.args.stars.now) (tracings_in limits c.args.numbers.now ids)
    (subst (λ (m : List Bool). sound limits ((parts_held c.args.graph c.args.floats.now c.args.numbers.now c.args.stars.now c.args.marks.now) ids m) ≡ true) (sym (tail-is limits.nodes c.args.marks.now)) sense) c.group_stars.ensures in
    subst (λ (m : List Bool). Extraction ((parts_held c.args.graph c.args.floats.now c.args.numbers.now c.args.stars.now c.args.marks.now) ids m) (lent c) (written c) c.extract_grouped.result) (tail-is limits.nodes c.args.marks.now) e
