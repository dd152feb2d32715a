-- `sides_of_regions` meets its contract: the tables that are read are lent as parts.
use Prim.Native.Nat.{◌-◌}
use mathlib.Core.Path.{◌≡◌, refl, sym, subst}
use mathlib.Core.Bool.{Bool, true}
use mathlib.Core.List.{List}
use native.Mathlib.Omega.{arith}
use lib.ListN.{length, take, drop}
use Rattle.rules.specs.Limits.{limits}
use Rattle.rules.specs.State.{roomy, sound}
use Rattle.rules.proofs.Histories.{fine_limits}
use Rattle.tables.specs.Regions.{star_table_in, half_marks_in}
use Rattle.tables.proofs.Regions.{tail-is}
use Rattle.stars.proofs.Sound.{sound-groupable, sound_sortable}
use Rattle.extracting.specs.Sides.{Sided}
use Rattle.extracting.proofs.Outcome.{held-sane}
use Rattle.extracting.proofs.Arranging.{sides-stand}
use Rattle.extracting.proofs.Pairs.{sides-asked}
use Rattle.ring_entry.proofs.Lending.{parts_held}
use Rattle.ring_entry.proofs.sides.sides_of_regions.Goals as goal

pub slice_bounds-group_stars-end-3 : goal.slice_bounds-group_stars-end-3
slice_bounds-group_stars-end-3 c = refl

pub slice_bounds-group_stars-end-4 : goal.slice_bounds-group_stars-end-4
slice_bounds-group_stars-end-4 c = refl

pub group_stars-requires : goal.group_stars-requires
group_stars-requires c =
    let s = c.requires.slice_sound in
    let g = sound-groupable limits ((parts_held c.args.graph c.args.floats.now c.args.numbers.now c.args.stars.now c.args.marks.now) s.ids (half_marks_in limits c.args.marks.now)) s.roomed s.sense in
    record {
      groupable = g;
      node_count_in_bounds = omega (arith, g.few_nodes);
      edge_count_in_bounds = omega (arith, g.few_edges);
    }

pub slice_bounds-list_sides-end-3 : goal.slice_bounds-list_sides-end-3
slice_bounds-list_sides-end-3 c = sym c.group_stars.auto.offsets

pub slice_bounds-list_sides-end-4 : goal.slice_bounds-list_sides-end-4
slice_bounds-list_sides-end-4 c = sym c.group_stars.auto.grouped

pub list_sides-requires : goal.list_sides-requires
list_sides-requires c =
    let s = c.requires.slice_sound in
    let held = (parts_held c.args.graph c.args.floats.now c.args.numbers.now c.args.stars.now c.args.marks.now) s.ids (take (length c.args.marks.now - limits.nodes) (drop limits.nodes c.args.marks.now)) in
    let roomed : roomy limits held ≡ true = subst (λ (m : List Bool). roomy limits ((parts_held c.args.graph c.args.floats.now c.args.numbers.now c.args.stars.now c.args.marks.now) s.ids m) ≡ true) (sym (tail-is limits.nodes c.args.marks.now)) s.roomed in
    let sense = (subst (λ (m : List Bool). sound limits ((parts_held c.args.graph c.args.floats.now c.args.numbers.now c.args.stars.now c.args.marks.now) s.ids m) ≡ true) (sym (tail-is limits.nodes c.args.marks.now))) s.sense in
    (sides-asked held sense roomed _ _ c.group_stars.ensures, (sound_sortable limits held roomed sense).located, c.requires.edges_in_bounds)

pub returns : goal.returns
returns c ids sense =
    let sides = c.list_sides.new.ring_side in
    let good = (subst (λ (m : List Bool). sound limits ((parts_held c.args.graph c.args.floats.now c.args.numbers.now c.args.stars.now c.args.marks.now) ids m) ≡ true) (sym (tail-is limits.nodes c.args.marks.now))) sense in
    let held = (parts_held c.args.graph c.args.floats.now c.args.numbers.now c.args.stars.now c.args.marks.now) ids (take (length c.args.marks.now - limits.nodes) (drop limits.nodes c.args.marks.now)) in
    let listed = c.list_sides.ensures (star_table_in limits c.args.stars.now) c.group_stars.ensures (held-sane limits held good) in
    subst (λ (m : List Bool). Sided ((parts_held c.args.graph c.args.floats.now c.args.numbers.now c.args.stars.now c.args.marks.now) ids m) c.args.ring_side.now sides c.list_sides.result) (tail-is limits.nodes c.args.marks.now)
    (sides-stand limits held good fine_limits c.args.ring_side.now sides c.list_sides.result listed)
