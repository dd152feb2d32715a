-- `is_sound_graph` meets its contract: the regions are lent as parts.
use Prim.Native.Nat.{◌*◌, ◌-◌}
use native.Mathlib.Omega.{arith}
use mathlib.Core.Path.{◌∙◌}
use lib.ListN.{length, drop, length-take, length-drop}
use Rattle.rules.specs.Limits.{limits}
use Rattle.rules.specs.State.{sound_graph}
use Rattle.tables.specs.Tables.{state_of}
use Rattle.tables.specs.Regions.{xs_in, ys_in, zs_in, segments_in, sources_in, targets_in, star_table_in, node_marks_in, line_ids_in, tracings_in}
use Rattle.tables.proofs.Regions.{tail-is}
use Rattle.soundness.proofs.is_sound_graph.Goals as goal

pub is_sound-requires : goal.is_sound-requires
is_sound-requires c =
    let floats = c.args.floats.now in
    let numbers = c.args.numbers.now in
    let stars = c.args.stars.now in
    let marks = c.args.marks.now in
    let n = limits.nodes in
    let h = 2 * limits.edges in
    record {
      x_room = omega (arith, c.requires.0, length-take n floats);
      y_room = omega (arith, c.requires.0, length-take n (drop n floats), length-drop n floats);
      degree_room = omega (arith, c.requires.2, length-take (length stars - h) (drop h stars), length-drop h stars);
      node_mark_room = omega (arith, c.requires.3, length-take n marks);
      source_room = omega (arith, c.requires.1, length-take h numbers);
      target_room = omega (arith, c.requires.1, length-take h (drop h numbers), length-drop h numbers);
      half_mark_room = omega (arith, c.requires.3, length-take (length marks - n) (drop n marks), length-drop n marks);
      star_room = omega (arith, c.requires.2, length-take h stars);
    }

pub returns : goal.returns
returns c ids =
    let a = c.args in
    let floats = a.floats.now in
    let numbers = a.numbers.now in
    let stars = a.stars.now in
    let marks = a.marks.now in
    c.is_sound.ensures (zs_in limits floats) (segments_in limits floats) (line_ids_in limits ids) (tracings_in limits numbers ids)
    ∙ (λ i. sound_graph limits (state_of a.graph (xs_in limits floats) (ys_in limits floats) (zs_in limits floats) (tail-is (2 * limits.edges) stars i) (node_marks_in limits marks)
    (segments_in limits floats) (line_ids_in limits ids) (sources_in limits numbers) (targets_in limits numbers) (tail-is limits.nodes marks i) (star_table_in limits stars) (tracings_in limits numbers ids)))
