-- Number 6, by the lengths of the five slices.
use Prim.Native.Nat.{ℕ, ◌*◌}
use native.Mathlib.Omega.{arith}
use mathlib.Core.Path.{◌≡◌, sym, ◌∙◌}
use mathlib.Core.Bool.{Bool, true, ◌&&◌}
use mathlib.Core.List.{List}
use lib.Dec.{leb}
use lib.Ieee.{Float}
use lib.ListN.{length, drop, length-take, length-drop}
use borrow.Author.Tests.{leb-true, le-leb}
use Rattle.lists.proofs.Counts.{by_test, true_is_false}
use Rattle.lists.proofs.Tests.{both, both_true}
use Rattle.rules.specs.Limits.{Limits}
use Rattle.rules.specs.State.{State, roomy}
use Rattle.rules.proofs.Soundness.{Roomy, is-roomy}
use Rattle.rules.proofs.Sounding.{roomy_true}
use Rattle.tables.specs.declared.PlanarGraph.{PlanarGraph}
use Rattle.tables.specs.Regions.{state_in, least_floats, least_numbers, least_stars, least_marks, least_ids, SliceRoom}

module _ (l : Limits) (g : PlanarGraph) (floats : List Float) (numbers stars : List ℕ) (marks : List Bool) (ids : List ℕ) where
  -- the state that the slices hold
  abbrev held : State
  held = state_in l g floats numbers stars marks ids

  -- the five tests, in the order of the code
  abbrev pub fits : Bool
  fits =
      leb (least_floats l) (length floats)
      && leb (least_numbers l) (length numbers)
      && leb (least_stars l) (length stars)
      && leb (least_marks l) (length marks)
      && leb (least_ids l) (length ids)

  -- tables that are long enough stand in slices that are
  tables_fit : Roomy l held → SliceRoom l floats numbers stars marks ids
  tables_fit r = record {
    float_room = omega (arith, r.node_z, r.segment, length-take l.nodes (drop (2 * l.nodes) floats), length-drop (2 * l.nodes) floats, length-drop (3 * l.nodes) floats);
    number_room = omega (arith, r.place, r.next, length-take l.edges (drop (4 * l.edges) numbers), length-drop (4 * l.edges) numbers, length-drop (5 * l.edges) numbers);
    star_room = omega (arith, r.degree, r.star, length-take (2 * l.edges) stars, length-drop (2 * l.edges) stars);
    mark_room = omega (arith, r.node_mark, r.half_mark, length-take l.nodes marks, length-drop l.nodes marks);
    id_room = omega (arith, r.line_id, r.id, length-take l.edges ids, length-drop l.edges ids);
  }

  -- and the other way round
  slices_fit : SliceRoom l floats numbers stars marks ids → Roomy l held
  slices_fit r = record {
    node_x = omega (arith, r.float_room, length-take l.nodes floats);
    node_y = omega (arith, r.float_room, length-take l.nodes (drop l.nodes floats), length-drop l.nodes floats);
    node_z = omega (arith, r.float_room, length-take l.nodes (drop (2 * l.nodes) floats), length-drop (2 * l.nodes) floats);
    degree = omega (arith, r.star_room, length-drop (2 * l.edges) stars);
    node_mark = omega (arith, r.mark_room, length-take l.nodes marks);
    segment = omega (arith, r.float_room, length-drop (3 * l.nodes) floats);
    line_id = omega (arith, r.id_room, length-take l.edges ids);
    source = omega (arith, r.number_room, length-take (2 * l.edges) numbers);
    target = omega (arith, r.number_room, length-take (2 * l.edges) (drop (2 * l.edges) numbers), length-drop (2 * l.edges) numbers);
    half_mark = omega (arith, r.mark_room, length-drop l.nodes marks);
    star = omega (arith, r.star_room, length-take (2 * l.edges) stars);
    place = omega (arith, r.number_room, length-take l.edges (drop (4 * l.edges) numbers), length-drop (4 * l.edges) numbers);
    id = omega (arith, r.id_room, length-drop l.edges ids);
    next = omega (arith, r.number_room, length-drop (5 * l.edges) numbers);
  }

  -- where number 6 passes, the slices have room
  pub room_of : roomy l held ≡ true → SliceRoom l floats numbers stars marks ids
  room_of e = tables_fit (is-roomy l held e)

  -- slices with room pass the five tests
  room_fits : SliceRoom l floats numbers stars marks ids → fits ≡ true
  room_fits r =
      both_true _ _ (both_true _ _ (both_true _ _ (both_true _ _ (le-leb _ _ r.float_room) (le-leb _ _ r.number_room)) (le-leb _ _ r.star_room))
      (le-leb _ _ r.mark_room)) (le-leb _ _ r.id_room)

  -- and slices that pass have room
  fits-room : fits ≡ true → SliceRoom l floats numbers stars marks ids
  fits-room e =
      let four = both _ (leb (least_ids l) (length ids)) e in
      let three = both _ (leb (least_marks l) (length marks)) four.0 in
      let two = both _ (leb (least_stars l) (length stars)) three.0 in
      let one = both _ (leb (least_numbers l) (length numbers)) two.0 in
      record {
        float_room = leb-true _ _ one.0;
        number_room = leb-true _ _ one.1;
        star_room = leb-true _ _ two.1;
        mark_room = leb-true _ _ three.1;
        id_room = leb-true _ _ four.1;
      }

  -- number 6 is the five tests
  pub room-is : fits ≡ roomy l held
  room-is = by_test (roomy l held)
      (λ t. room_fits (room_of t) ∙ sym t)
      (λ t. by_test fits
      (λ e. absurd (true_is_false (sym (roomy_true l held (slices_fit (fits-room e))) ∙ t)))
      (λ e. e ∙ sym t))
