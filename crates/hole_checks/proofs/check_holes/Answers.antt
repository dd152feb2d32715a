-- `check_holes` meets its contract: where numbers 6, 7, 5 and 8 pass, number 13 decides.
use mathlib.Core.Path.{◌≡◌, sym, ap, subst, ◌∙◌}
use lib.Dec.{leb}
use lib.ListN.{length}
use Rattle.std.specs.Prelude.{Err}
use Rattle.std.proofs.lemmas.Result.{err_from_is_err_and}
use Rattle.rules.specs.Limits.{limits}
use Rattle.rules.specs.State.{State}
use Rattle.rules.specs.Ringing.{RingLists}
use Rattle.rules.specs.Extraction.{holes_in}
use Rattle.tables.specs.Regions.{state_in}
use Rattle.tables.proofs.SliceRoom.{room_of}
use Rattle.extracting.specs.Extraction.{lists_of}
use Rattle.calls.specs.Checks.{passed}
use Rattle.ring_checks.specs.Checks.{RingChecked}
use Rattle.hole_checks.specs.Clause.{lent}
use Rattle.hole_checks.specs.Checks.{HolesChecked}
use Rattle.hole_checks.proofs.Tests.{extract_stops, extract-short}
use Rattle.hole_checks.proofs.check_holes.Goals as goal
use Rattle.hole_checks.proofs.check_holes.Goals.{Start, In_err-check_rings, In_ok-check_rings, After-holes_fit}

-- the state that the slices hold
abbrev held : Start → State
held c = state_in limits c.args.graph c.args.floats.now c.args.numbers.now c.args.stars.now c.args.marks.now c.args.ids.now

-- the ring lists as they are lent
abbrev given : Start → RingLists
given c = lists_of c.args.half_edges.now c.args.ring_first.now c.args.ring_length.now c.args.ring_face.now c.args.ring_side.now c.args.ring_area.now

-- what the tests of the rings came to, where one of them refused
stops : (c : In_err-check_rings) → (let s = (goal.at.In_err-check_rings c).Start in HolesChecked c.args.room (held s) (given s) (Err c.in_err-check_rings.field-0.0))
stops c old e =
    let s = (goal.at.In_err-check_rings c).Start in
    extract_stops limits (held s) (lent (given s) old) _ (subst (RingChecked (held s) (given s)) c.in_err-check_rings.was c.check_rings.ensures)

pub returns-in_err-check_rings : goal.returns-in_err-check_rings
returns-in_err-check_rings c =
    let p = err_from_is_err_and c.from_residual.result c.from_residual.ensures.1 in
    rw (p.1, p.2) (stops (goal.at.returns-in_err-check_rings c).In_err-check_rings)

-- numbers 6, 7, 5 and 8 passed
good : (c : In_ok-check_rings) → (let s = (goal.at.In_ok-check_rings c).Start in RingChecked (held s) (given s) passed)
good c =
    let s = (goal.at.In_ok-check_rings c).Start in
    subst (RingChecked (held s) (given s)) c.in_ok-check_rings.was c.check_rings.ensures

pub holes_fit-requires : goal.holes_fit-requires
holes_fit-requires c =
    let a = c.args in
    let g = good (goal.at.holes_fit-requires c).In_ok-check_rings in
    let room = room_of limits a.graph a.floats.now a.numbers.now a.stars.now a.marks.now a.ids.now g.0 in
    record {
      limits_in_bounds = (room.float_room, room.number_room, room.star_room, room.mark_room);
      slice_sound = record { ids = a.ids.now; roomed = g.0; sense = g.1 };
    }

-- number 13 is what it came to
fits_is : (c : After-holes_fit) → leb (length (holes_in (held (goal.at.After-holes_fit c).Start))) c.args.room ≡ c.holes_fit.result
fits_is c = sym (c.holes_fit.ensures c.args.ids.now (good (goal.at.After-holes_fit c).In_ok-check_rings).1)

pub returns-then-holes_fit : goal.returns-then-holes_fit
returns-then-holes_fit c =
    let h = goal.at.returns-then-holes_fit c in
    (good h.In_ok-check_rings, fits_is h.After-holes_fit ∙ c.if-holes_fit.true)

pub returns : goal.returns
returns c old e =
    let h = goal.at.returns c in
    let s = h.Start in
    let g = good h.In_ok-check_rings in
    extract-short limits (held s) (lent (given s) old) (record { room = g.0; sense = g.1 }) g.2 g.3 (ap (leb (length (holes_in (held s)))) e ∙ fits_is h.After-holes_fit ∙ c.if-holes_fit.false)
