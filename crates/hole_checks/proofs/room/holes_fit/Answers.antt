-- `holes_fit` meets its contract: a record for each edge is always enough, and else the open rings are counted.
use Prim.Native.Nat.{ℕ}
use native.Mathlib.Omega.{arith}
use mathlib.Core.Path.{sym, ap, ◌∙◌}
use mathlib.Core.List.{List}
use lib.Dec.{leb}
use lib.ListN.{length}
use borrow.Author.Tests.{le-leb}
use Rattle.rules.specs.Limits.{limits}
use Rattle.rules.specs.State.{State}
use Rattle.rules.specs.Extraction.{holes_in}
use Rattle.rules.proofs.ShapedRings.{few-holes}
use Rattle.tables.specs.Regions.{state_in}
use Rattle.hole_checks.specs.Open.{open_among}
use Rattle.hole_checks.proofs.Opening.{sides-within, open_holes}
use Rattle.hole_checks.proofs.room.holes_fit.Goals as goal
use Rattle.hole_checks.proofs.room.holes_fit.Goals.{Start}

-- the state that the slices hold with these line ids
abbrev held_with : Start → List ℕ → State
held_with c ids = state_in limits c.args.graph c.args.floats.now c.args.numbers.now c.args.stars.now c.args.marks.now ids

pub returns-then-from-room : goal.returns-then-from-room
returns-then-from-room c ids sense =
    let s = held_with (goal.at.returns-then-from-room c).Start ids in
    sym (le-leb (length (holes_in s)) c.args.room (omega (arith, few-holes limits s sense, c.if-from-room.true, c.from.ensures)))

pub sides_of_regions-count-requires : goal.sides_of_regions-count-requires
sides_of_regions-count-requires c =
    record {
      limits_in_bounds = c.requires.limits_in_bounds;
      slice_sound = c.requires.slice_sound;
      edges_in_bounds = omega arith;
    }

pub open_rings-requires : goal.open_rings-requires
open_rings-requires c =
    let given = c.requires.slice_sound in
    omega (arith, c.from-2.ensures, sides-within (held_with (goal.at.open_rings-requires c).Start given.ids) _ _ _ (c.sides_of_regions-count.ensures given.ids given.sense))

pub returns : goal.returns
returns c ids sense =
    let sides = c.sides_of_regions-count.new.ring_side in
    ap (λ n. leb n c.args.room)
    (c.open_rings.ensures ∙ ap (λ n. length (open_among sides n)) c.from-2.ensures ∙ open_holes (held_with (goal.at.returns c).Start ids) _ _ _ (c.sides_of_regions-count.ensures ids sense))
