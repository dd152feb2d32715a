-- `check_rings` meets its contract: where numbers 6, 7 and 5 pass, the lengths of the lists decide.
use Prim.Native.Nat.{ℕ, ◌*◌}
use mathlib.Core.Path.{sym, ap, ◌∙◌}
use Rattle.std.proofs.lemmas.Result.{err_from_is_err_and}
use Rattle.rules.specs.Limits.{limits}
use Rattle.rules.specs.Ringing.{long_enough}
use Rattle.tables.specs.Regions.{state_in}
use Rattle.extracting.specs.Extraction.{lists_of}
use Rattle.calls.proofs.Shells.{stage-passed}
use Rattle.ring_checks.proofs.Shell.{ring_stops, ring-short}
use Rattle.ring_checks.proofs.checks.check_rings.Goals as goal

pub returns-in_err-check_stage : goal.returns-in_err-check_stage
returns-in_err-check_stage c =
    let p = err_from_is_err_and c.from_residual.result c.from_residual.ensures.1 in
    rw (p.1, p.2) (ring_stops limits (state_in limits c.args.graph c.args.floats.now c.args.numbers.now c.args.stars.now c.args.marks.now c.args.ids.now) (lists_of c.args.half_edges.now c.args.ring_first.now c.args.ring_length.now c.args.ring_face.now c.args.ring_side.now c.args.ring_area.now) _ (sym c.in_err-check_stage.was ∙ c.check_stage.ensures))

pub returns-then-lists_long : goal.returns-then-lists_long
returns-then-lists_long c =
    let g = (stage-passed limits 3 (state_in limits c.args.graph c.args.floats.now c.args.numbers.now c.args.stars.now c.args.marks.now c.args.ids.now) (sym c.in_ok-check_stage.was ∙ c.check_stage.ensures)) in
    (g.0.room, g.0.sense, g.1, (ap (λ (n : ℕ). long_enough (2 * n) (lists_of c.args.half_edges.now c.args.ring_first.now c.args.ring_length.now c.args.ring_face.now c.args.ring_side.now c.args.ring_area.now)) (sym c.from.ensures) ∙ sym c.lists_long.ensures) ∙ c.if-lists_long.true)

pub returns : goal.returns
returns c =
    let g = (stage-passed limits 3 (state_in limits c.args.graph c.args.floats.now c.args.numbers.now c.args.stars.now c.args.marks.now c.args.ids.now) (sym c.in_ok-check_stage.was ∙ c.check_stage.ensures)) in
    ring-short limits (state_in limits c.args.graph c.args.floats.now c.args.numbers.now c.args.stars.now c.args.marks.now c.args.ids.now) (lists_of c.args.half_edges.now c.args.ring_first.now c.args.ring_length.now c.args.ring_face.now c.args.ring_side.now c.args.ring_area.now) g.0 g.1 ((ap (λ (n : ℕ). long_enough (2 * n) (lists_of c.args.half_edges.now c.args.ring_first.now c.args.ring_length.now c.args.ring_face.now c.args.ring_side.now c.args.ring_area.now)) (sym c.from.ensures) ∙ sym c.lists_long.ensures) ∙ c.if-lists_long.false)
