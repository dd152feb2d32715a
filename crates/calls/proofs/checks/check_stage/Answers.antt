-- `check_stage` meets its contract: where numbers 6 and 7 pass, the stage decides.
use borrow.Author.Tests.{eq-eqb, ne_eqb}
use mathlib.Core.Path.{sym, ap, ◌∙◌}
use mathlib.Core.Bool.{Bool, cond}
use Rattle.std.proofs.lemmas.Result.{err_from_is_err_and}
use Rattle.rules.specs.Limits.{limits}
use Rattle.tables.specs.Regions.{state_in}
use Rattle.tables.specs.declared.Refusal.TheVariants.{WrongStage}
use Rattle.calls.specs.Checks.{passed, due}
use Rattle.calls.proofs.Shells.{check_passed, check_refused, check_stage-is}
use Rattle.calls.proofs.checks.check_stage.Goals as goal

pub returns-in_err-check_sound : goal.returns-in_err-check_sound
returns-in_err-check_sound c =
    let p = err_from_is_err_and c.from_residual.result c.from_residual.ensures.1 in
    rw (p.1, p.2) (check_refused limits c.args.stage (state_in limits c.args.graph c.args.floats.now c.args.numbers.now c.args.stars.now c.args.marks.now c.args.ids.now) _ (sym c.in_err-check_sound.was ∙ c.check_sound.ensures))

pub returns-then-graph-stage : goal.returns-then-graph-stage
returns-then-graph-stage c =
    sym (check_stage-is limits c.args.stage (state_in limits c.args.graph c.args.floats.now c.args.numbers.now c.args.stars.now c.args.marks.now c.args.ids.now) (check_passed limits (state_in limits c.args.graph c.args.floats.now c.args.numbers.now c.args.stars.now c.args.marks.now c.args.ids.now) (sym c.in_ok-check_sound.was ∙ c.check_sound.ensures))
    ∙ ap (λ (b : Bool). cond b passed (due WrongStage)) (eq-eqb c.args.graph.stage c.args.stage c.if-graph-stage.true))

pub returns : goal.returns
returns c =
    sym (check_stage-is limits c.args.stage (state_in limits c.args.graph c.args.floats.now c.args.numbers.now c.args.stars.now c.args.marks.now c.args.ids.now) (check_passed limits (state_in limits c.args.graph c.args.floats.now c.args.numbers.now c.args.stars.now c.args.marks.now c.args.ids.now) (sym c.in_ok-check_sound.was ∙ c.check_sound.ensures))
    ∙ ap (λ (b : Bool). cond b passed (due WrongStage)) (ne_eqb c.args.graph.stage c.args.stage c.if-graph-stage.false))
