-- `tukmiheb_compare_angular` meets its contract.
use mathlib.Core.Path.{sym, ap, ◌∙◌}
use mathlib.Core.List.{[], ◌∷◌}
use Rattle.geometry.specs.Coordinate.{coordinate_bound}
use Rattle.geometry.specs.Comparison.{comparison, reply_of}
use Rattle.station_questions.specs.Questions.{told_by, told_order}
use Rattle.station_questions.proofs.angle.tukmiheb_compare_angular.Goals as goal

pub returns-in-Err : goal.returns-in-Err
returns-in-Err c =
    ap (λ n. told_by n c.args.reply.now) c.refusal_number.ensures
    ∙ ap (told_order c.args.reply.now) (ap reply_of (sym c.in-Err.is) ∙ (c.compare_angular.ensures
    ∙ (λ i. comparison coordinate_bound (c.flat_point-center.ensures i) (c.flat_point.ensures i) (c.flat_point-2.ensures i))))

pub returns-in-Ok : goal.returns-in-Ok
returns-in-Ok c =
    ap (λ n. told_by 0 (n ∷ [])) c.order_number-number.ensures
    ∙ ap (told_order c.args.reply.now) (ap reply_of (sym c.in-Ok.is) ∙ (c.compare_angular.ensures
    ∙ (λ i. comparison coordinate_bound (c.flat_point-center.ensures i) (c.flat_point.ensures i) (c.flat_point-2.ensures i))))
