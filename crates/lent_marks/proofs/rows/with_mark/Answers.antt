-- `with_mark` meets its contract: a byte that says its mark stays.
use mathlib.Core.Path.{sym, ap, ◌∙◌}
use Rattle.lent_marks.specs.Marks.{blend}
use Rattle.lent_marks.proofs.Blending.{blend_off, blend_on, blend-kept}
use Rattle.lent_marks.proofs.rows.with_mark.Goals as goal

pub returns-then-byte-eq0 : goal.returns-then-byte-eq0
returns-then-byte-eq0 c = let a = c.args in sym (ap (λ m. blend m a.byte) c.if-mark.true ∙ blend_on a.byte c.if-byte-eq0.true)

pub returns-then-mark : goal.returns-then-mark
returns-then-mark c = let a = c.args in sym (ap (λ m. blend m a.byte) c.if-mark.true ∙ blend-kept a.byte c.if-byte-eq0.false)

pub returns : goal.returns
returns c = let a = c.args in sym (ap (λ m. blend m a.byte) c.if-mark.false ∙ blend_off a.byte)
