use native.Mathlib.Omega.{arith}
use mathlib.Core.Path.{◌≡◌, sym, ap, ◌∙◌}
use Rattle.rules.specs.Limits.{limits}
use Rattle.line_ids.specs.Free.{free_from}
use Rattle.line_ids.proofs.FreePlace.{free-here, free_on, free-none}
use Rattle.line_ids.proofs.free.next_free.Goals as goal

pub loop-p-init : goal.loop-p-init
loop-p-init c = (omega (arith, c.from-p.ensures), ap (λ p. free_from c.args.used.now p limits.pairs) c.from-p.ensures)

pub returns-then-not-used-p : goal.returns-then-not-used-p
returns-then-not-used-p c = sym (free-here c.args.used.now limits.pairs c.loop-p.p (omega arith) c.if-not-used-p.true) ∙ c.loop-p.invariant.1

pub loop-p-preserved : goal.loop-p-preserved
loop-p-preserved c = (omega arith, sym (free_on c.args.used.now limits.pairs c.loop-p.p (omega arith) c.if-not-used-p.false) ∙ c.loop-p.invariant.1)

pub returns : goal.returns
returns c =
    let all : c.loop-p.p ≡ limits.pairs = omega arith in
    sym all ∙ sym (free-none c.args.used.now limits.pairs c.loop-p.p (omega arith)) ∙ c.loop-p.invariant.1
