use native.Mathlib.Omega.{arith}
use mathlib.Core.Path.{◌≡◌, sym, ap, ◌∙◌}
use Rattle.rules.specs.Limits.{limits}
use Rattle.line_ids.proofs.Marked.{list_marks, list_marks-none, list_marks-turn, list_marks-used}
use Rattle.line_ids.proofs.free.mark_used.Goals as goal

pub loop-k-init : goal.loop-k-init
loop-k-init c = let a = c.args in (omega arith, sym (list_marks-none limits.pairs a.list_places.now a.links.now))

pub mark_list-requires : goal.mark_list-requires
mark_list-requires c = c.requires.each c.loop-k.k c.loop-k-test.true

pub loop-k-preserved : goal.loop-k-preserved
loop-k-preserved c =
    let a = c.args in
    (omega arith, list_marks-turn limits.pairs a.list_places.now a.links.now c.loop-k.k c.loop-k.used _ c.loop-k.invariant.1 c.mark_list.ensures)

pub returns : goal.returns
returns c =
    let a = c.args in
    let e : c.loop-k.k ≡ a.edges = omega arith in
    c.loop-k.invariant.1 ∙ ap (list_marks limits.pairs a.list_places.now a.links.now) e ∙ list_marks-used limits.pairs a.list_places.now a.links.now a.edges
