use native.Mathlib.Omega.{arith}
use mathlib.Core.Path.{◌≡◌, refl, sym, ap, ◌∙◌}
use mathlib.Core.List.{reverse}
use native.Mathlib.Numerals.{add-one}
use Rattle.lists.specs.Lists.{below}
use Rattle.rules.specs.Prune.{push}
use Rattle.leaves.specs.Steps.{leaf}
use Rattle.leaves.proofs.Latest.{reverse-below}
use Rattle.leaves.proofs.stack_leaves.Goals as goal

pub loop-n-init : goal.loop-n-init
loop-n-init c = (omega arith, omega arith, refl, refl)

pub loop-n-preserved : goal.loop-n-preserved
loop-n-preserved c =
    let a = c.args in
    let q = c.loop-n in
    let p = leaf a.nodes_degree.now a.nodes_marked.now in
    let e = c.push_leaf-stacked.ensures.0 ∙ ap (push (p q.n) q.n) q.invariant.3 ∙ reverse-below p q.n ∙ ap (λ k. reverse (below p k)) (sym (add-one q.n)) in
    (omega arith, omega arith, omega arith, e)

pub returns : goal.returns
returns c =
    let a = c.args in
    let q = c.loop-n in
    let z : q.n ≡ a.nodes = omega arith in
    (q.invariant.3 ∙ ap (λ k. reverse (below (leaf a.nodes_degree.now a.nodes_marked.now) k)) z, omega arith)
