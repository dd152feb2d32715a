-- `leaves::is_leaf` meets its contract.
use mathlib.Core.Path.{sym, ap, ◌∙◌}
use mathlib.Core.Bool.{false, not, ◌&&◌}
use lib.ListN.{get_or}
use borrow.Author.Tests.{eq-eqb, ne_eqb}
use Rattle.leaves.specs.Steps.{leaf}
use Rattle.leaves.proofs.is_leaf.Goals as goal

pub returns-then-nodes_degree-n-eq1 : goal.returns-then-nodes_degree-n-eq1
returns-then-nodes_degree-n-eq1 c = sym (ap (λ b. b && not (get_or c.args.nodes_marked.now c.from-n.result false)) (eq-eqb _ 1 c.if-nodes_degree-n-eq1.true)) ∙ (let a = c.args in ap (leaf a.nodes_degree.now a.nodes_marked.now) c.from-n.ensures)

pub returns : goal.returns
returns c = sym (ap (λ b. b && not (get_or c.args.nodes_marked.now c.from-n.result false)) (ne_eqb _ 1 c.if-nodes_degree-n-eq1.false)) ∙ (let a = c.args in ap (leaf a.nodes_degree.now a.nodes_marked.now) c.from-n.ensures)
