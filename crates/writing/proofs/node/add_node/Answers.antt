-- `add_node` meets its contract.
use native.Mathlib.Omega.{arith}
use mathlib.Core.Path.{refl}
use lib.ListN.{length-set}
use Rattle.rules.specs.Limits.{limits}
use Rattle.writing.proofs.Nodes.{node_stored}
use Rattle.writing.proofs.node.add_node.Goals as goal

pub bounds-floats-n-then-is_new : goal.bounds-floats-n-then-is_new
bounds-floats-n-then-is_new c = simp length-set (omega arith)

pub bounds-floats-n-then-is_new-2 : goal.bounds-floats-n-then-is_new-2
bounds-floats-n-then-is_new-2 c = simp length-set (omega arith)

pub returns-then-is_new : goal.returns-then-is_new
returns-then-is_new c graph numbers ids =
    let a = c.args in
    node_stored limits a.node.0 a.point c.requires.few graph a.floats.now numbers a.stars.now a.marks.now ids
    a.is_new c.if-is_new.true c.from-n.result c.from-n.ensures

pub returns-else-is_new : goal.returns-else-is_new
returns-else-is_new c graph numbers ids = rw c.if-is_new.false refl
