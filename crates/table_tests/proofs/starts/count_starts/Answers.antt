use Prim.Native.Nat.{◌<◌}
use native.Mathlib.Omega.{arith}
use mathlib.Core.Path.{◌≡◌, ap, ◌∙◌}
use mathlib.Core.List.{map}
use Rattle.lists.specs.Lists.{upto}
use Rattle.table_tests.specs.Tests.{starts_at}
use Rattle.rules.specs.Limits.{limits}
use Rattle.table_tests.proofs.Standing.{counted_none, counted_more, counted-low, counted-all}
use Rattle.table_tests.proofs.starts.count_starts.Goals as goal

pub loop-h-init : goal.loop-h-init
loop-h-init c = (omega arith, counted_none limits.nodes _)

pub offset_bounds-counts-n : goal.offset_bounds-counts-n
offset_bounds-counts-n c =
    let a = c.args in
    let n : c.from-n.result < limits.nodes = omega (arith, c.from-n.ensures, c.requires.within c.loop-h.h (omega arith)) in
    omega arith

pub bounds-counts-n : goal.bounds-counts-n
bounds-counts-n c =
    let a = c.args in
    let n : c.from-n.result < limits.nodes = omega (arith, c.from-n.ensures, c.requires.within c.loop-h.h (omega arith)) in
    omega (arith, c.loop-h.invariant.1.size)

pub overflow_add-counts : goal.overflow_add-counts
overflow_add-counts c =
    let a = c.args in
    let n : c.from-n.result < limits.nodes = omega (arith, c.from-n.ensures, c.requires.within c.loop-h.h (omega arith)) in
    omega (arith, counted-low limits.nodes a.dir_edges_src.now c.loop-h.h c.loop-h.counts c.from-n.result n c.loop-h.invariant.1)

pub bounds-counts-n-in-loop-h : goal.bounds-counts-n-in-loop-h
bounds-counts-n-in-loop-h c =
    let a = c.args in
    let n : c.from-n.result < limits.nodes = omega (arith, c.from-n.ensures, c.requires.within c.loop-h.h (omega arith)) in
    omega (arith, c.loop-h.invariant.1.size)

pub loop-h-preserved : goal.loop-h-preserved
loop-h-preserved c =
    let a = c.args in
    let n : c.from-n.result < limits.nodes = omega (arith, c.from-n.ensures, c.requires.within c.loop-h.h (omega arith)) in
    (omega arith, counted_more limits.nodes a.dir_edges_src.now c.loop-h.h c.loop-h.counts c.from-n.result c.from-n.ensures n c.loop-h.invariant.1)

pub returns : goal.returns
returns c =
    let a = c.args in
    let e : c.loop-h.h ≡ a.halves = omega arith in
    counted-all limits.nodes a.dir_edges_src.now c.loop-h.h c.loop-h.counts c.loop-h.invariant.1 ∙ ap (λ h. map (starts_at a.dir_edges_src.now h) (upto limits.nodes)) e
