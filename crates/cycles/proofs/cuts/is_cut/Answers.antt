-- `cycles::cuts::is_cut` meets its contract. Each answer is the test, by the marks and labels read.
use Prim.Native.Nat.{◌+◌, ◌*◌}
use native.Mathlib.Omega.{arith}
use mathlib.Core.Path.{sym, ap, ◌∙◌}
use mathlib.Core.Bool.{true, false}
use Rattle.lists.proofs.Entries.{get_d_any}
use Rattle.cycles.specs.Cuts.{cut_by}
use Rattle.cycles.proofs.Cutting.{cut-first, cut-second, cut_labels}
use Rattle.cycles.proofs.cuts.is_cut.Goals as goal

pub returns-then-dir_edges_marked-k : goal.returns-then-dir_edges_marked-k
returns-then-dir_edges_marked-k c =
    let a = c.args in
    (let a = c.args in sym (cut-first a.dir_edges_marked.now a.labels.now c.from-k.result ((get_d_any c.args.dir_edges_marked.now (2 * c.from-k.result) true false (omega (arith, c.from-k.ensures, c.requires.1))) ∙ c.if-dir_edges_marked-k.true)) ∙ ap (cut_by a.dir_edges_marked.now a.labels.now) c.from-k.ensures)

pub returns-then-dir_edges_marked-k-2 : goal.returns-then-dir_edges_marked-k-2
returns-then-dir_edges_marked-k-2 c =
    let a = c.args in
    (let a = c.args in sym (cut-second a.dir_edges_marked.now a.labels.now c.from-k.result ((get_d_any c.args.dir_edges_marked.now (2 * c.from-k.result + 1) true false (omega (arith, c.from-k.ensures, c.requires.1))) ∙ c.if-dir_edges_marked-k-2.true)) ∙ ap (cut_by a.dir_edges_marked.now a.labels.now) c.from-k.ensures)

pub returns : goal.returns
returns c =
    let a = c.args in
    (let a = c.args in sym (cut_labels a.dir_edges_marked.now a.labels.now c.from-k.result ((get_d_any c.args.dir_edges_marked.now (2 * c.from-k.result) true false (omega (arith, c.from-k.ensures, c.requires.1))) ∙ c.if-dir_edges_marked-k.false) ((get_d_any c.args.dir_edges_marked.now (2 * c.from-k.result + 1) true false (omega (arith, c.from-k.ensures, c.requires.1))) ∙ c.if-dir_edges_marked-k-2.false)) ∙ ap (cut_by a.dir_edges_marked.now a.labels.now) c.from-k.ensures)
