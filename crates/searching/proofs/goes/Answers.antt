-- `adding::search::goes` meets its contract.
use mathlib.Core.Path.{sym}
use borrow.Author.Tests.{eq-eqb, ne_eqb}
use Rattle.searching.proofs.goes.Goals as goal

pub returns-then-dir_edges_src-h : goal.returns-then-dir_edges_src-h
returns-then-dir_edges_src-h c = rw (sym c.from-h.ensures, eq-eqb _ _ c.if-dir_edges_src-h.true)

pub returns-else-dir_edges_src-h : goal.returns-else-dir_edges_src-h
returns-else-dir_edges_src-h c = rw (sym c.from-h.ensures, ne_eqb _ _ c.if-dir_edges_src-h.false)
