-- `rises` meets its contract: past the table an id reads as 0, and nothing is lower.
use native.Mathlib.Omega.{arith}
use mathlib.Core.Path.{sym}
use lib.ListN.{get_or, get_or-eq_default}
use borrow.Author.Tests.{le-ltb}
use Rattle.list_tests.proofs.rises.Goals as goal

pub returns-then-pair_ids-q : goal.returns-then-pair_ids-q
returns-then-pair_ids-q c =
    let a = c.args in
    sym (le-ltb (get_or a.pair_ids.now a.p 0) (get_or a.pair_ids.now a.q 0) (omega (arith, get_or-eq_default a.pair_ids.now 0 c.if-pair_ids-q.true)))
