-- `chains::enter` meets its contract.
use native.Mathlib.Omega.{arith}
use Prim.Native.Nat.{◌+◌}
use lib.ListN.{get_or, length-set}
use Rattle.chains.proofs.enter.Goals as goal

pub bounds-table-code-2 : goal.bounds-table-code-2
bounds-table-code-2 c =
    let a = c.args in
    omega (arith, length-set a.table.now (a.heads + a.item) (get_or a.table.now a.code 0))
