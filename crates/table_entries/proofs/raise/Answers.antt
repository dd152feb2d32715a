-- `raise` meets its contract: the degree lies in the last region.
use Prim.Native.Nat.{◌+◌, ◌*◌}
use native.Mathlib.Omega.{arith}
use lib.Seq.{take-set-le}
use Rattle.rules.specs.Limits.{limits}
use Rattle.table_entries.proofs.Stores.{tail-raised, tail_raisable}
use Rattle.table_entries.specs.Written.{Raisable}
use borrow.Author.Rules.{rules}
use Rattle.table_entries.proofs.raise.Goals as goal

pub overflow_add-stars : goal.overflow_add-stars
overflow_add-stars c =
    let n = 2 * limits.edges in
    let stars = c.args.stars.now in
    let low : Raisable stars (n + c.from-at.result) = rw c.from-at.ensures (tail_raisable n stars c.args.node.0 c.requires.2) in
    search rules

pub returns : goal.returns
returns c =
    let a = c.args in
    let n = 2 * limits.edges in
    record {
      star = rw c.from-at.ensures (take-set-le n a.stars.now (n + a.node.0) _ (omega arith));
      degree = rw c.from-at.ensures (tail-raised n a.stars.now a.node.0);
    }
