-- `put_pair` meets its contract: the id lies in the last region.
use Prim.Native.Nat.{◌+◌}
use native.Mathlib.Omega.{arith}
use lib.Seq.{take-set-le, drop-set-add}
use Rattle.rules.specs.Limits.{limits}
use Rattle.pair_entries.proofs.put_pair.Goals as goal

pub returns : goal.returns
returns c =
    let a = c.args in
    let n = limits.edges in
    record {
      line = rw c.from.ensures (take-set-le n a.ids.now (n + a.place) a.id (omega arith));
      pair = rw c.from.ensures (drop-set-add n a.ids.now a.place a.id);
    }
