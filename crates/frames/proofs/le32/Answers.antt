-- `le32` meets its contract: its two halves, joined.
use Prim.Native.Nat.{◌+◌, ◌≤◌}
use mathlib.Core.Path.{◌∙◌}
use native.Mathlib.Omega.{arith}
use lib.ListN.{length}
use Rattle.frames.proofs.Bytes.{field-join}
use Rattle.frames.proofs.le32.Goals as goal

pub returns : goal.returns
returns c =
    let a = c.args in
    let r : a.at + 2 ≤ length a.bytes.now = omega arith in
    field-join 2 2 a.bytes.now a.at c.from-low.result c.from-high.result r (c.from-low.ensures ∙ c.le16.ensures) (c.from-high.ensures ∙ c.le16-2.ensures)
