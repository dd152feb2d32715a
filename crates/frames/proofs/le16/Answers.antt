-- `le16` meets its contract: its two halves, joined.
use mathlib.Core.Path.{◌∙◌}
use Prim.Native.Nat.{◌+◌, ◌<◌, ◌≤◌}
use native.Mathlib.Omega.{arith}
use lib.ListN.{length}
use Rattle.frames.proofs.Bytes.{field-one, field-join}
use Rattle.frames.proofs.le16.Goals as goal

pub returns : goal.returns
returns c =
    let a = c.args in
    let l : a.at < length a.bytes.now = omega arith in
    let h : a.at + 1 < length a.bytes.now = omega arith in
    let r : a.at + 1 ≤ length a.bytes.now = omega arith in
    field-join 1 1 a.bytes.now a.at c.from-low.result c.from-high.result r
    (c.from-low.ensures ∙ field-one a.bytes.now a.at l)
    (c.from-high.ensures ∙ field-one a.bytes.now (a.at + 1) h)
