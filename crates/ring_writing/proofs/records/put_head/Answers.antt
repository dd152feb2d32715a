-- `put_head` meets its contract: five numbers in a row.
use Prim.Native.Nat.{◌+◌, ◌*◌}
use native.Mathlib.Omega.{arith}
use mathlib.Core.Path.{◌≡◌, ap, ◌∙◌}
use lib.IntN.{ℤ}
use mir.Syntax.{w64}
use mir.Val.{of_z}
use Rattle.file_rules.specs.Records.{little_bytes}
use Rattle.file_rules.proofs.Signs.{back}
use Rattle.ring_writing.proofs.Bytes.{put_row, put_as, bytes_2, bytes_4, bytes_8}
use Rattle.ring_writing.proofs.records.put_head.Goals as goal

pub returns : goal.returns
returns c =
    let a = c.args in
    let n : 14 + 2 * c.from.result ≡ 14 + 2 * a.count = omega (arith, c.from.ensures) in
    let length = c.to_le_bytes.ensures ∙ bytes_4 (14 + 2 * c.from.result) ∙ ap (little_bytes 4) n in
    let kind = c.to_le_bytes-2.ensures ∙ bytes_2 2 in
    let face = c.to_le_bytes-3.ensures ∙ bytes_2 a.face in
    let count = c.to_le_bytes-4.ensures ∙ bytes_2 a.count in
    let doubled = c.to_le_bytes-5.ensures ∙ bytes_8 _ ∙ ap (λ (z : ℤ). little_bytes 8 (of_z w64 z)) (back a.doubled c.ranges.doubled.sfits) in
    put_row c.requires
    (put_row (omega arith)
    (put_row (omega arith)
    (put_row (omega arith) (put_as length c.put_text-place.ensures) (put_as kind c.put_text-place-2.ensures))
    (put_as face c.put_text-place-3.ensures))
    (put_as count c.put_text-place-4.ensures))
    (put_as doubled c.put_text.ensures)
