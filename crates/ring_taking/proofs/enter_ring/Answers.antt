-- `enter_ring` meets its contract: one store in each list.
use Prim.Native.Nat.{ℕ}
use mathlib.Core.Path.{◌≡◌, sym, ap, ◌∙◌}
use mathlib.Core.List.{[], List}
use lib.ListN.{take, drop}
use lib.Seq.{drop-drop}
use mir.Syntax.{w64}
use mir.Val.{to_z, of_z}
use Rattle.file_rules.specs.Records.{little_endian, field}
use Rattle.file_rules.proofs.Signs.{back}
use Rattle.file_rules.specs.RingFile.{lent}
use Rattle.ring_taking.specs.Taken.{ring_set}
use Rattle.ring_taking.proofs.enter_ring.Goals as goal

pub returns : goal.returns
returns c =
    let a = c.args in
    let s = drop a.at a.bytes.now in
    let face : c.le16.result ≡ field s 6 2 = c.le16.ensures ∙ ap (λ (x : List ℕ). little_endian (take 2 x)) (sym (drop-drop 6 a.at a.bytes.now)) in
    let bits : c.le64.result ≡ field s 10 8 = c.le64.ensures ∙ ap (λ (x : List ℕ). little_endian (take 8 x)) (sym (drop-drop 10 a.at a.bytes.now)) in
    let doubled : to_z w64 (of_z w64 c.cast_signed.result) ≡ to_z w64 (field s 10 8) = back c.cast_signed.result c.cast_signed.type_inv ∙ c.cast_signed.ensures ∙ ap (to_z w64) bits in
    λ i. ring_set a.ring (record { first = a.place; length = a.count; face = face i; doubled = doubled i }) (lent a.ring_first.now a.ring_length.now a.ring_face.now a.ring_doubled.now [])
