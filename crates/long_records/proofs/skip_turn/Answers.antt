-- `skip_turn` meets its contract: the length and the kind in the buffer are those of the bytes kept.
use Rattle.std.proofs.Common.{◌≡◌, ℕ, ◌+◌, ◌-◌, ◌<◌, ◌≤◌, true, List, length, take, refl, sym, subst, ◌∙◌, arith}
use Rattle.std.proofs.Math.Seq.{length-take-le}
use lib.Dec.{ltb, leb}
use borrow.Author.Tests.{leb-true, ltb-true}
use Rattle.lists.proofs.Tests.{both}
use Rattle.file_rules.specs.Records.{field}
use Rattle.buffered_input.specs.Reads.{Dropped}
use Rattle.frames.proofs.Bytes.{field_in}
use Rattle.long_records.specs.Turns.{buffer_bytes, is_long_lem, long_reply_lem, Kept}
use Rattle.long_records.proofs.LongRecords.{long-turned}
use Rattle.long_records.proofs.skip_turn.Goals as goal

module _ (kept : ℕ) (buffer : List ℕ) (k : Kept kept buffer) (cut : is_long_lem (take kept buffer) ≡ true) where
  counted : length (take kept buffer) ≡ kept
  counted = length-take-le kept buffer (omega (arith, k.full, k.room))

  -- the bytes kept have a length and a kind, and the record cannot fit
  parts : (leb 6 (length (take kept buffer)) ≡ true) × (ltb buffer_bytes (4 + field (take kept buffer) 0 4) ≡ true)
  parts = both (leb 6 (length (take kept buffer))) (ltb buffer_bytes (4 + field (take kept buffer) 0 4)) cut

  head : 6 ≤ length (take kept buffer)
  head = leb-true 6 (length (take kept buffer)) parts.0

  long : buffer_bytes < 4 + field (take kept buffer) 0 4
  long = ltb-true buffer_bytes (4 + field (take kept buffer) 0 4) parts.1

  -- as the buffer says them
  size-kept : field buffer 0 4 ≡ field (take kept buffer) 0 4
  size-kept = sym (field_in buffer 0 kept 0 4 0 (omega (arith, head, counted)) (omega arith))

  kind-kept : field buffer 4 2 ≡ field (take kept buffer) 4 2
  kind-kept = sym (field_in buffer 0 kept 4 2 4 (omega (arith, head, counted)) (omega arith))

pub returns : goal.returns
returns g c =
    let a = c.args in
    let b = a.buffer.now in
    let k = c.requires.0 in
    let cut = c.requires.1 in
    let d = c.drop_bytes-brought in
    let size : c.le32-length.result ≡ field (take a.kept b) 0 4 = c.le32-length.ensures ∙ size-kept a.kept b k cut in
    let kind : c.le16-kind.result ≡ field (take a.kept b) 4 2 = c.le16-kind.ensures ∙ kind-kept a.kept b k cut in (
      refl,
      long-turned (take a.kept b) _ _ (head a.kept b k cut) (omega (arith, counted a.kept b k cut, k.room)) (long a.kept b k cut) (omega (arith, size)) refl
          (c.long_reply-reply.ensures ∙ (λ i. long_reply_lem d.result.source (size i) (kind i))) c.passed_count.ensures
          (subst (λ m. Dropped m d.result) (λ i. 4 + size i - sym (counted a.kept b k cut) i) d.ensures),
    )
