-- `put_text` meets its contract: the text stands where it was copied to.
use native.Mathlib.Omega.{arith}
use mathlib.Core.Path.{◌≡◌, refl, ◌∙◌}
use Prim.Native.Nat.{◌+◌, ◌-◌}
use lib.ListN.{length}
use Rattle.std.proofs.lemmas.Slice.{put_mid-paste}
use Rattle.lists.proofs.Buffers.{paste_all}
use Rattle.number_text.proofs.put_text.Goals as goal

pub returns : goal.returns
returns c =
    let a = c.args in
    let size : length a.text.now ≡ a.at + length a.text.now - a.at = omega arith in
    record {
      buffer = put_mid-paste a.at _ a.out.now _ a.text.now (length a.text.now) c.copy_from_slice.ensures.after size refl ∙ paste_all a.out.now a.at a.text.now;
      after = refl;
    }
