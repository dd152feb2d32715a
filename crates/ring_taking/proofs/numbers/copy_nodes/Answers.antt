use Prim.Native.Nat.{ℕ, ◌+◌, ◌<◌}
use native.Mathlib.Omega.{arith}
use mathlib.Core.Path.{◌≡◌, refl, sym, ap, ◌∙◌}
use lib.ListN.{length, set, length-set}
use Rattle.lists.specs.Buffer.{written}
use Rattle.lists.proofs.Buffers.{written_none}
use Rattle.ring_taking.specs.Taken.{words_from}
use Rattle.ring_taking.proofs.Lists.{words_more, words_count}
use Rattle.ring_taking.proofs.numbers.copy_nodes.Goals as goal

pub loop-i-init : goal.loop-i-init
loop-i-init c = (omega arith, refl, sym (written_none c.args.place c.args.nodes.now))

pub loop-i-preserved : goal.loop-i-preserved
loop-i-preserved c =
    let a = c.args in
    let q = c.loop-i in
    let room : a.place + q.i < length a.nodes.now = omega arith in (
      omega arith,
      rw length-set q.invariant.1,
      (λ j. set (q.invariant.2 j) (a.place + q.i) (c.le16.ensures j)) ∙ words_more a.bytes.now a.at a.place q.i a.nodes.now room,
    )

pub returns : goal.returns
returns c =
    let a = c.args in
    let q = c.loop-i in
    let e : q.i ≡ a.count = omega arith in
    record {
      buffer = q.invariant.2 ∙ ap (λ (n : ℕ). written a.place (words_from a.bytes.now a.at n) a.nodes.now) e;
      after = ap (λ (n : ℕ). a.place + n) (sym (words_count a.bytes.now a.at a.count));
    }
