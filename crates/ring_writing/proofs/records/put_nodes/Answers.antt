use Prim.Native.Nat.{ℕ, ◌+◌, ◌≤◌}
use native.Mathlib.Omega.{arith}
use mathlib.Core.Path.{◌≡◌, sym, ap, ◌∙◌, subst}
use mathlib.Core.List.{List}
use lib.ListN.{length, get_or, drop}
use Rattle.lists.proofs.Buffers.{Left, left-all, left-fits, left_put, left-none}
use Rattle.file_rules.specs.Records.{little_bytes}
use Rattle.ring_writing.specs.Rings.{nodes_in}
use Rattle.ring_writing.proofs.Bytes.{put_as, bytes_2, words, words_length, words_from_lem, words_end}
use Rattle.ring_writing.proofs.records.put_nodes.Goals as goal

pub loop-i-init : goal.loop-i-init
loop-i-init c =
    let a = c.args in
    let size = words_length a.nodes.now a.first a.count c.requires.0 in
    (omega arith, left-all a.at (words (nodes_in a.nodes.now a.first a.count)) a.out.now (omega (arith, size, c.requires.1)))

pub put_text-place-requires : goal.put_text-place-requires
put_text-place-requires c =
    let a = c.args in
    let i = c.loop-i.i in
    let bytes = c.to_le_bytes.ensures ∙ bytes_2 (get_or a.nodes.now (a.first + i) 0) in
    subst (λ (l : List ℕ). c.loop-i.place + length l ≤ length c.loop-i.out) (sym bytes)
    (left-fits (little_bytes 2 (get_or a.nodes.now (a.first + i) 0)) (words (drop (i + 1) (nodes_in a.nodes.now a.first a.count))) (let a = c.args in
    let q = c.loop-i in
    subst (λ (l : List ℕ). Left a.at (words (nodes_in a.nodes.now a.first a.count)) a.out.now q.place l q.out)
    (words_from_lem a.nodes.now a.first a.count c.requires.0 q.i c.loop-i-test.true) q.invariant.1))

pub loop-i-preserved : goal.loop-i-preserved
loop-i-preserved c = (
  omega arith,
  left_put (put_as (c.to_le_bytes.ensures ∙ bytes_2 (get_or c.args.nodes.now (c.args.first + c.loop-i.i) 0)) c.put_text-place.ensures) (let a = c.args in
      let q = c.loop-i in
      subst (λ (l : List ℕ). Left a.at (words (nodes_in a.nodes.now a.first a.count)) a.out.now q.place l q.out)
      (words_from_lem a.nodes.now a.first a.count c.requires.0 q.i c.loop-i-test.true) q.invariant.1),
)

pub returns : goal.returns
returns c =
    let q = c.loop-i in
    let a = c.args in
    let e : q.i ≡ a.count = omega arith in
    left-none
    (subst (λ (l : List ℕ). Left a.at (words (nodes_in a.nodes.now a.first a.count)) a.out.now q.place l q.out)
    (ap (λ (i : ℕ). words (drop i (nodes_in a.nodes.now a.first a.count))) e ∙ words_end a.nodes.now a.first a.count c.requires.0)
    q.invariant.1)
