-- `put_ring` meets its contract: what stands before the nodes, then these.
use Prim.Native.Nat.{ℕ, ◌+◌, ◌≤◌}
use native.Mathlib.Omega.{arith}
use mathlib.Core.Path.{sym, subst}
use mathlib.Core.List.{List, ◌++◌}
use lib.ListN.{length}
use mir.Syntax.{w64}
use mir.Val.{of_z, to_z}
use Rattle.lists.specs.Buffer.{Put}
use Rattle.file_rules.proofs.Signs.{back}
use Rattle.ring_writing.specs.Rings.{nodes_in, head_bytes}
use Rattle.ring_writing.proofs.Bytes.{put_row, words, nodes-length, words_length}
use Rattle.ring_writing.proofs.records.put_ring.Goals as goal

pub returns : goal.returns
returns c =
    let a = c.args in
    let ns = nodes_in a.nodes.now a.first a.count in
    let size = nodes-length a.nodes.now a.first a.count c.requires.0 in
    let long = words_length a.nodes.now a.first a.count c.requires.0 in
    let room : a.at + length (head_bytes a.face (to_z w64 (of_z w64 a.doubled)) a.count ++ words ns) ≤ length a.out.now = omega (arith, c.requires.2, long) in
    subst (λ (l : List ℕ). Put a.at l a.out.now c.put_nodes.new.out c.put_nodes.result)
    (λ i. head_bytes a.face (back a.doubled c.ranges.doubled.sfits i) (sym size i) ++ words ns)
    (put_row room c.put_head-place.ensures c.put_nodes.ensures)
