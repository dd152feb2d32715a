use mathlib.Core.Path.{◌≡◌, ap, ◌∙◌, subst}
use mathlib.Core.List.{List, [], ◌∷◌, ◌++◌}
use Prim.Native.Nat.{ℕ, ◌+◌}
use native.Mathlib.Omega.{arith}
use lib.ListN.{take, drop}
use Rattle.file_rules.specs.Lines.{labelled, spaced, starting_nodes}
use Rattle.lists.proofs.Buffers.{Left, left-all, left-fits, left_put, left-none}
use Rattle.listing_text.proofs.Nodes.{nodes-end, left-node}
use Rattle.listing_text.proofs.put_nodes.Goals as goal
use Rattle.listing_text.proofs.put_nodes.Goals.{After-from}

-- what is left, with the node that is put next in front
opened : (c : After-from)
    → let a = c.args in
    let q = c.loop-i in
    Left a.at (spaced (starting_nodes a.dir_edges_src.now (take a.ring_length (drop a.first a.half_edges.now)))) a.out.now q.place
    (labelled (32 ∷ []) c.from.result ++ spaced (starting_nodes a.dir_edges_src.now (drop (q.i + 1) (take a.ring_length (drop a.first a.half_edges.now))))) q.out
opened c =
    let a = c.args in
    let q = c.loop-i in
    left-node a.dir_edges_src.now a.half_edges.now a.first a.ring_length c.requires.ring_length_in_bounds q.i c.from.result c.loop-i-test.true
    (c.from.ensures ∙ c.origin-node.ensures)
    q.invariant.1

pub loop-i-init : goal.loop-i-init
loop-i-init c =
    let a = c.args in
    (omega arith, left-all a.at (spaced (starting_nodes a.dir_edges_src.now (take a.ring_length (drop a.first a.half_edges.now)))) a.out.now c.requires.ring_length_in_bounds_2)

pub put_labelled-place-requires : goal.put_labelled-place-requires
put_labelled-place-requires c =
    let a = c.args in
    left-fits (labelled (32 ∷ []) c.from.result) (spaced (starting_nodes a.dir_edges_src.now (drop (c.loop-i.i + 1) (take a.ring_length (drop a.first a.half_edges.now)))))
    (opened (goal.at.put_labelled-place-requires c).After-from)

pub loop-i-preserved : goal.loop-i-preserved
loop-i-preserved c = (omega arith, left_put c.put_labelled-place.ensures (opened (goal.at.loop-i-preserved c).After-from))

pub returns : goal.returns
returns c =
    let a = c.args in
    let q = c.loop-i in
    let e : q.i ≡ a.ring_length = omega arith in
    left-none
    (subst (λ (l : List ℕ). Left a.at (spaced (starting_nodes a.dir_edges_src.now (take a.ring_length (drop a.first a.half_edges.now)))) a.out.now q.place l q.out)
    (ap (λ (i : ℕ). spaced (starting_nodes a.dir_edges_src.now (drop i (take a.ring_length (drop a.first a.half_edges.now))))) e
    ∙ nodes-end a.dir_edges_src.now a.half_edges.now a.first a.ring_length c.requires.ring_length_in_bounds)
    q.invariant.1)
