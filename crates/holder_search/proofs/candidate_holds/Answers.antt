-- `candidate_holds` meets its contract: the part of the list is the candidate's nodes.
use Prim.Native.Nat.{ℕ, ◌+◌, ◌-◌, ◌<◌, ◌≤◌}
use native.Mathlib.Omega.{arith}
use mathlib.Core.Path.{◌≡◌, sym, ap, ap₂, subst, ◌∙◌}
use mathlib.Core.List.{List}
use lib.ListN.{length, get_or, take, drop, length-drop}
use lib.Seq.{length-take-le}
use Rattle.lists.specs.Lists.{In}
use Rattle.rules.specs.Holes.{outside, ring_at}
use Rattle.inside.specs.Spots.{spot_in, NodesWithin}
use Rattle.holding.specs.Maps.{Map, map_of, part_of, Laid}
use Rattle.holding.specs.Holding.{holds_by_lem, Restamped}
use Rattle.holder_search.proofs.HoldingLaws.{candidate_ring, candidate_laid, holds_at, nodes-within, stamp_fresh, stamps_kept}
use Rattle.holder_search.proofs.candidate_holds.Goals as goal
use Rattle.holder_search.proofs.candidate_holds.Goals.{Start, After-from}

-- the map of the lists and tables
abbrev here : Start → Map
here c = let a = c.args in map_of a.dir_edges_src.now a.xs.now a.ys.now a.half_edges.now a.nodes.now a.ring_first.now a.ring_length.now a.ring_face.now

-- the candidate's ring
abbrev ring : Start → ℕ
ring c = get_or c.args.rings.now c.args.j 0

-- what stands for it
laid : (c : Start) → Laid c.requires.0 (here c) c.requires.1 (ring c)
laid c = candidate_laid c.requires.0 (here c) c.requires.1 c.requires.2 c.args.rings.now c.args.numbers.now c.args.count c.requires.3 c.args.j c.requires.7

-- it has an entry in each list
low : (c : Start) → (ring c < length c.args.ring_first.now) × (ring c < length c.args.ring_length.now) × (ring c < outside)
low c =
    let f = c.requires.3 in
    let h = (candidate_ring c.requires.0 (here c) c.requires.1 c.requires.2 c.args.rings.now c.args.numbers.now c.args.count f c.args.j c.requires.7).0 in
    (omega (arith, h, f.map.in_first), omega (arith, h, f.map.in_size), omega (arith, h, f.map.few))

-- where the part begins and how long it is
first_is : (c : After-from) → c.from-first.result ≡ get_or c.args.ring_first.now (get_or c.args.rings.now c.args.j 0) 0
first_is c = c.from-first.ensures ∙ ap (λ k. get_or c.args.ring_first.now k 0) c.from-i.ensures

size_is : (c : After-from) → c.from.result ≡ get_or c.args.ring_length.now (get_or c.args.rings.now c.args.j 0) 0
size_is c = c.from.ensures ∙ ap (λ k. get_or c.args.ring_length.now k 0) c.from-i.ensures

-- a part that is cut out is the ring's
part_is : (c : After-from) (l : List ℕ) → let f = c.from-first.result in let n = c.from.result in
    take (f + n - f) (drop f l) ≡ part_of (here (goal.at.After-from c).Start) (get_or c.args.rings.now c.args.j 0) l
part_is c l =
    let f = c.from-first.result in
    let n = c.from.result in
    let size : f + n - f ≡ n = omega arith in
    ap (λ k. take k (drop f l)) size ∙ ap₂ (λ k g. take k (drop g l)) (size_is c) (first_is c)

pub bounds-rings-j : goal.bounds-rings-j
bounds-rings-j c = omega (arith, c.requires.7, c.requires.3.candidates.in_rings)

pub bounds-ring_first-i : goal.bounds-ring_first-i
bounds-ring_first-i c = omega (arith, (low (goal.at.bounds-ring_first-i c).Start).0, c.from-i.ensures)

pub bounds-ring_length-i : goal.bounds-ring_length-i
bounds-ring_length-i c = omega (arith, (low (goal.at.bounds-ring_length-i c).Start).1, c.from-i.ensures)

-- the part ends within the list
ends : (c : After-from) → c.from-first.result + c.from.result ≤ length c.args.nodes.now
ends c = omega (arith, (laid (goal.at.After-from c).Start).in_nodes, first_is c, size_is c)

pub overflow_add-end : goal.overflow_add-end
overflow_add-end c = omega (arith, ends (goal.at.overflow_add-end c).After-from)

pub slice_bounds-ring_holds-end : goal.slice_bounds-ring_holds-end
slice_bounds-ring_holds-end c = ends (goal.at.slice_bounds-ring_holds-end c).After-from

pub overflow_add-ring : goal.overflow_add-ring
overflow_add-ring c = omega (arith, (low (goal.at.overflow_add-ring c).Start).2)

pub ring_holds-requires : goal.ring_holds-requires
ring_holds-requires c =
    let h = goal.at.ring_holds-requires c in
    let a = c.args in
    let i = get_or a.rings.now a.j 0 in
    let l = laid h.Start in
    let rs = c.requires.0 in
    let bound = c.requires.1 in
    let source = a.dir_edges_src.now in
    let f = c.requires.3 in
    let stamps = c.requires.4 in
    let part = part_is h.After-from a.nodes.now in
    let own = sym (part ∙ l.nodes) in record {
      by_index = (
        bound,
        record {
          some = omega (arith, ap length part, length-take-le (get_or a.ring_length.now i 0) (drop (get_or a.ring_first.now i 0) a.nodes.now) (omega (arith, l.in_nodes, length-drop (get_or a.ring_first.now i 0) a.nodes.now)), l.some);
          spots = f.map.spotted;
          outer_nodes = subst (λ n. NodesWithin n bound) own (nodes-within (ring_at rs i).half_edges_lem source bound l.within);
          inner_nodes = c.requires.5;
          room = stamps.room;
          few = stamps.few;
          fresh = λ n e. subst (λ k. In n k) own (stamp_fresh rs source bound a.stamps.now a.stamps.now stamps i n e);
        },
      );
      corner = c.requires.6;
    }

pub returns : goal.returns
returns c =
    let h = goal.at.returns c in
    let a = c.args in
    let i = get_or a.rings.now a.j 0 in
    let done = c.ring_holds in
    let at = spot_in a.xs.now a.ys.now in record {
      held = λ rs bound slope o x y field opening.
          done.ensures.held
          ∙ ap (λ k. holds_by_lem at k a.inner.now) (part_is h.After-from a.nodes.now)
          ∙ holds_at rs (here h.Start) bound slope a.rings.now a.numbers.now a.count field o a.inner.now a.corner.0 x y opening a.j c.requires.7;
      stamps = λ rs bound slope field stamps.
          let l = candidate_laid rs (here h.Start) bound slope a.rings.now a.numbers.now a.count field a.j c.requires.7 in
          let own = part_is h.After-from a.nodes.now ∙ l.nodes in
          stamps_kept rs a.dir_edges_src.now bound a.stamps.now done.new.stamps stamps i
          (subst (λ n. Restamped n (i + 1) a.stamps.now done.new.stamps) own done.ensures.stamps);
    }
