-- `holes_of_map` meets its contract: the enclosed rings are listed and ordered, and each open one is searched for.
use Prim.Native.Nat.{ℕ, ◌*◌, ◌≤◌}
use native.Mathlib.Omega.{arith}
use mathlib.Core.Path.{sym, subst}
use mathlib.Core.List.{List}
use lib.IntN.{ℤ, pos}
use lib.ListN.{replicate}
use Rattle.rules.specs.Limits.{limits, shaped_rings}
use Rattle.rules.specs.Face.{Ring}
use Rattle.candidates.specs.Candidates.{numbers_of, Candidates}
use Rattle.holding.specs.Maps.{Map, map_of}
use Rattle.views.specs.Views.{Slanted}
use Rattle.holder_search.specs.Search.{Field}
use Rattle.holders.specs.Asked.{Ready, Boxable}
use Rattle.candidate_order.specs.Order.{InOrder}
use Rattle.candidate_order.proofs.Ordering.{row-in_order}
use Rattle.holders.proofs.Asking.{ready_boxable, ready_field, ready_orderable}
use Rattle.holders.proofs.holes_of_map.Goals as goal
use Rattle.holders.proofs.holes_of_map.Goals.{Start, After-list_boxed-count, After-order_by_start}

-- the map of the lists and tables
abbrev here : Start → Map
here c = let a = c.args in map_of a.dir_edges_src.now a.xs.now a.ys.now a.half_edges.now a.nodes.now a.ring_first.now a.ring_length.now a.ring_face.now

-- what was asked of it, by some rings
abbrev ReadyAt : Start → List Ring → Type 0
ReadyAt c rs = Ready rs c.args.node_count (here c) c.args.ring_side.now c.args.ring_area.now c.args.ring_count

-- zeros, over which they are written
abbrev no_rings : List ℕ
no_rings = replicate (shaped_rings limits) 0

abbrev no_numbers : List ℤ
no_numbers = replicate (numbers_of * shaped_rings limits) (pos 0)

-- the candidates are the enclosed rings, boxed in some view
listed : (c : After-list_boxed-count) (rs : List Ring) → let s = (goal.at.After-list_boxed-count c).Start in let a = c.args in let m = here s in let r = c.list_boxed-count in ReadyAt s rs
    → (along : List ℤ) × Slanted a.slope m.xs m.ys a.node_count along
    × Candidates rs m.nodes along m.ys m.first m.size a.node_count a.ring_count r.new.rings r.new.numbers r.result
listed c rs ready =
    let a = c.args in
    let m = here (goal.at.After-list_boxed-count c).Start in
    let w = c.from in
    let r = c.list_boxed-count in
    let b = ready_boxable rs a.node_count m a.ring_side.now a.ring_area.now a.ring_count ready no_rings no_numbers (omega arith) (omega arith) in
    let l = r.ensures rs (subst (λ n. Boxable rs n m.nodes m.xs m.ys m.first m.size a.ring_side.now a.ring_area.now a.ring_count no_rings no_numbers) (sym w.ensures) b) in (
      l.0,
      λ n h. l.1 n (omega (arith, h, w.ensures)),
      subst (λ n. Candidates rs m.nodes l.0 m.ys m.first m.size n a.ring_count r.new.rings r.new.numbers r.result) w.ensures l.2,
    )

-- so the map can be searched
searched : (c : After-list_boxed-count) (rs : List Ring) → let s = (goal.at.After-list_boxed-count c).Start in let a = c.args in let r = c.list_boxed-count in ReadyAt s rs
    → Field rs (here s) a.node_count a.slope r.new.rings r.new.numbers r.result
searched c rs ready =
    let a = c.args in
    let r = c.list_boxed-count in
    let l = listed c rs ready in
    ready_field rs a.node_count (here (goal.at.After-list_boxed-count c).Start) a.ring_side.now a.ring_area.now a.ring_count ready a.slope r.new.rings r.new.numbers r.result l.0 l.1 l.2

pub list_boxed-count-requires : goal.list_boxed-count-requires
list_boxed-count-requires c =
    let a = c.args in
    let p = c.requires in
    let m = here (goal.at.list_boxed-count-requires c).Start in (
      p.0,
      subst (λ n. Boxable p.0 n m.nodes m.xs m.ys m.first m.size a.ring_side.now a.ring_area.now a.ring_count no_rings no_numbers) (sym c.from.ensures)
          (ready_boxable p.0 a.node_count m a.ring_side.now a.ring_area.now a.ring_count p.1 no_rings no_numbers (omega arith) (omega arith)),
    )

pub order_by_start-requires : goal.order_by_start-requires
order_by_start-requires c =
    let h = goal.at.order_by_start-requires c in
    let a = c.args in
    let p = c.requires in
    let r = c.list_boxed-count in
    let l = listed h.After-list_boxed-count p.0 p.1 in
    ready_orderable p.0 a.node_count (here h.Start) a.ring_side.now a.ring_area.now a.ring_count p.1 a.slope r.new.rings r.new.numbers r.result l.0 l.1 l.2
    no_rings (omega arith)

-- there are no more candidates than rings with an area
few : (c : After-list_boxed-count) → c.list_boxed-count.result ≤ shaped_rings limits
few c = let p = c.requires in omega (arith, (listed c p.0 p.1).2.many, p.1.few_enclosed)

-- they are in order
ordered : (c : After-order_by_start) → let r = c.list_boxed-count in InOrder r.new.numbers r.result c.order_by_start.new.order
ordered c =
    let e = (goal.at.After-order_by_start c).After-list_boxed-count in
    let p = c.requires in
    let r = c.list_boxed-count in
    row-in_order r.new.numbers r.result c.order_by_start.new.order _ (listed e p.0 p.1).2.in_numbers (omega (arith, few e, c.order_by_start.auto.order)) c.order_by_start.ensures

pub write_passing-requires : goal.write_passing-requires
write_passing-requires c =
    let h = goal.at.write_passing-requires c in
    let n = few h.After-list_boxed-count in
    (ordered h.After-order_by_start, omega (arith, n), omega (arith, n), omega (arith, n))

pub list_holes-requires : goal.list_holes-requires
list_holes-requires c =
    let h = goal.at.list_holes-requires c in
    let p = c.requires in
    let r = p.1 in
    record {
      by_index = (p.0, c.args.node_count, searched h.After-list_boxed-count p.0 r, r.opens, r.few_nodes);
      in_order = (ordered h.After-order_by_start, c.write_passing.ensures);
    }

pub returns : goal.returns
returns c =
    let e = (goal.at.returns c).After-list_boxed-count in
    record {
      holes = λ rs ready. c.list_holes.ensures.holes rs c.args.node_count (searched e rs ready) ready.opens ready.few_nodes;
      few = c.list_holes.ensures.few;
    }
