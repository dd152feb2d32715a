-- `faces::numbers::number_faces` meets its contract: the lists with the turns hold the rings of the tables, and a ring's place in their
-- order is its face number.
-- Assumes nothing.
use Prim.Native.Nat.{ℕ, ◌*◌}
use native.Mathlib.Omega.{arith}
use mathlib.Core.Path.{◌≡◌, sym, ap, subst, ◌∙◌}
use mathlib.Core.List.{List, map}
use lib.ListN.{length, take, drop, replicate, length-replicate}
use lib.Seq.{take_at}
use lib.Ieee.{Float}
use Rattle.lists.specs.Lists.{upto, over}
use Rattle.rules.specs.Limits.{limits}
use Rattle.ring_keys.specs.Listed.{listed, AllStand}
use Rattle.faces.specs.Order.{in_order_lem}
use Rattle.faces.specs.Numbers.{index_of, Once, rings_at, face_numbers, comparisons_at, Numberable}
use Rattle.faces.proofs.Rings.{length-order, order-once}
use Rattle.faces.proofs.Filled.{within-filled, steps_filled, all-filled, places-numbers}
use Rattle.faces.proofs.numbers.number_faces.Goals as goal

-- a local table at first
abbrev zeros : List ℕ
zeros = replicate (2 * limits.edges) 0

pub write_turns-made-requires : goal.write_turns-made-requires
write_turns-made-requires c =
    let a = c.args in
    let p = c.requires.0 in
    let g = (c.requires.0.able) in record {
      count_bound = (omega (arith, g.few), g.first_room, g.length_room, g.few);
      by_index = λ i h. (
        g.some i h,
        within-filled limits a.half_edges.now a.xs.now a.ys.now a.firsts.now a.lengths.now a.count p.source p.nodes_x p.nodes_y a.areas.now g i h,
      );
    }

-- the rings are in them
stand : (c : goal.After-order-1) → AllStand (let a = c.args in
    listed a.half_edges.now a.xs.now a.ys.now a.firsts.now a.lengths.now (c.write_turns-made.new.turns) a.areas.now) c.args.count
stand c =
    let a = c.args in
    let p = c.requires.0 in
    all-filled limits a.half_edges.now a.xs.now a.ys.now a.firsts.now a.lengths.now a.count p.source p.nodes_x p.nodes_y a.areas.now (c.requires.0.able)
    (c.write_turns-made.new.turns) zeros c.write_turns-made.ensures.turns (omega (arith, (c.requires.0.able).few, length-replicate {A = ℕ} (2 * limits.edges) 0))

pub sort_rings-requires : goal.sort_rings-requires
sort_rings-requires c =
    let g = (c.requires.0.able) in
    record { stand = stand c; few = omega (arith, g.few); room = g.few }

pub write_places-requires : goal.write_places-requires
write_places-requires c =
    let g = (c.requires.0.able) in (
      omega (arith, g.few),
      omega (arith, g.few, c.sort_rings.auto),
      c.requires.1,
      subst (Once c.args.count) (sym (let n = c.args.count in
          let l = in_order_lem (let a = c.args in
          listed a.half_edges.now a.xs.now a.ys.now a.firsts.now a.lengths.now (c.write_turns-made.new.turns) a.areas.now) n in
          ap (take n) c.sort_rings.ensures ∙ take_at l (drop (length l) zeros) n (length-order (let a = c.args in
          listed a.half_edges.now a.xs.now a.ys.now a.firsts.now a.lengths.now (c.write_turns-made.new.turns) a.areas.now) n))) (order-once (let a = c.args in
          listed a.half_edges.now a.xs.now a.ys.now a.firsts.now a.lengths.now (c.write_turns-made.new.turns) a.areas.now) c.args.count),
    )

-- their places in order are their face numbers
numbers : (c : goal.After-slice_known-2-1) (source : List ℕ) (X Y : List Float) → (let a = c.args in
    Numberable limits a.half_edges.now a.xs.now a.ys.now a.firsts.now a.lengths.now a.count source X Y a.areas.now) → let a = c.args in
    map (λ i. index_of i (in_order_lem (let a = c.args in
    listed a.half_edges.now a.xs.now a.ys.now a.firsts.now a.lengths.now (c.write_turns-made.new.turns) a.areas.now) a.count)) (upto a.count) ≡ face_numbers (rings_at a.half_edges.now a.firsts.now a.lengths.now a.count source X Y)
numbers c source X Y g =
    let a = c.args in
    places-numbers limits a.half_edges.now a.xs.now a.ys.now a.firsts.now a.lengths.now a.count source X Y a.areas.now g
    (c.write_turns-made.new.turns) zeros c.write_turns-made.ensures.turns (omega (arith, (c.requires.0.able).few, length-replicate {A = ℕ} (2 * limits.edges) 0))

-- the comparisons made are those of naming the rings
steps : (c : goal.After-slice_known-2-1) (source : List ℕ) (X Y : List Float) → (let a = c.args in
    Numberable limits a.half_edges.now a.xs.now a.ys.now a.firsts.now a.lengths.now a.count source X Y a.areas.now) → let a = c.args in
    c.write_turns-made.result ≡ comparisons_at a.half_edges.now a.firsts.now a.lengths.now a.count source X Y
steps c source X Y g =
    let a = c.args in
    c.write_turns-made.ensures.made
    ∙ steps_filled limits a.half_edges.now a.xs.now a.ys.now a.firsts.now a.lengths.now a.count source X Y a.areas.now g

pub returns : goal.returns
returns c =
    let a = c.args in record {
      faces = λ source X Y g. c.write_places.ensures
          ∙ ap (λ l. over (map (λ i. index_of i l) (upto a.count)) a.faces.now) (let n = c.args.count in
          let l = in_order_lem (let a = c.args in
          listed a.half_edges.now a.xs.now a.ys.now a.firsts.now a.lengths.now (c.write_turns-made.new.turns) a.areas.now) n in
          ap (take n) c.sort_rings.ensures ∙ take_at l (drop (length l) zeros) n (length-order (let a = c.args in
          listed a.half_edges.now a.xs.now a.ys.now a.firsts.now a.lengths.now (c.write_turns-made.new.turns) a.areas.now) n))
          ∙ ap (λ r. over r a.faces.now) (numbers c source X Y g);
      made = steps c;
    }
