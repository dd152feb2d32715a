use Prim.Native.Nat.{◌+◌, ◌<◌}
use native.Mathlib.Omega.{arith}
use mathlib.Core.Path.{refl, sym, ap, ◌∙◌, subst}
use mathlib.Core.Bool.{true}
use lib.ListN.{length, set, length-set}
use lib.Ieee.{of_bits}
use Rattle.rules.specs.Cycles.{walk}
use Rattle.rules.proofs.CycleLaws.{cycle_self}
use Rattle.rules.proofs.Framing.{cycle-frame}
use Rattle.rules.proofs.Marking.{cycle-next, walk_less}
use Rattle.ring_tally.specs.Keys.{keys_y, key_put}
use Rattle.ring_tally.specs.Tallies.{taken_at_lem}
use Rattle.splitting.specs.Splits.{entry_of}
use Rattle.rings.proofs.Walkable.{on, turns, starts, ring_low, ring_room}
use Rattle.rings.proofs.Walking.{walking_same, walking_first, walking_on, walking_end, walked_frame, walked_same}
use Rattle.rings.proofs.walk.walk_ring.Goals as goal

pub loop-cur-init : goal.loop-cur-init
unfolding of_bits
loop-cur-init c =
    let m = ring_low c.requires c.args.start.0 (cycle_self (entry_of c.args.next.now) (length c.args.next.now) (on c.requires) (turns c.requires) c.args.start.0 (starts c.requires)) in (
      refl,
      refl,
      refl,
      m.0,
      m.1,
      walking_first (entry_of c.args.next.now) (length c.args.next.now) c.args.start.0 c.args.at c.args.dir_edges_src.now c.args.nodes_x.now c.args.nodes_y.now c.args.seen.now c.args.half_edges.now c.args.keys.now (on c.requires) (turns c.requires) (starts c.requires),
    )

pub overflow_add-at : goal.overflow_add-at
overflow_add-at c =
    let q = c.loop-cur in
    omega (arith, (ring_room c.requires q.seen q.half_edges q.keys q.tally q.cur q.invariant.5))

pub bounds-half_edges-place : goal.bounds-half_edges-place
bounds-half_edges-place c =
    let q = c.loop-cur in
    omega (arith, c.from-place.ensures, (ring_room c.requires q.seen q.half_edges q.keys q.tally q.cur q.invariant.5), q.invariant.1)

pub take-tally-requires : goal.take-tally-requires
take-tally-requires c =
    let q = c.loop-cur in
    record {
      count_bound = omega (arith, (ring_room c.requires q.seen q.half_edges q.keys q.tally q.cur q.invariant.5).1);
      takable = c.requires.takable q.cur (ring_low c.requires q.cur q.invariant.5.inside).2;
      place_in_bounds = omega (arith, c.from-place.ensures, (ring_room c.requires q.seen q.half_edges q.keys q.tally q.cur q.invariant.5).2, q.invariant.2);
    }

pub loop-cur-smaller : goal.loop-cur-smaller
loop-cur-smaller c =
    let q = c.loop-cur in
    let e = (ap (entry_of c.args.next.now) c.from-in-loop-cur.ensures) in
    subst (λ z. length (walk (entry_of c.args.next.now) (length c.args.next.now) c.args.start.0 z) < length (walk (entry_of c.args.next.now) (length c.args.next.now) c.args.start.0 q.cur)) (sym e)
    (walk_less (entry_of c.args.next.now) (length c.args.next.now) (on c.requires) (turns c.requires) c.args.start.0 (starts c.requires) q.cur q.invariant.5.inside (λ z. c.if-cur-start.false (e ∙ z)))

pub loop-cur-preserved : goal.loop-cur-preserved
loop-cur-preserved c =
    let q = c.loop-cur in
    let src = c.args.dir_edges_src.now in
    let xs = c.args.nodes_x.now in
    let ys = c.args.nodes_y.now in
    let at = c.args.at + q.tally.count in
    let e = (ap (entry_of c.args.next.now) c.from-in-loop-cur.ensures) in
    let m = ring_low c.requires (entry_of c.args.next.now q.cur) (cycle-next (entry_of c.args.next.now) (length c.args.next.now) (on c.requires) (turns c.requires) c.args.start.0 (starts c.requires) q.cur q.invariant.5.inside) in (
      length-set q.seen c.from.result true ∙ q.invariant.0,
      length-set q.half_edges c.from-place.result q.cur ∙ q.invariant.1,
      c.take-tally.auto.keys ∙ q.invariant.2,
      omega (arith, e, m.0),
      omega (arith, e, m.1),
      walking_same (entry_of c.args.next.now) (length c.args.next.now) c.args.start.0 c.args.at src xs ys c.args.seen.now c.args.half_edges.now c.args.keys.now
          (set q.seen q.cur true) (set c.loop-cur.seen c.from.result true) (set q.half_edges at q.cur) (set c.loop-cur.half_edges c.from-place.result c.loop-cur.cur) (key_put keys_y src xs ys q.keys at q.cur) (c.take-tally.new.keys)
          (taken_at_lem src xs ys q.tally q.cur) c.take-tally.result ((entry_of c.args.next.now) q.cur) _
          (ap (λ i. set q.seen i true) c.from.ensures) (ap (λ i. set q.half_edges i q.cur) c.from-place.ensures) (let a = c.args in
          c.take-tally.ensures.keys ∙ ap (λ i. key_put keys_y a.dir_edges_src.now a.nodes_x.now a.nodes_y.now c.loop-cur.keys i c.loop-cur.cur) c.from-place.ensures) c.take-tally.ensures.tally e
          (walking_on (entry_of c.args.next.now) (length c.args.next.now) c.args.start.0 c.args.at src xs ys c.args.seen.now c.args.half_edges.now c.args.keys.now (on c.requires) (turns c.requires) (starts c.requires)
          q.seen q.half_edges q.keys q.tally q.cur q.invariant.5 (λ z. c.if-cur-start.false (e ∙ z))),
    )

pub returns : goal.returns
returns c =
    let q = c.loop-cur in
    let src = c.args.dir_edges_src.now in
    let xs = c.args.nodes_x.now in
    let ys = c.args.nodes_y.now in
    let at = c.args.at + q.tally.count in
    λ m active t a.
    walked_frame (entry_of c.args.next.now) (length c.args.next.now) m c.args.start.0 c.args.at src xs ys c.args.seen.now c.args.half_edges.now c.args.keys.now (set c.loop-cur.seen c.from.result true) (set c.loop-cur.half_edges c.from-place.result c.loop-cur.cur) (c.take-tally.new.keys) c.take-tally.result
    (cycle-frame (entry_of c.args.next.now) (length c.args.next.now) m (on c.requires) active (turns c.requires) t c.args.start.0 (starts c.requires) a)
    (walked_same (entry_of c.args.next.now) (length c.args.next.now) c.args.start.0 c.args.at src xs ys c.args.seen.now c.args.half_edges.now c.args.keys.now
    (set q.seen q.cur true) (set c.loop-cur.seen c.from.result true) (set q.half_edges at q.cur) (set c.loop-cur.half_edges c.from-place.result c.loop-cur.cur) (key_put keys_y src xs ys q.keys at q.cur) (c.take-tally.new.keys) (taken_at_lem src xs ys q.tally q.cur) c.take-tally.result
    (ap (λ i. set q.seen i true) c.from.ensures) (ap (λ i. set q.half_edges i q.cur) c.from-place.ensures) (let a = c.args in
    c.take-tally.ensures.keys ∙ ap (λ i. key_put keys_y a.dir_edges_src.now a.nodes_x.now a.nodes_y.now c.loop-cur.keys i c.loop-cur.cur) c.from-place.ensures) c.take-tally.ensures.tally
    (walking_end (entry_of c.args.next.now) (length c.args.next.now) c.args.start.0 c.args.at src xs ys c.args.seen.now c.args.half_edges.now c.args.keys.now (on c.requires) (turns c.requires) (starts c.requires)
    q.seen q.half_edges q.keys q.tally q.cur q.invariant.5 (sym (ap (entry_of c.args.next.now) c.from-in-loop-cur.ensures) ∙ c.if-cur-start.true)))
