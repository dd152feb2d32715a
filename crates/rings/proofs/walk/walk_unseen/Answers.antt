use Prim.Native.Nat.{◌+◌, ◌*◌, ◌<◌}
use native.Mathlib.Omega.{arith}
use mathlib.Core.Path.{◌≡◌, refl, sym, ap, ◌∙◌}
use mathlib.Core.Bool.{Bool, true, false, not, ◌&&◌}
use lib.ListN.{length, get_or}
use borrow.Author.Tests.{not-true}
use Rattle.lists.proofs.Counts.{by_test, true_is_false}
use Rattle.lists.proofs.Tests.{both}
use Rattle.stars.specs.Groups.{unmarked}
use Rattle.splitting.specs.Splits.{entry_of}
use Rattle.rings.specs.Listing.{table_rings, rows_of, row_put, WalkedRing}
use Rattle.rings.proofs.Walking.{walked_same}
use Rattle.rings.proofs.Rows.{Held, held_first, held-few, held-room, held-row, held_new, held-marked, held-has, held_all, held-keys}
use Rattle.rings.proofs.walk.walk_unseen.Goals as goal
use Rattle.rings.proofs.walk.walk_unseen.Goals.{then-fresh, else-fresh}

-- one that is active and not to be walked was seen
seen-then : (active seen : Bool) → active ≡ true → (active && not seen) ≡ false → seen ≡ true
seen-then true true a e = refl
seen-then true false a e = sym e
seen-then false seen a e = absurd (true_is_false (sym a))

pub loop-k-init : goal.loop-k-init
loop-k-init c = (
  refl,
  refl,
  refl,
  refl,
  refl,
  refl,
  refl,
  omega arith,
  omega arith,
  held_first c.args.edges c.args.next.now c.args.dir_edges_src.now c.args.dir_edges_marked.now c.args.nodes_x.now c.args.nodes_y.now c.args.seen.now c.args.half_edges.now c.args.keys.now (rows_of c.args.ring_first.now c.args.ring_length.now c.args.ring_side.now c.args.ring_area.now)
      c.requires.unseen.0 c.requires.unseen.1,
)

pub walk_ring-tally-requires : goal.walk_ring-tally-requires
walk_ring-tally-requires c =
    let q = c.loop-k in
    let k = c.requires.listable in
    record {
      count = 2 * c.args.edges;
      active = unmarked c.args.dir_edges_marked.now;
      permutes = k.permutes;
      live = ((c.loop-k-test.true), (sym c.is_active.ensures ∙ (both c.is_active.result (not (get_or c.loop-k.seen c.from.result false)) c.if-fresh.true).0));
      in_next = k.in_next;
      in_seen = omega (arith, q.invariant.0, c.requires.unseen.0);
      room = omega (
        arith,
        (let q = c.loop-k in
            held-room c.args.edges c.args.next.now c.args.dir_edges_src.now c.args.dir_edges_marked.now c.args.nodes_x.now c.args.nodes_y.now c.args.seen.now c.args.half_edges.now c.args.keys.now (rows_of c.args.ring_first.now c.args.ring_length.now c.args.ring_side.now c.args.ring_area.now)
            c.requires.listable.permutes q.seen q.half_edges q.keys (let q = c.loop-k in rows_of q.ring_first q.ring_length q.ring_side q.ring_area) q.count q.at q.k (c.loop-k-test.true) q.invariant.9 (sym c.is_active.ensures ∙ (both c.is_active.result (not (get_or c.loop-k.seen c.from.result false)) c.if-fresh.true).0) (ap (λ i. get_or c.loop-k.seen i false) (sym c.from.ensures) ∙ not-true _ (both c.is_active.result (not (get_or c.loop-k.seen c.from.result false)) c.if-fresh.true).1)),
        q.invariant.1,
        k.in_half_edges,
      );
      key_room = omega (
        arith,
        (let q = c.loop-k in
            held-room c.args.edges c.args.next.now c.args.dir_edges_src.now c.args.dir_edges_marked.now c.args.nodes_x.now c.args.nodes_y.now c.args.seen.now c.args.half_edges.now c.args.keys.now (rows_of c.args.ring_first.now c.args.ring_length.now c.args.ring_side.now c.args.ring_area.now)
            c.requires.listable.permutes q.seen q.half_edges q.keys (let q = c.loop-k in rows_of q.ring_first q.ring_length q.ring_side q.ring_area) q.count q.at q.k (c.loop-k-test.true) q.invariant.9 (sym c.is_active.ensures ∙ (both c.is_active.result (not (get_or c.loop-k.seen c.from.result false)) c.if-fresh.true).0) (ap (λ i. get_or c.loop-k.seen i false) (sym c.from.ensures) ∙ not-true _ (both c.is_active.result (not (get_or c.loop-k.seen c.from.result false)) c.if-fresh.true).1)),
        q.invariant.2,
        k.in_keys,
      );
      small = omega (
        arith,
        (let q = c.loop-k in
            held-room c.args.edges c.args.next.now c.args.dir_edges_src.now c.args.dir_edges_marked.now c.args.nodes_x.now c.args.nodes_y.now c.args.seen.now c.args.half_edges.now c.args.keys.now (rows_of c.args.ring_first.now c.args.ring_length.now c.args.ring_side.now c.args.ring_area.now)
            c.requires.listable.permutes q.seen q.half_edges q.keys (let q = c.loop-k in rows_of q.ring_first q.ring_length q.ring_side q.ring_area) q.count q.at q.k (c.loop-k-test.true) q.invariant.9 (sym c.is_active.ensures ∙ (both c.is_active.result (not (get_or c.loop-k.seen c.from.result false)) c.if-fresh.true).0) (ap (λ i. get_or c.loop-k.seen i false) (sym c.from.ensures) ∙ not-true _ (both c.is_active.result (not (get_or c.loop-k.seen c.from.result false)) c.if-fresh.true).1)),
        k.few,
      );
      takable = λ h l. record { edges = c.args.edges; sited = k.sited; low = l };
    }

pub write_row-requires : goal.write_row-requires
write_row-requires c =
    let q = c.loop-k in
    let r = c.requires.listable.in_rows in
    let l : q.count < length (table_rings c.args.edges c.args.next.now c.args.dir_edges_marked.now) =
    held-row c.args.edges c.args.next.now c.args.dir_edges_src.now c.args.dir_edges_marked.now c.args.nodes_x.now c.args.nodes_y.now c.args.seen.now c.args.half_edges.now c.args.keys.now (rows_of c.args.ring_first.now c.args.ring_length.now c.args.ring_side.now c.args.ring_area.now)
    c.requires.listable.permutes q.seen q.half_edges q.keys (let q = c.loop-k in rows_of q.ring_first q.ring_length q.ring_side q.ring_area) q.count q.at q.k (c.loop-k-test.true) q.invariant.9 (sym c.is_active.ensures ∙ (both c.is_active.result (not (get_or c.loop-k.seen c.from.result false)) c.if-fresh.true).0) (ap (λ i. get_or c.loop-k.seen i false) (sym c.from.ensures) ∙ not-true _ (both c.is_active.result (not (get_or c.loop-k.seen c.from.result false)) c.if-fresh.true).1) in
    record {
      in_first = omega (arith, l, q.invariant.3, r.in_first);
      in_size = omega (arith, l, q.invariant.4, r.in_size);
      in_side = omega (arith, l, q.invariant.5, r.in_side);
      in_area = omega (arith, l, q.invariant.6, r.in_area);
    }

pub overflow_add-at : goal.overflow_add-at
overflow_add-at c =
    let w = c.walk_ring-tally.ensures (2 * c.args.edges) (unmarked c.args.dir_edges_marked.now) c.requires.listable.permutes ((c.loop-k-test.true), (sym c.is_active.ensures ∙ (both c.is_active.result (not (get_or c.loop-k.seen c.from.result false)) c.if-fresh.true).0)) in
    omega (
      arith,
      ap (λ t. t.count) w.tallied,
      (let q = c.loop-k in
          held-room c.args.edges c.args.next.now c.args.dir_edges_src.now c.args.dir_edges_marked.now c.args.nodes_x.now c.args.nodes_y.now c.args.seen.now c.args.half_edges.now c.args.keys.now (rows_of c.args.ring_first.now c.args.ring_length.now c.args.ring_side.now c.args.ring_area.now)
          c.requires.listable.permutes q.seen q.half_edges q.keys (let q = c.loop-k in rows_of q.ring_first q.ring_length q.ring_side q.ring_area) q.count q.at q.k (c.loop-k-test.true) q.invariant.9 (sym c.is_active.ensures ∙ (both c.is_active.result (not (get_or c.loop-k.seen c.from.result false)) c.if-fresh.true).0) (ap (λ i. get_or c.loop-k.seen i false) (sym c.from.ensures) ∙ not-true _ (both c.is_active.result (not (get_or c.loop-k.seen c.from.result false)) c.if-fresh.true).1)),
      c.requires.listable.few,
    )

pub loop-k-preserved : goal.loop-k-preserved
loop-k-preserved c =
    let q = c.loop-k in
    let k = c.requires.listable in
    let e = c.args.edges in
    let f = entry_of c.args.next.now in
    let src = c.args.dir_edges_src.now in
    let m = c.args.dir_edges_marked.now in
    let xs = c.args.nodes_x.now in
    let ys = c.args.nodes_y.now in
    let l : q.k < 2 * e = c.loop-k-test.true in
    let test = sym c.is_active.ensures in
    let place : get_or q.seen q.k false ≡ get_or q.seen c.from.result false = ap (λ i. get_or q.seen i false) (sym c.from.ensures) in
    let z = c.if-fresh in
    let after = rows_of z.ring_first z.ring_length z.ring_side z.ring_area in
    let turned : Held e c.args.next.now src m xs ys c.args.seen.now c.args.half_edges.now c.args.keys.now (rows_of c.args.ring_first.now c.args.ring_length.now c.args.ring_side.now c.args.ring_area.now) z.seen z.half_edges z.keys after z.count z.at (q.k + 1)
    × ((length z.seen ≡ length q.seen) × (length z.half_edges ≡ length q.half_edges) × (length z.keys ≡ length q.keys) × (length z.ring_first ≡ length q.ring_first)
    × (length z.ring_length ≡ length q.ring_length) × (length z.ring_side ≡ length q.ring_side) × (length z.ring_area ≡ length q.ring_area)) = elim c.if-fresh.branch [
      | then-fresh v ↦
          let b = both c.is_active.result (not (get_or q.seen c.from.result false)) v.if-fresh.true in
          let a : unmarked m q.k ≡ true = test ∙ b.0 in
          let x : get_or q.seen q.k false ≡ false = place ∙ not-true _ b.1 in
          let w : WalkedRing f (2 * e) q.k q.at src xs ys q.seen q.half_edges q.keys z.seen z.half_edges z.keys v.walk_ring-tally.result =
          walked_same f (2 * e) q.k q.at src xs ys q.seen q.half_edges q.keys _ z.seen _ z.half_edges _ z.keys _ v.walk_ring-tally.result v.seen-is v.half_edges-is v.keys-is refl
          (v.walk_ring-tally.ensures (2 * e) (unmarked m) k.permutes (l, a)) in
          let p : after ≡ row_put q.count q.at v.walk_ring-tally.result (let q = c.loop-k in rows_of q.ring_first q.ring_length q.ring_side q.ring_area) = (λ i. rows_of (v.ring_first-is i) (v.ring_length-is i) (v.ring_side-is i) (v.ring_area-is i)) ∙ v.write_row.ensures in (
            held_new c.args.edges c.args.next.now c.args.dir_edges_src.now c.args.dir_edges_marked.now c.args.nodes_x.now c.args.nodes_y.now c.args.seen.now c.args.half_edges.now c.args.keys.now (rows_of c.args.ring_first.now c.args.ring_length.now c.args.ring_side.now c.args.ring_area.now)
                k.permutes q.seen q.half_edges q.keys (let q = c.loop-k in rows_of q.ring_first q.ring_length q.ring_side q.ring_area) q.count q.at q.k l q.invariant.9 a x k.in_half_edges k.in_rows
                z.seen z.half_edges z.keys after v.walk_ring-tally.result z.count z.at w p v.count-is v.at-is,
            (
              ap length v.seen-is ∙ v.walk_ring-tally.auto.seen,
              ap length v.half_edges-is ∙ v.walk_ring-tally.auto.half_edges,
              ap length v.keys-is ∙ v.walk_ring-tally.auto.keys,
              ap length v.ring_first-is ∙ v.write_row.auto.ring_first,
              ap length v.ring_length-is ∙ v.write_row.auto.ring_length,
              ap length v.ring_side-is ∙ v.write_row.auto.ring_side,
              ap length v.ring_area-is ∙ v.write_row.auto.ring_area,
            ),
          )
      | else-fresh v ↦ (
        by_test (unmarked m q.k)
            (λ a. held-has c.args.edges c.args.next.now c.args.dir_edges_src.now c.args.dir_edges_marked.now c.args.nodes_x.now c.args.nodes_y.now c.args.seen.now c.args.half_edges.now c.args.keys.now (rows_of c.args.ring_first.now c.args.ring_length.now c.args.ring_side.now c.args.ring_area.now) k.permutes
            q.seen q.half_edges q.keys (let q = c.loop-k in rows_of q.ring_first q.ring_length q.ring_side q.ring_area) q.count q.at q.k l q.invariant.9 z.seen z.half_edges z.keys after z.count z.at a (place ∙ seen-then c.is_active.result _ (sym test ∙ a) v.if-fresh.false)
            v.seen-is v.half_edges-is v.keys-is (λ i. rows_of (v.ring_first-is i) (v.ring_length-is i) (v.ring_side-is i) (v.ring_area-is i)) v.count-is v.at-is)
            (λ a. held-marked c.args.edges c.args.next.now c.args.dir_edges_src.now c.args.dir_edges_marked.now c.args.nodes_x.now c.args.nodes_y.now c.args.seen.now c.args.half_edges.now c.args.keys.now (rows_of c.args.ring_first.now c.args.ring_length.now c.args.ring_side.now c.args.ring_area.now) k.permutes
            q.seen q.half_edges q.keys (let q = c.loop-k in rows_of q.ring_first q.ring_length q.ring_side q.ring_area) q.count q.at q.k l q.invariant.9 z.seen z.half_edges z.keys after z.count z.at
            a v.seen-is v.half_edges-is v.keys-is (λ i. rows_of (v.ring_first-is i) (v.ring_length-is i) (v.ring_side-is i) (v.ring_area-is i)) v.count-is v.at-is),
        (ap length v.seen-is, ap length v.half_edges-is, ap length v.keys-is, ap length v.ring_first-is, ap length v.ring_length-is, ap length v.ring_side-is, ap length v.ring_area-is),
      )
    ] in (
      turned.1.0 ∙ q.invariant.0,
      turned.1.1 ∙ q.invariant.1,
      turned.1.2 ∙ q.invariant.2,
      turned.1.3 ∙ q.invariant.3,
      turned.1.4 ∙ q.invariant.4,
      turned.1.5 ∙ q.invariant.5,
      turned.1.6 ∙ q.invariant.6,
      omega arith,
      held-few c.args.edges c.args.next.now c.args.dir_edges_src.now c.args.dir_edges_marked.now c.args.nodes_x.now c.args.nodes_y.now c.args.seen.now c.args.half_edges.now c.args.keys.now (rows_of c.args.ring_first.now c.args.ring_length.now c.args.ring_side.now c.args.ring_area.now) k.permutes _ _ _ _ _ _ _ turned.0,
      turned.0,
    )

pub returns : goal.returns
returns c =
    let q = c.loop-k in
    let p = c.requires.listable in
    let e : q.k ≡ 2 * c.args.edges = omega arith in record {
      rings = held_all c.args.edges c.args.next.now c.args.dir_edges_src.now c.args.dir_edges_marked.now c.args.nodes_x.now c.args.nodes_y.now c.args.seen.now c.args.half_edges.now c.args.keys.now (rows_of c.args.ring_first.now c.args.ring_length.now c.args.ring_side.now c.args.ring_area.now)
          p.permutes q.seen q.half_edges q.keys (let q = c.loop-k in rows_of q.ring_first q.ring_length q.ring_side q.ring_area) q.count q.at q.k e q.invariant.9;
      keys = held-keys c.args.edges c.args.next.now c.args.dir_edges_src.now c.args.dir_edges_marked.now c.args.nodes_x.now c.args.nodes_y.now c.args.seen.now c.args.half_edges.now c.args.keys.now (rows_of c.args.ring_first.now c.args.ring_length.now c.args.ring_side.now c.args.ring_area.now)
          p.permutes (omega (arith, p.few)) p.in_keys q.seen q.half_edges q.keys (let q = c.loop-k in rows_of q.ring_first q.ring_length q.ring_side q.ring_area) q.count q.at q.k e q.invariant.9;
    }
