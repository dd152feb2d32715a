use Prim.Native.Nat.{ℕ, ◌+◌, ◌*◌, ◌<◌, ◌≤◌}
use native.Mathlib.Omega.{arith}
use mathlib.Core.Path.{◌≡◌, sym, ap, ◌∙◌, subst}
use mathlib.Core.List.{List}
use lib.ListN.{length, drop, length-drop}
use Rattle.file_rules.specs.Records.{taken, passed}
use Rattle.file_rules.specs.RingFile.{FileRings, ring_room_lem, ring_next, lent}
use Rattle.ring_reading.specs.Found.{ring_of, record_of}
use Rattle.ring_taking.specs.Taken.{words_from, entry_of}
use Rattle.ring_reading.proofs.Progress.{found-there, survey_ring, survey_passed}
use Rattle.ring_taking.proofs.Ends.{found_next, found_none}
use Rattle.ring_taking.proofs.Lists.{words_count}
use Rattle.ring_taking.proofs.Filling.{ring_put, Filling, Room, counted_fit, filling_alike, filling_ring, filling_passed, filling_start, filling_done}
use Rattle.ring_taking.proofs.take_rings.Goals as goal
use Rattle.ring_taking.proofs.take_rings.Goals.{Start, In-Ring, In-Passed}

-- the lists as they were lent
abbrev old : Start → FileRings
old c = let a = c.args in lent a.ring_first.now a.ring_length.now a.ring_face.now a.ring_doubled.now a.nodes.now

room : (c : Start) → Room c.args.bytes.now (old c)
room c = record { rings = c.requires.bytes_len_bound; nodes = c.requires.bytes_in_bounds }

-- a ring that is found is there, and so is room for it
record Fits (bytes : List ℕ) (at ring place n : ℕ) (t : FileRings) : Type 0 where
  there : at + (18 + 2 * n) ≤ length bytes
  small : ring + 1 + (place + n) ≤ at + (18 + 2 * n)
  entry : ring < ring_room_lem t
  words : place + n ≤ length t.nodes

fits : (bytes : List ℕ) (old : FileRings) → Room bytes old → (at ring place : ℕ) (t : FileRings) (f : Filling bytes old at ring place t) (n : ℕ)
    → taken (ring_of (drop at bytes) n) (18 + 2 * n) ≡ ring_next (drop at bytes) → Fits bytes at ring place n t
fits bytes old space at ring place t f n e =
    let s = survey_ring bytes at ring place f.counted n e in
    let fit = counted_fit bytes old space s in
    let l = filling_alike bytes old space at ring place t f in
    record {
      there = s.there;
      small = s.small;
      entry = omega (arith, fit.0, l.first, l.size, l.face, l.doubled);
      words = omega (arith, fit.1, l.nodes);
    }

-- the next ring
ring : (c : In-Ring)
    → let s = drop c.loop-found.at c.args.bytes.now in
    let n = c.in-Ring.count in
    taken (ring_of s n) (18 + 2 * n) ≡ ring_next s
ring c = sym (ap (record_of (drop c.loop-found.at c.args.bytes.now)) c.in-Ring.is) ∙ found_next _ c.read_ring.result _ (sym c.unwrap_or.ensures ∙ c.in-Some.is) c.read_ring.ensures

known : (c : In-Ring)
    → let q = c.loop-found in
    Fits c.args.bytes.now q.at q.ring q.place c.in-Ring.count (lent q.ring_first q.ring_length q.ring_face q.ring_doubled q.nodes)
known c =
    let q = c.loop-found in
    fits c.args.bytes.now _ (record { rings = c.requires.bytes_len_bound; nodes = c.requires.bytes_in_bounds }) q.at q.ring q.place _ q.invariant c.in-Ring.count (ring c)

pub loop-found-init : goal.loop-found-init
loop-found-init c = let a = c.args in filling_start a.bytes.now (lent a.ring_first.now a.ring_length.now a.ring_face.now a.ring_doubled.now a.nodes.now)

pub enter_ring-requires : goal.enter_ring-requires
enter_ring-requires c =
    let w = known (goal.at.enter_ring-requires c).In-Ring in
    record { at_in_bounds = omega (arith, w.there); ring_bound = omega (arith, w.entry) }

pub overflow_add-at : goal.overflow_add-at
overflow_add-at c = let w = known (goal.at.overflow_add-at c).In-Ring in omega (arith, w.there)

pub copy_nodes-place-requires : goal.copy_nodes-place-requires
copy_nodes-place-requires c = let w = known (goal.at.copy_nodes-place-requires c).In-Ring in (omega (arith, w.there), omega (arith, w.words))

pub overflow_add-ring : goal.overflow_add-ring
overflow_add-ring c = let w = known (goal.at.overflow_add-ring c).In-Ring in omega (arith, w.there, w.small)

pub overflow_mul-at : goal.overflow_mul-at
overflow_mul-at c = let w = known (goal.at.overflow_mul-at c).In-Ring in omega (arith, w.there, w.small)

pub overflow_add-at-in-Ring : goal.overflow_add-at-in-Ring
overflow_add-at-in-Ring c = let w = known (goal.at.overflow_add-at-in-Ring c).In-Ring in omega (arith, w.there, w.small)

pub overflow_add-at-in-Ring-2 : goal.overflow_add-at-in-Ring-2
overflow_add-at-in-Ring-2 c = let w = known (goal.at.overflow_add-at-in-Ring-2 c).In-Ring in omega (arith, w.there, w.small)

pub loop-found-smaller-in-Ring : goal.loop-found-smaller-in-Ring
loop-found-smaller-in-Ring c = let w = known (goal.at.loop-found-smaller-in-Ring c).In-Ring in omega (arith, w.there, w.small)

pub loop-found-preserved-in-Ring : goal.loop-found-preserved-in-Ring
loop-found-preserved-in-Ring c =
    let b = c.args.bytes.now in
    let q = c.loop-found in
    let n = c.in-Ring.count in
    let was = lent q.ring_first q.ring_length q.ring_face q.ring_doubled q.nodes in
    let r = c.enter_ring.new in
    let t = lent r.ring_first r.ring_length r.ring_face r.ring_doubled c.copy_nodes-place.new.nodes in
    let w = goal.at.loop-found-preserved-in-Ring c in
    let f = filling_ring b _ (room w.Start) q.at q.ring q.place was q.invariant n (ring w.In-Ring) in
    let put = c.copy_nodes-place.ensures in
    let lists : t ≡ ring_put q.ring (entry_of (drop q.at b) q.place n) q.place (words_from b (q.at + 18) n) was =
    λ i. lent (c.enter_ring.ensures i).first (c.enter_ring.ensures i).length (c.enter_ring.ensures i).face (c.enter_ring.ensures i).doubled (put.buffer i)
    in
    let place : c.copy_nodes-place.result ≡ q.place + n = put.after ∙ ap (λ (m : ℕ). q.place + m) (words_count b (q.at + 18) n) in
    subst (λ (p : ℕ). Filling b (old w.Start) (q.at + (18 + 2 * n)) (q.ring + 1) p t) (sym place)
    (subst (λ (x : FileRings). Filling b (old w.Start) (q.at + (18 + 2 * n)) (q.ring + 1) (q.place + n) x) (sym lists) f)

-- the next record passed over
pass : (c : In-Passed) → passed c.in-Passed.size ≡ ring_next (drop c.loop-found.at c.args.bytes.now)
pass c = sym (ap (record_of (drop c.loop-found.at c.args.bytes.now)) c.in-Passed.is) ∙ found_next _ c.read_ring.result _ (sym c.unwrap_or.ensures ∙ c.in-Some.is) c.read_ring.ensures

pub overflow_add-at-in-Passed : goal.overflow_add-at-in-Passed
overflow_add-at-in-Passed c =
    let q = c.loop-found in
    omega (arith, (survey_passed c.args.bytes.now q.at q.ring q.place q.invariant.counted c.in-Passed.size (pass (goal.at.overflow_add-at-in-Passed c).In-Passed)).there)

pub loop-found-smaller : goal.loop-found-smaller
loop-found-smaller c =
    let b = c.args.bytes.now in
    let q = c.loop-found in
    let w = found-there b q.at q.ring q.place q.invariant.counted (passed c.in-Passed.size) (pass (goal.at.loop-found-smaller c).In-Passed) in
    omega (arith, w.0, w.1, length-drop q.at b)

pub loop-found-preserved : goal.loop-found-preserved
loop-found-preserved c =
    let q = c.loop-found in
    let w = goal.at.loop-found-preserved c in
    filling_passed c.args.bytes.now _ (room w.Start) q.at q.ring q.place _ q.invariant c.in-Passed.size (pass w.In-Passed)

pub returns : goal.returns
returns c =
    let b = c.args.bytes.now in
    let q = c.loop-found in
    filling_done b _ q.at q.ring q.place _ q.invariant
    (found_none b q.at q.invariant.counted.done q.invariant.counted.way c.read_ring.result (sym c.unwrap_or.ensures ∙ c.in_default.is) c.read_ring.ensures)
