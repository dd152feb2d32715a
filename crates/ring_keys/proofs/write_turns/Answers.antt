use Prim.Native.Nat.{ℕ, ◌+◌, ◌*◌, ◌<◌, ◌≤◌}
use native.Mathlib.Omega.{arith}
use mathlib.Core.Path.{◌≡◌, refl, sym, ap, ap₂, ◌∙◌}
use mathlib.Core.List.{List, map}
use lib.ListN.{length, get_or, length-map, length-set}
use Rattle.lists.specs.Lists.{upto, sum}
use Rattle.lists.proofs.Members.{length-upto}
use Rattle.rotation.specs.Rotation.{Key, keys_of, least_rotation_lem}
use Rattle.rotation.specs.Steps.{comparisons}
use Rattle.rotation.proofs.Steps.{comparisons-within}
use Rattle.ring_keys.specs.Listed.{part_of}
use Rattle.ring_keys.specs.Keys.{turn_of, steps_of}
use Rattle.ring_keys.proofs.KeyLists.{length_part}
use Rattle.ring_keys.proofs.Rows.{map-upto-at, sum_more, over_more, over-all}
use Rattle.ring_keys.proofs.write_turns.Goals as goal

pub loop-i-init : goal.loop-i-init
loop-i-init c = (refl, refl, omega arith, refl, omega arith)

pub turn_of-found-requires : goal.turn_of-found-requires
turn_of-found-requires c =
    let i = c.loop-i.i in
    let r = c.requires.by_index i (omega arith) in
    omega (arith, c.from-first.ensures, c.from-size.ensures, c.type_inv.lengths i)

-- the comparisons of a ring are few
steps-few : (keys : List Key) (first size n : ℕ) → first + size ≤ length keys → size < 65536 → n ≡ comparisons (part_of first size keys) → n ≤ 3 * 65536
steps-few keys first size n h w e = omega (arith, e, comparisons-within (part_of first size keys), length_part first size keys h)

pub overflow_add-made : goal.overflow_add-made
overflow_add-made c =
    let i = c.loop-i.i in
    omega (
      arith,
      c.loop-i.invariant.4,
      c.requires.count_bound,
      steps-few (keys_of c.args.xs.now c.args.ys.now) c.from-first.result c.from-size.result _
          (omega (arith, c.requires.by_index i (omega arith), c.from-first.ensures, c.from-size.ensures))
          (omega (arith, c.from-size.ensures, c.type_inv.lengths i)) (ap (λ k. k.comparisons) c.turn_of-found.ensures),
    )

-- the comparisons of a ring are those that its search made
steps-are : (keys : List Key) (firsts lengths : List ℕ) (i first size n : ℕ) → first ≡ get_or firsts i 0 → size ≡ get_or lengths i 0
    → n ≡ comparisons (part_of first size keys) → n ≡ steps_of keys firsts lengths i
unfolding steps_of
steps-are keys firsts lengths i first size n f m e = e ∙ ap₂ (λ j k. comparisons (part_of j k keys)) f m

-- and its turn is the one found
turn_is : (keys : List Key) (firsts lengths : List ℕ) (count i first size n : ℕ) → i < count → first ≡ get_or firsts i 0 → size ≡ get_or lengths i 0
    → n ≡ least_rotation_lem (part_of first size keys) → n ≡ get_or (map (turn_of keys firsts lengths) (upto count)) i 0
unfolding turn_of
turn_is keys firsts lengths count i first size n h f m e =
    e ∙ ap₂ (λ j k. least_rotation_lem (part_of j k keys)) f m ∙ sym (map-upto-at (turn_of keys firsts lengths) count i 0 h)

pub loop-i-preserved : goal.loop-i-preserved
loop-i-preserved c =
    let a = c.args in
    let q = c.loop-i in
    let keys = keys_of a.xs.now a.ys.now in
    let row = map (turn_of keys a.firsts.now a.lengths.now) (upto a.count) in
    let n : length row ≡ a.count = length-map (upto a.count) (turn_of keys a.firsts.now a.lengths.now) ∙ length-upto a.count in
    let few : c.turn_of-found.result.comparisons ≤ 3 * 65536 =
    steps-few keys c.from-first.result c.from-size.result _ (omega (arith, c.requires.by_index q.i (omega arith), c.from-first.ensures, c.from-size.ensures))
    (omega (arith, c.from-size.ensures, c.type_inv.lengths q.i)) (ap (λ k. k.comparisons) c.turn_of-found.ensures) in
    let steps = steps-are keys a.firsts.now a.lengths.now q.i c.from-first.result c.from-size.result _ c.from-first.ensures c.from-size.ensures
    (ap (λ k. k.comparisons) c.turn_of-found.ensures) in
    let turn = turn_is keys a.firsts.now a.lengths.now a.count q.i c.from-first.result c.from-size.result _ (omega arith) c.from-first.ensures c.from-size.ensures
    (ap (λ k. k.turn) c.turn_of-found.ensures) in (
      over_more row a.turns.now (omega (arith, n, c.requires.count_bound)) q.turns q.i c.turn_of-found.result.turn (omega (arith, n)) q.invariant.0 turn,
      length-set q.turns q.i _ ∙ q.invariant.1,
      omega arith,
      ap₂ (λ m k. m + k) q.invariant.3 steps ∙ sym (sum_more (steps_of keys a.firsts.now a.lengths.now) q.i),
      omega (arith, few),
    )

pub returns : goal.returns
returns c =
    let a = c.args in
    let q = c.loop-i in
    let row = map (turn_of (keys_of a.xs.now a.ys.now) a.firsts.now a.lengths.now) (upto a.count) in
    let n : length row ≡ a.count = length-map (upto a.count) (turn_of (keys_of a.xs.now a.ys.now) a.firsts.now a.lengths.now) ∙ length-upto a.count in
    let all : q.i ≡ a.count = omega arith in record {
      turns = over-all row a.turns.now (omega arith) q.turns q.i (omega arith) q.invariant.0;
      made = q.invariant.3 ∙ ap (λ k. sum (map (steps_of (keys_of a.xs.now a.ys.now) a.firsts.now a.lengths.now) (upto k))) all;
    }
