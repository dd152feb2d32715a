-- `ring_keys::turn_of` meets its contract. The two parts are of one length, so that what is found is where the least rotation starts,
-- with the comparisons made.
use Prim.Native.Nat.{ℕ, ◌+◌, ◌-◌}
use native.Mathlib.Omega.{arith}
use mathlib.Core.Path.{◌≡◌, sym, ap, ◌∙◌}
use mathlib.Core.List.{List}
use lib.ListN.{length, take, drop}
use borrow.Author.Tests.{eq-eqb}
use Rattle.std.specs.declared.result.Result.{Result}
use Rattle.std.specs.declared.result.Result.TheVariants.{Ok, Err}
use Rattle.rotation.specs.declared.Rotation.{Rotation}
use Rattle.rotation.specs.declared.LengthsDiffer.{LengthsDiffer}
use Rattle.rotation.specs.Rotation.{keys_of, least_rotation_lem}
use Rattle.rotation.specs.Steps.{comparisons}
use Rattle.rotation.specs.Answers.{start_at, rotation_start}
use Rattle.rotation.proofs.Least.{least-rotation}
use Rattle.ring_keys.specs.declared.Search.{Search}
use Rattle.ring_keys.specs.Listed.{part_of}
use Rattle.ring_keys.specs.Keys.{search_of}
use Rattle.ring_keys.proofs.KeyLists.{keys-within, keys-part, length_part}
use Rattle.ring_keys.proofs.turn_of.Goals as goal

-- what was found
abbrev search-in : Result Rotation LengthsDiffer → Search
search-in (Ok r) = record { turn = r.start; comparisons = r.comparisons }
search-in (Err e) = record { turn = 0; comparisons = 0 }

-- of two lists of one length it is where the least rotation starts, and the comparisons
search_is : (xs ys : List ℕ) → length xs ≡ length ys → search-in (rotation_start xs ys) ≡ search_of (keys_of xs ys)
unfolding rotation_start
search_is xs ys e = ap (λ b. search-in (start_at b (least_rotation_lem (keys_of xs ys)) (comparisons (keys_of xs ys)))) (eq-eqb (length xs) (length ys) e)

pub overflow_cast-turn : goal.overflow_cast-turn
overflow_cast-turn c =
    let P = part_of c.args.first c.args.size (keys_of c.args.xs.now c.args.ys.now) in
    let n = length_part c.args.first c.args.size (keys_of c.args.xs.now c.args.ys.now) c.requires.2 in
    omega (
      arith,
      ap (λ r. (search-in r).turn) c.in-Ok.is,
      ap (λ q. q.turn) (let a = c.args in
          let w = keys-within a.xs.now a.ys.now in
          let e : a.first + a.size - a.first ≡ a.size = omega arith in
          let X : List ℕ = part_of a.first a.size a.xs.now in
          let Y : List ℕ = part_of a.first a.size a.ys.now in
          let same : length X ≡ length Y =
          length_part a.first a.size a.xs.now (omega (arith, w, c.requires.2)) ∙ sym (length_part a.first a.size a.ys.now (omega (arith, w, c.requires.2))) in
          ap search-in c.minimum_rotation_index.ensures
          ∙ ap (λ (n : ℕ). search-in (rotation_start (take n (drop a.first a.xs.now)) (take n (drop a.first a.ys.now)))) e
          ∙ search_is X Y same
          ∙ ap search_of (keys-part a.first a.size a.xs.now a.ys.now)),
      n,
      (least-rotation P (omega arith)).within,
    )

pub returns-in-Ok : goal.returns-in-Ok
returns-in-Ok c =
    sym (ap search-in c.in-Ok.is) ∙ (let a = c.args in
    let w = keys-within a.xs.now a.ys.now in
    let e : a.first + a.size - a.first ≡ a.size = omega arith in
    let X : List ℕ = part_of a.first a.size a.xs.now in
    let Y : List ℕ = part_of a.first a.size a.ys.now in
    let same : length X ≡ length Y =
    length_part a.first a.size a.xs.now (omega (arith, w, c.requires.2)) ∙ sym (length_part a.first a.size a.ys.now (omega (arith, w, c.requires.2))) in
    ap search-in c.minimum_rotation_index.ensures
    ∙ ap (λ (n : ℕ). search-in (rotation_start (take n (drop a.first a.xs.now)) (take n (drop a.first a.ys.now)))) e
    ∙ search_is X Y same
    ∙ ap search_of (keys-part a.first a.size a.xs.now a.ys.now))

pub returns-in-Err : goal.returns-in-Err
returns-in-Err c =
    sym (ap search-in c.in-Err.is) ∙ (let a = c.args in
    let w = keys-within a.xs.now a.ys.now in
    let e : a.first + a.size - a.first ≡ a.size = omega arith in
    let X : List ℕ = part_of a.first a.size a.xs.now in
    let Y : List ℕ = part_of a.first a.size a.ys.now in
    let same : length X ≡ length Y =
    length_part a.first a.size a.xs.now (omega (arith, w, c.requires.2)) ∙ sym (length_part a.first a.size a.ys.now (omega (arith, w, c.requires.2))) in
    ap search-in c.minimum_rotation_index.ensures
    ∙ ap (λ (n : ℕ). search-in (rotation_start (take n (drop a.first a.xs.now)) (take n (drop a.first a.ys.now)))) e
    ∙ search_is X Y same
    ∙ ap search_of (keys-part a.first a.size a.xs.now a.ys.now))

pub overflow_add-end : goal.overflow_add-end
overflow_add-end c = omega (arith, keys-within c.args.xs.now c.args.ys.now)

pub offset_bounds-xs-first : goal.offset_bounds-xs-first
offset_bounds-xs-first c = omega (arith, keys-within c.args.xs.now c.args.ys.now)

pub slice_bounds-minimum_rotation_index-end : goal.slice_bounds-minimum_rotation_index-end
slice_bounds-minimum_rotation_index-end c = omega (arith, keys-within c.args.xs.now c.args.ys.now)

pub slice_bounds-minimum_rotation_index-end-2 : goal.slice_bounds-minimum_rotation_index-end-2
slice_bounds-minimum_rotation_index-end-2 c = omega (arith, keys-within c.args.xs.now c.args.ys.now)
