-- `along_of` meets its contract: x + y and x - y have room, so that none wraps.
use Prim.Native.Nat.{ℕ, zero, suc}
use native.Mathlib.Omega.{arith}
use mathlib.Core.Path.{◌≡◌, refl, sym, ap, ◌∙◌}
use lib.IntN.{ℤ, pos, negsuc, ◌+ℤ◌, ◌-ℤ◌, ◌*ℤ◌}
use Rattle.geometry.specs.Coordinate.{coordinate_bound}
use Rattle.geometry.proofs.Integers.{diff_var, diff_pos, diff_neg, diff_add, diff_sub, diff_mul, diff_eq}
use Rattle.inside.proofs.Words.{word, Sized, given, fits, stored, both, minus}
use Rattle.views.specs.Views.{slope_of, along_of_lem}
use Rattle.views.proofs.Slants.{plain}
use Rattle.views.proofs.along_of.Goals as goal
use Rattle.views.proofs.along_of.Goals.{Start}

-- what a slanted view adds
rising : (x y : ℤ) → x +ℤ y ≡ x +ℤ pos 1 *ℤ y
rising x y =
    let X = diff_var x in
    let Y = diff_var y in
    diff_eq (diff_add X Y) (diff_add X (diff_mul (diff_pos 1) Y)) (omega arith)

falling : (x y : ℤ) → x -ℤ y ≡ x +ℤ negsuc 0 *ℤ y
falling x y =
    let X = diff_var x in
    let Y = diff_var y in
    diff_eq (diff_sub X Y) (diff_add X (diff_mul (diff_neg (diff_pos 1)) Y)) (omega arith)

-- the third view
third : (n : ℕ) → (n ≡ 0 → ⊥) → (n ≡ 1 → ⊥) → slope_of n ≡ negsuc 0
third zero a b = absurd (a refl)
third (suc zero) a b = absurd (b refl)
third (suc (suc n)) a b = refl

-- x and y as they are read
x_read : (c : Start) → Sized (word c.args.x) c.args.x coordinate_bound
x_read c = stored (given c.args.x coordinate_bound c.requires.0) (omega arith)

y_read : (c : Start) → Sized (word c.args.y) c.args.y coordinate_bound
y_read c = stored (given c.args.y coordinate_bound c.requires.1) (omega arith)

pub returns-then-slope-eq-PLAIN : goal.returns-then-slope-eq-PLAIN
returns-then-slope-eq-PLAIN c =
    let a = c.args in
    (x_read (goal.at.returns-then-slope-eq-PLAIN c).Start).is ∙ plain a.x a.y ∙ sym (ap (λ n. along_of_lem n a.x a.y) c.if-slope-eq-PLAIN.true)

pub overflow_add-result : goal.overflow_add-result
overflow_add-result c = let s = (goal.at.overflow_add-result c).Start in fits (both (x_read s) (y_read s)) (omega arith)

pub returns-then-slope-eq-RISING : goal.returns-then-slope-eq-RISING
returns-then-slope-eq-RISING c =
    let s = (goal.at.returns-then-slope-eq-RISING c).Start in
    let a = c.args in
    (stored (both (x_read s) (y_read s)) (omega arith)).is ∙ rising a.x a.y ∙ sym (ap (λ n. along_of_lem n a.x a.y) c.if-slope-eq-RISING.true)

pub overflow_sub-result : goal.overflow_sub-result
overflow_sub-result c = let s = (goal.at.overflow_sub-result c).Start in fits (minus (x_read s) (y_read s)) (omega arith)

pub returns : goal.returns
returns c =
    let s = (goal.at.returns c).Start in
    let a = c.args in
    (stored (minus (x_read s) (y_read s)) (omega arith)).is ∙ falling a.x a.y ∙ sym (ap (λ k. a.x +ℤ k *ℤ a.y) (third a.slope c.if-slope-eq-PLAIN.false c.if-slope-eq-RISING.false))
