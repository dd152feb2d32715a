use Prim.Native.Nat.{◌≤◌}
use native.Mathlib.Omega.{arith}
use mathlib.Core.Path.{◌≡◌, refl, sym, ap, ap₂, ◌∙◌}
use mathlib.Core.Bool.{false}
use mathlib.Core.List.{List, map, ◌++◌, append-nil}
use lib.ListN.{length, take, set, replicate, length-set, length-take, length-map, drop_of_length-le, get_or-map}
use Rattle.lists.specs.Lists.{over}
use Rattle.rules.specs.Limits.{limits}
use Rattle.tables.specs.Regions.{least_marks}
use Rattle.tables.proofs.Writing.{over_more}
use Rattle.lent_marks.specs.Marks.{is_set}
use Rattle.lent_marks.proofs.rows.read_marks.Goals as goal

-- a whole row written over another
over-whole : {A : Type 0} (xs out : List A) → length out ≤ length xs → over xs out ≡ xs
over-whole xs out h = ap (λ t. xs ++ t) (drop_of_length-le out h) ∙ append-nil xs

pub loop-i-init : goal.loop-i-init
loop-i-init c = (omega arith, refl, refl, refl)

pub loop-i-preserved : goal.loop-i-preserved
loop-i-preserved c =
    let bytes = c.args.bytes.now in
    let at = c.loop-i.i in
    let size = length-map bytes is_set in (
      omega arith,
      refl,
      simp length-set (omega arith),
      ap₂ (λ t v. set t at v) c.loop-i.invariant.3 (sym (get_or-map is_set bytes at 0))
          ∙ over_more (map is_set bytes) (replicate (least_marks limits) false) at (is_set 0) (omega arith) (omega arith),
    )

pub returns : goal.returns
returns c =
    let bytes = c.args.bytes.now in
    let size = length-map bytes is_set in
    let long = length-take (least_marks limits) (map is_set bytes) in
    let e : c.loop-i.i ≡ least_marks limits = omega arith in
    c.loop-i.invariant.3
    ∙ ap (λ n. over (take n (map is_set bytes)) (replicate (least_marks limits) false)) e
    ∙ over-whole (take (least_marks limits) (map is_set bytes)) (replicate (least_marks limits) false) (omega arith)
