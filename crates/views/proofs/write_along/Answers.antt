use Prim.Native.Nat.{◌<◌}
use native.Mathlib.Omega.{arith}
use mathlib.Core.Path.{◌≡◌, refl, sym, subst, ◌∙◌}
use lib.IntN.{pos}
use lib.ListN.{length, get_or, set, length-set}
use lib.Seq.{get_or-set_same, get_or-set_other}
use mir.Syntax.{w64}
use mir.ValLaws.{to_z-of_z}
use Rattle.lists.proofs.Counts.{by_eq}
use Rattle.geometry.specs.Coordinate.{coordinate_bound}
use Rattle.inside.proofs.Words.{word, back, small_word}
use Rattle.views.specs.Views.{along_of_lem}
use Rattle.views.proofs.write_along.Goals as goal

pub loop-n-init : goal.loop-n-init
loop-n-init c = (omega arith, refl, λ n l. absurd (omega arith))

pub along_of-requires : goal.along_of-requires
along_of-requires c =
    let n = c.loop-n.n in
    let p = c.requires.0 in
    let low : n < c.args.count = c.loop-n-test.true in
    (small_word (get_or c.args.xs.now n (pos 0)) coordinate_bound (omega arith) (p.near_xs n low), small_word (get_or c.args.ys.now n (pos 0)) coordinate_bound (omega arith) (p.near_ys n low))

pub loop-n-preserved : goal.loop-n-preserved
loop-n-preserved c =
    let q = c.loop-n in
    let p = c.requires.0 in
    let xs = c.args.xs.now in
    let ys = c.args.ys.now in
    let low : q.n < c.args.count = c.loop-n-test.true in
    let room : q.n < length q.along = omega (arith, c.requires.1, q.invariant.1) in
    let x : word (get_or xs q.n (pos 0)) ≡ get_or xs q.n (pos 0) = back (get_or xs q.n (pos 0)) (omega (arith, p.near_xs q.n low)) in
    let y : word (get_or ys q.n (pos 0)) ≡ get_or ys q.n (pos 0) = back (get_or ys q.n (pos 0)) (omega (arith, p.near_ys q.n low)) in
    let put = word c.along_of.result in
    let here : put ≡ along_of_lem c.args.slope (get_or xs q.n (pos 0)) (get_or ys q.n (pos 0)) =
    to_z-of_z w64 c.along_of.result (record { sfits = c.along_of.type_inv }) ∙ c.along_of.ensures ∙ (λ i. along_of_lem c.args.slope (x i) (y i)) in (
      omega arith,
      length-set q.along q.n put ∙ q.invariant.1,
      λ n l. by_eq n q.n
          (λ e. subst (λ k. get_or (set q.along q.n put) k (pos 0) ≡ along_of_lem c.args.slope (get_or xs k (pos 0)) (get_or ys k (pos 0))) (sym e) (get_or-set_same q.along q.n put (pos 0) room ∙ here))
          (λ d. get_or-set_other q.along q.n n put (pos 0) d ∙ q.invariant.2 n (omega arith)),
    )

pub returns : goal.returns
returns c = λ n l. c.loop-n.invariant.2 n (omega (arith, c.loop-n-test.false))
