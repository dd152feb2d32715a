use Rattle.std.proofs.Common.{◌≡◌, ◌<◌, List, map, length, get_or, take, set, ℤ, pos, sym, refl, ap, ◌∙◌, arith, length-set, w64}
use lib.ListN.{length-map}
use Rattle.lists.specs.Lists.{over}
use Rattle.geometry.specs.Coordinate.{value}
use Rattle.tables.proofs.Writing.{over_more}
use mir.ValLaws.{to_z-of_z}
use Rattle.inside.proofs.Words.{word}
use Rattle.inside.proofs.Tables.{value-at}
use Rattle.inside.proofs.wholes.write_whole.Goals as goal

pub loop-n-init : goal.loop-n-init
loop-n-init c = (omega arith, refl, refl)

pub whole-requires : goal.whole-requires
whole-requires c =
    let l : c.loop-n.n < c.args.count = omega arith in
    c.requires.2 c.loop-n.n l

pub loop-n-preserved : goal.loop-n-preserved
loop-n-preserved c =
    let a = c.args in
    let n = c.loop-n.n in
    let row : List ℤ = map value a.floats.now in
    let long : length row ≡ length a.floats.now = length-map a.floats.now value in
    let more : n < length row = omega arith in
    let room : n < length a.out.now = omega arith in
    let kept : word c.whole.result ≡ get_or row n (pos 0) =
    to_z-of_z w64 c.whole.result (record { sfits = c.whole.type_inv }) ∙ c.whole.ensures ∙ sym (value-at a.floats.now n) in (
      omega arith,
      simp length-set (omega arith),
      (λ i. set (c.loop-n.invariant.2 i) n (kept i)) ∙ over_more row a.out.now n (pos 0) more room,
    )

pub returns : goal.returns
returns c =
    let a = c.args in
    let e : c.loop-n.n ≡ a.count = omega arith in
    c.loop-n.invariant.2 ∙ ap (λ n. over (take n (map value a.floats.now)) a.out.now) e
