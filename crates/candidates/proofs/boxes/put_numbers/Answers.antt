-- `put_numbers` meets its contract: it stores them one after another.
use borrow.Author.Rules.{rules}
use Prim.Native.Nat.{suc, ◌+◌, ◌*◌}
use native.Mathlib.Omega.{arith}
use mathlib.Core.Path.{◌≡◌}
use lib.ListN.{set, length-set}
use mir.Syntax.{w64}
use mir.ValLaws.{to_z-of_z}
use Rattle.corners.proofs.Whole.{entry_read}
use Rattle.candidates.specs.Candidates.{numbers_of}
use Rattle.candidates.proofs.boxes.put_numbers.Goals as goal

pub bounds-numbers-place-2 : goal.bounds-numbers-place-2
bounds-numbers-place-2 c = simp length-set (search rules)

pub bounds-numbers-place-3 : goal.bounds-numbers-place-3
bounds-numbers-place-3 c = simp length-set (search rules)

pub bounds-numbers-place-4 : goal.bounds-numbers-place-4
bounds-numbers-place-4 c = simp length-set (search rules)

pub bounds-numbers-place-5 : goal.bounds-numbers-place-5
bounds-numbers-place-5 c = simp length-set (search rules)

pub returns : goal.returns
returns c =
    let xs = c.args.xs.now in
    let ys = c.args.ys.now in
    let p = numbers_of * c.args.j in
    let v1 = entry_read xs c.from.result c.args.sides.left (omega arith) c.from.ensures in
    let v2 = entry_read xs c.from-2.result c.args.sides.right (omega arith) c.from-2.ensures in
    let v3 = entry_read ys c.from-3.result c.args.sides.low (omega arith) c.from-3.ensures in
    let v4 = entry_read ys c.from-4.result c.args.sides.high (omega arith) c.from-4.ensures in
    let v5 = to_z-of_z w64 c.args.doubled c.ranges.doubled in
    let e1 : p + 0 ≡ p = omega arith in
    let e2 : p + 1 ≡ suc p = omega arith in
    let e3 : p + 2 ≡ suc (suc p) = omega arith in
    let e4 : p + 3 ≡ suc (suc (suc p)) = omega arith in
    let e5 : p + 4 ≡ suc (suc (suc (suc p))) = omega arith in
    λ i. set (set (set (set (set c.args.numbers.now (e1 i) (v1 i)) (e2 i) (v2 i)) (e3 i) (v3 i)) (e4 i) (v4 i)) (e5 i) (v5 i)
