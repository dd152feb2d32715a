-- `nodes_meet` meets its contract: the ends' coordinates are read where the two nodes lie.
use Rattle.std.proofs.Common.{◌≡◌, ℕ, ◌<◌, get_or, pos, ap, ◌∙◌, arith, w64}
use mir.ValLaws.{to_z-of_z}
use Rattle.geometry.specs.Coordinate.{coordinate_bound}
use Rattle.inside.specs.Spots.{spot, spot_in, Near}
use Rattle.inside.specs.Meeting.{meets_of}
use Rattle.inside.proofs.Words.{word, back, small_word}
use Rattle.inside.proofs.rings.nodes_meet.Goals as goal

-- a node below the count is near, as it is read
near : (c : goal.After-line_meets-arg-4-1) (n : ℕ) → n < c.requires.0 → Near coordinate_bound (spot (word (get_or c.args.xs.now n (pos 0))) (word (get_or c.args.ys.now n (pos 0))))
near c n l =
    let p = c.requires.3 in
    (small_word (get_or c.args.xs.now n (pos 0)) coordinate_bound (omega arith) (p.near_xs n l), small_word (get_or c.args.ys.now n (pos 0)) coordinate_bound (omega arith) (p.near_ys n l))

pub line_meets-requires : goal.line_meets-requires
line_meets-requires c = (
  near c c.from-a.result (omega (arith, c.from-a.ensures)),
  near c c.from-b.result (omega (arith, c.from-b.ensures)),
  (small_word c.args.px coordinate_bound (omega arith) c.requires.4.0, small_word c.args.py coordinate_bound (omega arith) c.requires.4.1),
)

-- and is read as it is
spot_is : (c : goal.After-line_meets) (n m : ℕ) → n ≡ m → n < c.requires.0
    → spot (word (get_or c.args.xs.now n (pos 0))) (word (get_or c.args.ys.now n (pos 0))) ≡ spot_in c.args.xs.now c.args.ys.now m
spot_is c n m e l =
    let a = c.args in
    let p = c.requires.3 in
    (λ i. spot (back (get_or a.xs.now n (pos 0)) (omega (arith, p.near_xs n l)) i) (back (get_or a.ys.now n (pos 0)) (omega (arith, p.near_ys n l)) i))
    ∙ ap (spot_in a.xs.now a.ys.now) e

pub returns : goal.returns
returns c =
    let a = spot_is c c.from-a.result c.args.from.0 c.from-a.ensures (omega (arith, c.from-a.ensures)) in
    let b = spot_is c c.from-b.result c.args.to.0 c.from-b.ensures (omega (arith, c.from-b.ensures)) in
    c.line_meets.ensures
    ∙ (λ i. meets_of (a i) (b i) (spot (to_z-of_z w64 c.args.px c.ranges.px i) (to_z-of_z w64 c.args.py c.ranges.py i)))
