-- `compare_distances` meets its contract: the tests on floats are those on the integers that the floats are.
use Rattle.std.proofs.Common.{sym}
use Rattle.geometry.proofs.Orders.{float_lt, float_gt, float_eq}
use Rattle.geometry.proofs.angle.compare_distances.Goals as goal

pub returns-then-dist_a-dist_b : goal.returns-then-dist_a-dist_b
returns-then-dist_a-dist_b c =
    let a = c.distance_squared-dist_a.ensures in
    let b = c.distance_squared-dist_b.ensures in
    sym (float_lt a b c.if-dist_a-dist_b.true)

pub returns-then-dist_b-dist_a : goal.returns-then-dist_b-dist_a
returns-then-dist_b-dist_a c =
    let a = c.distance_squared-dist_a.ensures in
    let b = c.distance_squared-dist_b.ensures in
    sym (float_gt a b c.if-dist_a-dist_b.false c.if-dist_b-dist_a.true)

pub returns-else-dist_b-dist_a : goal.returns-else-dist_b-dist_a
returns-else-dist_b-dist_a c =
    let a = c.distance_squared-dist_a.ensures in
    let b = c.distance_squared-dist_b.ensures in
    sym (float_eq a b c.if-dist_a-dist_b.false c.if-dist_b-dist_a.false)
