-- `distance_squared` meets its contract: each operation is exact.
use Rattle.std.proofs.Common.{arith}
use Rattle.geometry.specs.Coordinate.{coordinate_bound}
use Rattle.geometry.proofs.Steps.{distance_whole}
use Rattle.geometry.proofs.angle.distance_squared.Goals as goal

pub returns : goal.returns
returns c = distance_whole coordinate_bound (omega arith) c.args.c c.args.t c.requires.t c.requires.t_2
