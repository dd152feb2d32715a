-- `orient2d` meets its contract: each operation is exact.
use Rattle.std.proofs.Common.{arith}
use Rattle.geometry.specs.Coordinate.{coordinate_bound}
use Rattle.geometry.proofs.Steps.{orientation_whole}
use Rattle.geometry.proofs.angle.orient2d.Goals as goal

pub returns : goal.returns
returns c = orientation_whole coordinate_bound (omega arith) c.args.c c.args.a c.args.b c.requires.t c.requires.t_2 c.requires.t_3
