-- `orient` meets its contract: every step of it has room, so that none wraps.
use Rattle.std.proofs.Common.{◌*◌, ◌^◌, ◌<◌, arith}
use Rattle.geometry.specs.Coordinate.{coordinate_bound}
use Rattle.geometry.specs.Angle.{Point}
use Rattle.inside.specs.Spots.{spot}
use Rattle.inside.proofs.Turns.{step_fits, first_fits, second_fits, turn-fits, turn_is}
use Rattle.inside.proofs.lines.orient.Goals as goal

-- the products of coordinates have room in 64 bits
room : 16 * (coordinate_bound * coordinate_bound) < 2 ^ 63
room = omega arith

pub overflow_sub-result : goal.overflow_sub-result
overflow_sub-result c = step_fits coordinate_bound room c.args.bx c.args.ax c.requires.1.0 c.requires.0.0

pub overflow_sub-result-2 : goal.overflow_sub-result-2
overflow_sub-result-2 c = step_fits coordinate_bound room c.args.py c.args.ay c.requires.2.1 c.requires.0.1

-- the three points
abbrev from : goal.Start → Point
from c = spot c.args.ax c.args.ay

abbrev point : goal.Start → Point
point c = spot c.args.px c.args.py

abbrev to : goal.Start → Point
to c = spot c.args.bx c.args.by

pub overflow_mul-result : goal.overflow_mul-result
overflow_mul-result c = first_fits coordinate_bound room (from c) (to c) (point c) c.requires

pub overflow_sub-result-3 : goal.overflow_sub-result-3
overflow_sub-result-3 c = step_fits coordinate_bound room c.args.by c.args.ay c.requires.1.1 c.requires.0.1

pub overflow_sub-result-4 : goal.overflow_sub-result-4
overflow_sub-result-4 c = step_fits coordinate_bound room c.args.px c.args.ax c.requires.2.0 c.requires.0.0

pub overflow_mul-result-2 : goal.overflow_mul-result-2
overflow_mul-result-2 c = second_fits coordinate_bound room (from c) (to c) (point c) c.requires

pub overflow_sub-result-5 : goal.overflow_sub-result-5
overflow_sub-result-5 c = turn-fits coordinate_bound room (from c) (to c) (point c) c.requires

pub returns : goal.returns
returns c = turn_is coordinate_bound room (from c) (to c) (point c) c.requires
