-- `unmark` meets its contract: the two marks lie in the last region.
use Prim.Native.Nat.{◌*◌}
use native.Mathlib.Omega.{arith}
use mathlib.Core.Path.{ap, ◌∙◌}
use mathlib.Core.Bool.{false}
use lib.ListN.{length-set}
use Rattle.rules.specs.Limits.{limits}
use Rattle.tables.specs.Regions.{half_marks_in}
use Rattle.adding.specs.Written.{two_at}
use Rattle.table_entries.proofs.Stores.{tail_two, tail_two_rest}
use Rattle.table_entries.proofs.unmark.Goals as goal

pub bounds-marks-at-2 : goal.bounds-marks-at-2
bounds-marks-at-2 c = simp length-set (omega arith)

pub returns : goal.returns
returns c =
    let marks = c.args.marks.now in
    let n = limits.nodes in
    let f = 2 * c.from.result in
    record {
      node = tail_two_rest n marks f false false;
      half = tail_two n marks f false false ∙ ap (λ k. two_at (half_marks_in limits marks) (2 * k) false false) c.from.ensures;
    }
