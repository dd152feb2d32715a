-- `put_segment` meets its contract: the six floats lie in the last region, which no other reaches into.
use Prim.Native.Nat.{◌+◌, ◌*◌}
use native.Mathlib.Omega.{arith}
use mathlib.Core.Path.{ap, ◌∙◌}
use lib.ListN.{length-set}
use lib.Seq.{take-set-le}
use Rattle.rules.specs.Adding.{put_segment_lem}
use Rattle.rules.specs.Limits.{limits}
use Rattle.tables.specs.Regions.{xs_in, ys_in, zs_in, segments_in}
use Rattle.tables.proofs.Regions.{region_set-behind}
use Rattle.table_entries.proofs.Stores.{six-kept, tail-six}
use Rattle.table_entries.proofs.put_segment.Goals as goal

pub bounds-floats-at-2 : goal.bounds-floats-at-2
bounds-floats-at-2 c = simp length-set (omega arith)

pub bounds-floats-at-3 : goal.bounds-floats-at-3
bounds-floats-at-3 c = simp length-set (omega arith)

pub bounds-floats-at-4 : goal.bounds-floats-at-4
bounds-floats-at-4 c = simp length-set (omega arith)

pub bounds-floats-at-5 : goal.bounds-floats-at-5
bounds-floats-at-5 c = simp length-set (omega arith)

pub bounds-floats-at-6 : goal.bounds-floats-at-6
bounds-floats-at-6 c = simp length-set (omega arith)

pub returns : goal.returns
returns c =
    let a = c.args in
    let floats = a.floats.now in
    let line = a.line in
    let at = 3 * limits.nodes + 6 * c.from.result in record {
      x = six-kept floats line at (xs_in limits) (λ t i v h. take-set-le limits.nodes t i v (omega arith));
      y = six-kept floats line at (ys_in limits) (λ t i v h. region_set-behind limits.nodes limits.nodes t i v (omega arith));
      z = six-kept floats line at (zs_in limits) (λ t i v h. region_set-behind (2 * limits.nodes) limits.nodes t i v (omega arith));
      segment = tail-six floats line (3 * limits.nodes) (6 * c.from.result) ∙ ap (λ k. put_segment_lem (segments_in limits floats) k line) c.from.ensures;
    }
