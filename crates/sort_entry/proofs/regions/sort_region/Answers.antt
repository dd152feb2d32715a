-- `sort_region` meets its contract: the star table is lent as the front of its slice.
use Prim.Native.Nat.{◌*◌, ◌≤◌}
use native.Mathlib.Omega.{arith}
use mathlib.Core.Path.{◌∙◌}
use lib.ListN.{length}
use Rattle.rules.specs.Limits.{limits}
use Rattle.tables.proofs.Regions.{front-inside, front-behind}
use Rattle.sort_entry.proofs.regions.sort_region.Goals as goal

pub sort_stars-requires : goal.sort_stars-requires
sort_stars-requires c = c.requires.sortable

pub returns : goal.returns
returns c =
    let stars = c.args.stars.now in
    let after = c.sort_stars.new.nodes_outgoing in
    let kept = c.sort_stars.auto.nodes_outgoing in
    let room : 2 * limits.edges ≤ length stars = omega arith in record {
      graph = c.sort_stars.ensures.value;
      star = front-inside (2 * limits.edges) stars after room kept ∙ c.sort_stars.ensures.nodes_outgoing_after;
      degrees = front-behind (2 * limits.edges) stars after room kept;
    }
