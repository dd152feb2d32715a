-- `stars::is_active` meets its contract. The entry read is within the table, so the default does not matter.
use mathlib.Core.Path.{◌≡◌, ◌∙◌}
use mathlib.Core.Bool.{false}
use native.Mathlib.Omega.{arith}
use Rattle.lists.proofs.Entries.{get_d_any}
use mathlib.Core.Path.{ap}
use mathlib.Core.Bool.{true, not}
use lib.ListN.{get_or}
use Rattle.stars.proofs.is_active.Goals as goal

pub returns : goal.returns
returns c =
    let e : c.from.result ≡ c.args.half.0 = c.from.ensures in
    ap not (get_d_any c.args.dir_edges_marked.now c.from.result false true (omega (arith, c.requires)) ∙ ap (λ i. get_or c.args.dir_edges_marked.now i true) e)
