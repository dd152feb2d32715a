-- `put_lowest` meets its contract: the line id lies in the first region, the pair's id in the last.
use Prim.Native.Nat.{◌+◌, ◌<◌}
use native.Mathlib.Omega.{arith}
use mathlib.Core.Path.{ap, ◌∙◌}
use lib.ListN.{set, length-set}
use lib.Seq.{take-set-le, take-set-lt, drop-set-lt, drop-set-add}
use Rattle.rules.specs.Limits.{limits}
use Rattle.tables.specs.Regions.{line_ids_in, pair_ids_in}
use Rattle.pair_entries.proofs.put_lowest.Goals as goal

pub bounds-ids-pair : goal.bounds-ids-pair
bounds-ids-pair c = simp length-set (omega arith)

pub returns : goal.returns
returns c =
    let ids = c.args.ids.now in
    let id = c.args.id in
    let n = limits.edges in
    let at = c.from-line.result in
    let p = c.from-pair.result in
    let few : at < n = omega (arith, c.requires.0, c.from-line.ensures) in record {
      line = take-set-le n (set ids at id) (n + p) id (omega arith) ∙ take-set-lt n ids at id few ∙ ap (λ e. set (line_ids_in limits ids) e id) c.from-line.ensures;
      pair = drop-set-add n (set ids at id) p id ∙ ap (λ t. set t p id) (drop-set-lt n ids at id few) ∙ ap (λ e. set (pair_ids_in limits ids) e id) c.from-pair.ensures;
    }
