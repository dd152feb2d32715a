-- `cut_map` meets its contract: each step is made on what the one before it left.
use mathlib.Core.Path.{sym, ap, subst, ◌∙◌}
use Rattle.map_steps.specs.Stands.{Stands}
use Rattle.map_steps.specs.Maps.{pruning, cutting}
use Rattle.map_steps.proofs.Steps.{sorted-stands, pruned-stands}
use Rattle.map_steps.proofs.cut_map.Goals as goal

pub prune_map-pruned-requires : goal.prune_map-pruned-requires
prune_map-pruned-requires c = subst (Stands 1) (sym c.sort_map-sorted.ensures) (sorted-stands _ c.requires)

pub mark_cuts-cut-requires : goal.mark_cuts-cut-requires
mark_cuts-cut-requires c =
    let p = c.prune_map-pruned.ensures ∙ ap pruning c.sort_map-sorted.ensures in
    subst (Stands 2) (sym (ap (λ m. m.state) p)) (pruned-stands _ (sorted-stands _ c.requires))

pub returns : goal.returns
returns c =
    let p = c.prune_map-pruned.ensures ∙ ap pruning c.sort_map-sorted.ensures in
    let q = c.mark_cuts-cut.ensures ∙ ap (λ m. cutting m.state) p in
    λ i. record { state = (q i).state; dangles = (p i).count; cuts = (q i).count }
