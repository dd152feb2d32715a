-- The tables as pruning is lent them, the stars as groups and each other table with the entries of its region: they meet what pruning asks,
-- and the rule makes the same of them.
use Prim.Native.Nat.{ℕ, suc, ◌*◌, ◌<◌, ◌≤◌}
use native.Mathlib.Omega.{arith}
use mathlib.Core.Path.{◌≡◌, sym, subst, ◌∙◌}
use mathlib.Core.Bool.{Bool}
use mathlib.Core.List.{List}
use lib.ListN.{length, take}
use Rattle.rules.specs.Limits.{Limits}
use Rattle.rules.specs.Prune.{prune}
use Rattle.rules.specs.Counted.{Counted}
use Rattle.tables.specs.Regions.{sources_in, star_table_in, degrees_in, node_marks_in, half_marks_in}
use Rattle.tables.specs.declared.PlanarGraph.{PlanarGraph}
use Rattle.stars.specs.Grouped.{Grouped}
use Rattle.stars.specs.Groups.{group_of}
use Rattle.leaves.specs.Given.{origin_in, Prunable}
use Rattle.pruning.proofs.Groups.{stars_agree, counted_agree, prune_agree}
use Rattle.prune_entry.specs.Given.{stars_in, SlicePrunable, pruned_in}

module _ (l : Limits) (g : PlanarGraph) (numbers stars : List ℕ) (marks : List Bool) (given : SlicePrunable l g numbers stars marks)
    (offsets grouped : List ℕ) (groups : Grouped g.node_count (sources_in l numbers) (take (2 * g.edge_count) (star_table_in l stars)) offsets grouped)
    (degrees : List ℕ) (node_marks half_marks : List Bool)
    (degrees_are : degrees ≡ degrees_in l stars) (node_marks_are : node_marks ≡ node_marks_in l marks) (half_marks_are : half_marks ≡ half_marks_in l marks) where
  -- the groups are the stars
  parts : (n : ℕ) → n < g.node_count → stars_in l g numbers stars n ≡ group_of offsets grouped n
  parts n q = sym (groups.stars n q)

  -- the lent tables count right
  counted : Counted g.node_count g.edge_count (stars_in l g numbers stars) degrees node_marks half_marks
  counted =
      let c = given.counted in
      let c = subst (λ ds. Counted g.node_count g.edge_count (stars_in l g numbers stars) ds (node_marks_in l marks) (half_marks_in l marks)) (sym degrees_are) c in
      let c = subst (λ nm. Counted g.node_count g.edge_count (stars_in l g numbers stars) degrees nm (half_marks_in l marks)) (sym node_marks_are) c in
      subst (λ hm. Counted g.node_count g.edge_count (stars_in l g numbers stars) degrees node_marks hm) (sym half_marks_are) c

  pub lent_prunable : (out : List ℕ) → g.edge_count ≤ length out
      → Prunable l g.node_count g.edge_count offsets grouped (sources_in l numbers) degrees node_marks half_marks out
  lent_prunable out long = record {
    few_nodes = given.groupable.few_nodes;
    few_edges = given.groupable.few_edges;
    starred = record {
      room = groups.room;
      ends = λ n q. groups.ends (suc n) (omega arith);
      source_room = given.groupable.source_room;
      stars = stars_agree g.node_count g.edge_count (stars_in l g numbers stars) (group_of offsets grouped) (origin_in (sources_in l numbers)) parts given.starred;
    };
    counted = counted_agree g.node_count g.edge_count (stars_in l g numbers stars) (group_of offsets grouped) (origin_in (sources_in l numbers)) parts given.starred
        degrees node_marks half_marks counted;
    list_room = long;
  }

  pub lent-pruned : prune (group_of offsets grouped) (origin_in (sources_in l numbers)) g.node_count g.edge_count degrees node_marks half_marks
      ≡ pruned_in l g numbers stars marks
  lent-pruned =
      sym (prune_agree g.node_count g.edge_count (stars_in l g numbers stars) (group_of offsets grouped) (origin_in (sources_in l numbers)) parts given.starred
      degrees node_marks half_marks counted)
      ∙ (λ i. prune (stars_in l g numbers stars) (origin_in (sources_in l numbers)) g.node_count g.edge_count (degrees_are i) (node_marks_are i) (half_marks_are i))
