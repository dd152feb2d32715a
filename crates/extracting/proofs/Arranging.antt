-- A sound state, for listing its rings: what that asks, and what the sides that it leaves are.
use Prim.Native.Nat.{ℕ, ◌*◌}
use native.Mathlib.Omega.{arith}
use mathlib.Core.Path.{◌≡◌, ap, subst, ◌∙◌}
use mathlib.Core.Bool.{true}
use mathlib.Core.List.{List}
use lib.ListN.{take}
use Rattle.lists.specs.Lists.{over}
use Rattle.rules.specs.Limits.{Limits, Fine}
use Rattle.rules.specs.State.{State, arrangement_in, roomy, sound}
use Rattle.rules.specs.Ringing.{side_number_lem}
use Rattle.rules.proofs.Soundness.{is-roomy, is-sound}
use Rattle.stars.specs.Grouped.{Grouped}
use Rattle.cycles.specs.Arranged.{Arranged}
use Rattle.rings.proofs.Meaning.{sides-replied}
use Rattle.extracting.specs.Sides.{SidesListed, Sided}
use Rattle.extracting.proofs.Outcome.{arrangement-is, held-sane, rings-many}

module _ (l : Limits) (s : State) (sense : sound l s ≡ true) where
  -- its tables, with its stars grouped by node, are an arrangement
  unfoldable pub sound-arranged : roomy l s ≡ true → (offsets grouped : List ℕ) → Grouped s.nodes s.source (take (2 * s.edges) s.star) offsets grouped
      → Arranged l s.nodes s.edges s.source s.half_mark offsets grouped
  sound-arranged roomed offsets grouped gs =
      let r = is-roomy l s roomed in
      let ok = is-sound l s sense in
      record {
        star = s.star;
        groups = gs;
        sane = held-sane l s sense;
        few_nodes = ok.nodes;
        few_edges = ok.edges;
        in_source = omega (arith, ok.edges, r.source);
        in_marks = omega (arith, ok.edges, r.half_mark);
      }

  -- the sides that are listed of it are the ones replied
  pub sides-stand : Fine l → (sides₀ sides : List ℕ) (count : ℕ) → SidesListed (arrangement_in s.nodes s.edges s.source s.half_mark s.star) s.source s.node_x s.node_y sides₀ sides count → Sided s sides₀ sides count
  sides-stand fine sides₀ sides count listed =
      let h = subst (λ g. SidesListed g s.source s.node_x s.node_y sides₀ sides count) (arrangement-is s) listed in
      record { number = h.number ∙ rings-many s; side = h.listed ∙ ap (λ r. over r sides₀) (sides-replied side_number_lem l fine s sense) }
