-- No edge leads to a node that has yet to be made.
use Prim.Native.Nat.{ℕ, ◌*◌, ◌<◌, ◌≤◌}
use native.Mathlib.Omega.{arith}
use mathlib.Core.Path.{◌≡◌}
use mathlib.Core.Bool.{Bool, true}
use mathlib.Core.List.{List}
use mathlib.Core.Logic.{◌⊎◌, inl, inr}
use lib.Dec.{eqb}
use lib.ListN.{get_or, take}
use borrow.Author.Tests.{eqb-true}
use Rattle.lists.specs.Lists.{In, pick}
use Rattle.lists.proofs.Counts.{by_eq, by_test}
use Rattle.lists.proofs.Members.{pick_yes, pick_no}
use Rattle.rules.specs.State.{star_in}
use Rattle.rules.proofs.SketchCalls.{first_passes}
use Rattle.searching.specs.Searches.{find_half_in}

-- a picked member was there, and passes
picked : (q : ℕ → Bool) (x : ℕ) (l : List ℕ) → In x (pick q l) → In x l × (q x ≡ true)
picked q x l m = by_test (q x)
    (λ t. (omega (arith, pick_yes q x l t), t))
    (λ t. absurd (omega (arith, pick_no q x l t)))

module _ (nodes edges : ℕ) (source target star : List ℕ)
    (within : (h : ℕ) → In h (take (2 * edges) star) → (get_or source h 0 < nodes) × (get_or target h 0 < nodes)) where
  -- where one of the two is no node, the search finds none
  pub none-joins : (u v : ℕ) → (nodes ≤ u) ⊎ (nodes ≤ v) → find_half_in edges source target star u v ≡ 2 * edges
  none-joins u v far = by_eq (find_half_in edges source target star u v) (2 * edges) (λ e. e) (λ d. absurd (no d far))
    where
      either : (nodes ≤ u) ⊎ (nodes ≤ v) → (nodes ≤ u → ⊥) → (nodes ≤ v → ⊥) → ⊥
      either (inl a) f g = f a
      either (inr b) f g = g b

      no : (find_half_in edges source target star u v ≡ 2 * edges → ⊥) → (nodes ≤ u) ⊎ (nodes ≤ v) → ⊥
      no d far =
          let h = find_half_in edges source target star u v in
          let f = first_passes (λ g. eqb (get_or target g 0) v) (2 * edges) (star_in source (take (2 * edges) star) u) d in
          let w = picked (λ g. eqb (get_or source g 0) u) h (take (2 * edges) star) f.0 in
          let b = within h w.0 in
          let eu = eqb-true (get_or source h 0) u w.1 in
          let ev = eqb-true (get_or target h 0) v f.1 in
          either far (λ q. omega (arith, b.0, eu, q)) (λ q. omega (arith, b.1, ev, q))
