-- The search between the ends of a line.
use Prim.Native.Nat.{ℕ, suc, ◌*◌, ◌<◌, ◌≤◌}
use native.Mathlib.Omega.{arith}
use mathlib.Core.Path.{◌≡◌, refl, sym, ◌∙◌}
use mathlib.Core.Bool.{Bool, true, false, cond, ◌&&◌}
use mathlib.Core.List.{List}
use mathlib.Core.Logic.{inl}
use lib.Dec.{eqb}
use lib.ListN.{get_or, take}
use borrow.Author.Tests.{eqb-true}
use Rattle.lists.specs.Lists.{In}
use Rattle.searching.specs.Searches.{find_half_in}
use Rattle.searching.proofs.Apart.{none-joins}
use Rattle.adding.specs.Decisions.{ends_by}

module _ (nodes edges : ℕ) (source target star : List ℕ)
    (within : (h : ℕ) → In h (take (2 * edges) star) → (get_or source h 0 < nodes) × (get_or target h 0 < nodes)) where
  -- the search from the nodes found is the search from the ends, which differ only where both are new
  pub ends-half : (u w : ℕ) → let e = ends_by nodes u w in
      find_half_in edges source target star e.start.0 e.end.0 ≡ find_half_in edges source target star u w
  ends-half u w = go (eqb u nodes) (eqb w nodes) (eqb-true u nodes)
    where
      go : (a b : Bool) → (a ≡ true → u ≡ nodes) → find_half_in edges source target star u (cond (a && b) (suc nodes) w) ≡ find_half_in edges source target star u w
      go true true is = let q : nodes ≤ u = omega (arith, is refl) in none-joins nodes edges source target star within u (suc nodes) (inl q) ∙ sym (none-joins nodes edges source target star within u w (inl q))
      go true false is = refl
      go false b is = refl
