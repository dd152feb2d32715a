-- The rings of a sane arrangement: their half-edges are below the count, none is empty, and no two begin alike.
use Prim.Native.Nat.{ℕ, ◌<◌, ◌≤◌}
use native.Mathlib.Omega.{arith}
use mathlib.Core.Path.{◌≡◌, sym, ap, subst, ◌∙◌}
use mathlib.Core.Bool.{Bool}
use mathlib.Core.List.{List, [], ◌∷◌}
use lib.ListN.{length, get_or, length-map}
use Rattle.lists.specs.Lists.{In, below, count_of, flatten}
use Rattle.lists.proofs.Counts.{by_lt, below_le}
use Rattle.lists.proofs.Members.{below-place}
use Rattle.rules.specs.Cycles.{Arrangement, halves, cycle, is_start}
use Rattle.rules.specs.Split.{split_successor, minimal_rings}
use Rattle.rules.specs.Sane.{Sane}
use Rattle.rules.proofs.CycleLaws.{cycle-is, cycle_self}
use Rattle.rules.proofs.Partition.{true_start, beyond_never, total-length}
use Rattle.rules.proofs.Rings.{minimal_rings_are, split-permutes}
use Rattle.ring_keys.proofs.Rows.{map_at}

-- a list with a member is not empty
in_some : (x : ℕ) (l : List ℕ) → In x l → 0 < length l
in_some x [] m = m
in_some x (y ∷ l) m = omega arith

module _ (g : Arrangement) (sane : Sane g) where
  -- every half-edge of a ring is below the count
  pub rings-inside : (h : ℕ) → In h (flatten (minimal_rings g)) → h < halves g
  rings-inside h m = by_lt h (halves g) (λ q. q)
      (λ q. absurd (omega (arith, subst (λ rs. count_of h (flatten rs) ≡ 0) (sym (minimal_rings_are g)) (beyond_never (split_successor g) (halves g) g.active (split-permutes g sane) h q))))

  -- there are no more than that
  pub rings_fit : length (flatten (minimal_rings g)) ≤ halves g
  rings_fit = rw (minimal_rings_are g, total-length (split_successor g) (halves g) g.active (split-permutes g sane)) (below_le g.active (halves g))

  -- the starting half-edges
  abbrev begins : List ℕ
  begins = below (is_start (split_successor g) (halves g) g.active) (halves g)

  -- ring i is the cycle of the i-th of them
  ring-is : (i : ℕ) → i < length begins → get_or (minimal_rings g) i [] ≡ cycle (split_successor g) (halves g) (get_or begins i 0)
  ring-is i h = ap (λ rs. get_or rs i []) (minimal_rings_are g) ∙ map_at (cycle (split_successor g) (halves g)) begins i 0 [] h

  -- there is one for each ring
  many : length (minimal_rings g) ≡ length begins
  many = ap (λ rs. length rs) (minimal_rings_are g) ∙ length-map begins (cycle (split_successor g) (halves g))

  -- a ring is not empty
  pub ring-some : (i : ℕ) → i < length (minimal_rings g) → 0 < length (get_or (minimal_rings g) i [])
  ring-some i h =
      let f = split_successor g in
      let n : ℕ = halves g in
      let k : i < length begins = omega (arith, many) in
      let b = below-place (is_start f n g.active) n i k in
      let x : ℕ = get_or begins i 0 in
      rw (ring-is i k) (in_some x (cycle f n x) (cycle_self f n g.active (split-permutes g sane) x (b.0, (true_start f n g.active x b.1).0)))

  -- it begins with its starting half-edge
  ring-begins : (i : ℕ) → i < length begins → get_or (get_or (minimal_rings g) i []) 0 0 ≡ get_or begins i 0
  ring-begins i k =
      let f = split_successor g in
      let n : ℕ = halves g in
      let b = below-place (is_start f n g.active) n i k in
      let x : ℕ = get_or begins i 0 in
      ap (λ r. get_or r 0 0) (ring-is i k) ∙ (cycle-is f n g.active (split-permutes g sane) x (b.0, (true_start f n g.active x b.1).0)).begins

  -- no two rings begin with the same half-edge
  pub begins-apart : (i j : ℕ) → i < length (minimal_rings g) → j < length (minimal_rings g)
      → get_or (get_or (minimal_rings g) i []) 0 0 ≡ get_or (get_or (minimal_rings g) j []) 0 0 → i ≡ j
  begins-apart i j p q e =
      let f = split_successor g in
      let n : ℕ = halves g in
      let on : ℕ → Bool = is_start f n g.active in
      let a : i < length begins = omega (arith, many) in
      let b : j < length begins = omega (arith, many) in
      sym (below-place on n i a).2 ∙ ap (λ x. length (below on x)) (sym (ring-begins i a) ∙ e ∙ ring-begins j b) ∙ (below-place on n j b).2
