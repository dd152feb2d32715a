-- There are no more rings than edges: an edge joins two different nodes, so no half-edge is a ring alone.
use Prim.Native.Nat.{ℕ, suc, ◌*◌, ◌<◌, ◌≤◌}
use native.Mathlib.Omega.{arith}
use mathlib.Core.Path.{◌≡◌, refl, sym, ap, ◌∙◌}
use mathlib.Core.Bool.{true}
use mathlib.Core.List.{List, [], ◌∷◌}
use lib.ListN.{length, get_or, take, length-append}
use Rattle.lists.specs.Lists.{In, flatten, Each}
use Rattle.lists.proofs.Counts.{in_head, count-append}
use Rattle.geometry.specs.Angle.{Point}
use Rattle.rules.specs.HalfEdge.{twin}
use Rattle.rules.specs.Cycles.{Arrangement, halves}
use Rattle.rules.specs.Split.{minimal_rings}
use Rattle.rules.specs.Sane.{Sane}
use Rattle.rules.specs.Limits.{Limits, limits}
use Rattle.rules.specs.State.{State, arrangement_in, point_of, roomy, sound}
use Rattle.rules.specs.Claim.{Joined}
use Rattle.rules.proofs.Twin.{twin-first, twin-second, by_halves}
use Rattle.rules.proofs.Rings.{ring_rules}
use Rattle.rules.proofs.Soundness.{is-sound}
use Rattle.stars.specs.Grouped.{Grouped}
use Rattle.extracting.specs.Sides.{SidesAsked}
use Rattle.extracting.proofs.Starts.{rings-inside, rings_fit, ring-some}
use Rattle.extracting.proofs.Outcome.{held-sane}
use Rattle.extracting.proofs.Arranging.{sound-arranged}

module _ (g : Arrangement) (different : (h : ℕ) → h < halves g → g.origin (twin h) ≡ g.origin h → ⊥) where
  -- a ring has two half-edges or more
  two_halves : (r : List ℕ) → 0 < length r → Joined g (get_or r 0 0) r → ((h : ℕ) → In h r → h < halves g) → 2 ≤ length r
  two_halves [] some j low = omega arith
  two_halves (h ∷ []) some j low = absurd (different h (low h (in_head h h [] refl)) j)
  two_halves (h ∷ i ∷ r) some j low = omega arith

  -- so there are twice as many half-edges as rings
  twice-many : (rs : List (List ℕ)) → Each (λ r. Joined g (get_or r 0 0) r) rs → ((i : ℕ) → i < length rs → 0 < length (get_or rs i [])) → ((h : ℕ) → In h (flatten rs) → h < halves g)
      → 2 * length rs ≤ length (flatten rs)
  twice-many [] e some low = omega arith
  twice-many (r ∷ rs) e some low =
      let one = two_halves r (some 0 (omega arith)) e.0 (λ h m. low h (omega (arith, m, count-append h r (flatten rs)))) in
      let rest = twice-many rs e.1 (λ i l. some (suc i) (omega arith)) (λ h m. low h (omega (arith, m, count-append h r (flatten rs)))) in
      omega (arith, one, rest, length-append r (flatten rs))

  -- and of those there are at most two for each edge
  rings-paired : Sane g → (at : ℕ → Point) → length (minimal_rings g) ≤ g.edges
  rings-paired sane at = omega (arith, twice-many (minimal_rings g) (ring_rules g at sane).joined (ring-some g sane) (rings-inside g sane), rings_fit g sane)

-- of a sound state
pub rings-halved : (l : Limits) (s : State) → sound l s ≡ true → length (minimal_rings (arrangement_in s.nodes s.edges s.source s.half_mark s.star)) ≤ s.edges
rings-halved l s sense =
    rings-paired (arrangement_in s.nodes s.edges s.source s.half_mark s.star)
    (by_halves (λ h. get_or s.source (twin h) 0 ≡ get_or s.source h 0 → ⊥) s.edges
    (λ k q e. ((is-sound l s sense).ends k q).different (sym e ∙ ap (λ h. get_or s.source h 0) (twin-first k) ∙ ((is-sound l s sense).ends k q).twin_from))
    (λ k q e. ((is-sound l s sense).ends k q).different (ap (λ h. get_or s.source h 0) (sym (twin-second k)) ∙ e ∙ ((is-sound l s sense).ends k q).twin_from)))
    (held-sane l s sense) (point_of s)

-- so its tables are what listing the sides asks
pub sides-asked : (s : State) → sound limits s ≡ true → roomy limits s ≡ true → (offsets grouped : List ℕ) → Grouped s.nodes s.source (take (2 * s.edges) s.star) offsets grouped
    → SidesAsked s.nodes s.edges s.source s.half_mark offsets grouped
unfolding sound-arranged
sides-asked s sense roomed offsets grouped gs =
    let few = (is-sound limits s sense).edges in
    record { arranged = sound-arranged limits s sense roomed offsets grouped gs; few = omega (arith, rings-halved limits s sense, few) }
