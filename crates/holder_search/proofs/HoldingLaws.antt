-- Candidates are rings of the map; whether one holds an open ring, by the parts of the lists; and the stamps of rings.
use Prim.Native.Nat.{ℕ, suc, ◌+◌, ◌<◌, ◌≤◌}
use native.Mathlib.Omega.{arith}
use mathlib.Core.Path.{◌≡◌, sym, ap, subst, ◌∙◌}
use mathlib.Core.Bool.{Bool, true, ◌&&◌}
use mathlib.Core.Logic.{⊎_elim}
use mathlib.Core.List.{List}
use lib.ListN.{length, get_or, get_or-eq_default}
use lib.Seq.{get_or-take}
use lib.IntN.{ℤ}
use Rattle.lists.specs.Lists.{In, below}
use Rattle.lists.proofs.Counts.{by_lt}
use Rattle.lists.proofs.Members.{in_at, in_index, below_in}
use Rattle.geometry.specs.Angle.{Point}
use Rattle.rules.specs.Cycles.{Arrangement}
use Rattle.rules.specs.Face.{Ring}
use Rattle.rules.specs.Claim.{Joined}
use Rattle.rules.specs.Euler.{some_of_lem}
use Rattle.rules.specs.Holes.{holds, enclosed, ring_nodes, ring_at, left_of, foremost_of}
use Rattle.rules.proofs.Values.{map_in}
use Rattle.inside.specs.Spots.{spot_in, LineWithin, RingWithin, NodesWithin}
use Rattle.holding.specs.Maps.{origins, Map, part_of, Laid}
use Rattle.inside.proofs.Standing.{walk_inside}
use Rattle.holding.specs.Holding.{free, holds_by_lem, Restamped, Stamps}
use Rattle.holder_search.specs.Search.{Field, Opening, holds_at_lem}

-- a closed ring holds another by its nodes and the other's
pub holds_by : (at : ℕ → Point) (g : Arrangement) (e o : Ring) → Joined g (get_or e.half_edges_lem 0 0) e.half_edges_lem
    → holds at g e o ≡ holds_by_lem at (ring_nodes g e.half_edges_lem) (ring_nodes g o.half_edges_lem)
unfolding holds
holds_by at g e o j =
    let l = free (ring_nodes g e.half_edges_lem) (ring_nodes g o.half_edges_lem) in
    ap (λ t. some_of_lem l && t) (sym (walk_inside at (at (foremost_of (left_of at) 0 l)) g e.half_edges_lem j))

module _ (rs : List Ring) (m : Map) (bound slope : ℕ) (rings : List ℕ) (numbers : List ℤ) (count : ℕ) (field : Field rs m bound slope rings numbers count) where
  -- a candidate is an enclosed ring
  pub candidate_ring : (j : ℕ) → j < count → (get_or rings j 0 < length rs) × (enclosed (ring_at rs (get_or rings j 0)) ≡ true)
  candidate_ring j low =
      let c = field.candidates in
      let p : ℕ → Bool = λ i. enclosed (ring_at rs i) in
      let here : get_or rings j 0 ≡ get_or (below p (length rs)) j 0 = sym (get_or-take count rings j 0 low) ∙ ap (λ l. get_or l j 0) c.listed in
      let long : j < length (below p (length rs)) = omega (arith, low, c.many) in
      below_in p (length rs) (get_or rings j 0) (subst (λ n. In n (below p (length rs))) (sym here) (in_at (below p (length rs)) j long))

  -- with what stands for it in the lists
  pub candidate_laid : (j : ℕ) → j < count → Laid rs m bound (get_or rings j 0)
  candidate_laid j low = field.map.each (get_or rings j 0) (candidate_ring j low).0

  -- whether it holds an open ring
  pub holds_at : (o : Ring) (inner : List ℕ) (corner : ℕ) (x y : ℤ) → Opening o m bound slope inner corner x y → (j : ℕ) → j < count
      → holds_by_lem (spot_in m.xs m.ys) (part_of m (get_or rings j 0) m.nodes) inner ≡ holds_at_lem rs m o rings j
  holds_at o inner corner x y opening j low =
      let l = candidate_laid j low in
      let at = spot_in m.xs m.ys in
      let g = origins m.source in
      (λ i. holds_by_lem at (l.nodes i) (opening.nodes i)) ∙ sym (holds_by at g (ring_at rs (get_or rings j 0)) o l.joined)

-- each half-edge of a ring stands in the table of sources
pub line-within : (ring source : List ℕ) (bound : ℕ) → RingWithin ring source bound → (h : ℕ) → In h ring → LineWithin h source bound
line-within ring source bound within h m = let i = in_index h ring m in subst (λ k. LineWithin k source bound) i.2 (within i.0 i.1)

-- the nodes of a ring are below the bound
pub nodes-within : (ring source : List ℕ) (bound : ℕ) → RingWithin ring source bound → NodesWithin (ring_nodes (origins source) ring) bound
nodes-within ring source bound within n m =
    let r = map_in (λ h. get_or source h 0) ring n m in
    subst (λ k. k < bound) r.2 (line-within ring source bound within r.0 r.1).start

-- ---- stamps

module _ (rs : List Ring) (source : List ℕ) (bound : ℕ) (stamps after : List ℕ) (s : Stamps rs source bound stamps) where
  -- a ring's stamp stands at its nodes alone
  pub stamp_fresh : (i : ℕ) (n : ℕ) → get_or stamps n 0 ≡ i + 1 → In n (ring_nodes (origins source) (ring_at rs i).half_edges_lem)
  stamp_fresh i n e = let f : get_or stamps n 0 ≡ suc i = omega (arith, e) in s.mine n i f

  -- and still does after it was set
  pub stamps_kept : (i : ℕ) → Restamped (ring_nodes (origins source) (ring_at rs i).half_edges_lem) (i + 1) stamps after → Stamps rs source bound after
  stamps_kept i t = record {
    room = omega (arith, s.room, t.size);
    few = omega (arith, s.few, t.size);
    mine = λ n k e. by_lt n (length stamps) (inside n k e) (past n k e);
  }
    where
      inside : (n k : ℕ) → get_or after n 0 ≡ suc k → n < length stamps → In n (ring_nodes (origins source) (ring_at rs k).half_edges_lem)
      inside n k e low = ⊎_elim
          (λ old. s.mine n k (sym old ∙ e))
          (λ new.
          let same : i ≡ k = omega (arith, e, new.0) in
          subst (λ h. In n (ring_nodes (origins source) (ring_at rs h).half_edges_lem)) same new.1)
          (t.each n low)

      past : (n k : ℕ) → get_or after n 0 ≡ suc k → length stamps ≤ n → In n (ring_nodes (origins source) (ring_at rs k).half_edges_lem)
      past n k e high = absurd (omega (arith, e, get_or-eq_default after 0 {n = n} (omega (arith, high, t.size))))
