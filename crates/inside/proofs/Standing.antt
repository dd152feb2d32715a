-- A ring of half-edges and the walk along its nodes: the point is inside the ring exactly where the walk says so, and where one of the nodes lies at the
-- point the walk says that it is on the ring.
use Rattle.std.proofs.Common.{◌≡◌, ℕ, ◌+◌, ◌%◌, Bool, true, false, cond, not, ◌&&◌, ◌||◌, eqb, List, [], ◌∷◌, ◌++◌, length, get_or, ℤ, pos, ◌-ℤ◌, ◌*ℤ◌, sym, refl, ap, ◌∙◌, ap₂, ⊎_elim, arith}
use lib.IntN.{*ℤ_comm, +ℤ_invr}
use lib.Signed.{le_z}
use Rattle.lists.specs.Lists.{keep, bit, pick, all, last_of, In}
use Rattle.lists.proofs.Counts.{by_test, in_cons}
use Rattle.geometry.specs.Angle.{Point, orientation}
use Rattle.geometry.proofs.Integers.{le_le_z, le_z_false}
use Rattle.rules.specs.HalfEdge.{twin}
use Rattle.rules.specs.Cycles.{Arrangement}
use Rattle.rules.specs.Claim.{Joined}
use Rattle.rules.specs.Holes.{between, on_line_lem, crosses_right, inside, ring_nodes}
use Rattle.inside.specs.Meeting.{meets_by}
use Rattle.inside.specs.Standing.{ended, after, stands_from, is_inside}
use Rattle.inside.specs.declared.rings.Stands.{Stands}
use Rattle.inside.specs.declared.rings.Stands.TheVariants.{OnRing}

-- ---- the walk by what it counts

module _ (at : ℕ → Point) (p : Point) where
  -- the point lies on a line from a to the first of the list, from that to the next, and so on
  abbrev on_some : ℕ → List ℕ → Bool
  on_some a [] = false
  on_some a (b ∷ l) = on_line_lem (at a) (at b) p || on_some b l

  -- how many of these cross to the right
  abbrev crossings : ℕ → List ℕ → ℕ
  crossings a [] = 0
  crossings a (b ∷ l) = bit (crosses_right (at a) (at b) p) + crossings b l

  -- an odd number did, with those before
  abbrev oddly : Bool → ℕ → Bool
  oddly odd n = eqb ((bit odd + n) % 2) 1

  -- by both
  abbrev told : Bool → Bool → Stands
  told on odd = cond on OnRing (ended odd)

  -- one crossing more turns the parity
  turned : (odd : Bool) (n : ℕ) → oddly (not odd) n ≡ oddly odd (1 + n)
  turned true n = let e : (0 + n) % 2 ≡ (1 + (1 + n)) % 2 = omega arith in ap (λ m. eqb m 1) e
  turned false n = let e : (1 + n) % 2 ≡ (0 + (1 + n)) % 2 = omega arith in ap (λ m. eqb m 1) e

  none_more : (odd : Bool) → oddly odd 0 ≡ odd
  none_more true = refl
  none_more false = refl

  -- one line and the others
  step : (on right odd rest : Bool) (n : ℕ) → after (meets_by on right) (told rest (oddly (not odd) n)) (told rest (oddly odd n)) ≡ told (on || rest) (oddly odd (bit right + n))
  step true right odd rest n = refl
  step false true odd rest n = ap (told rest) (turned odd n)
  step false false odd rest n = let e : n ≡ 0 + n = omega arith in ap (λ m. told rest (oddly odd m)) e

  -- so the walk says both
  walk_tells : (odd : Bool) (a : ℕ) (l : List ℕ) → stands_from at p odd a l ≡ told (on_some a l) (oddly odd (crossings a l))
  walk_tells odd a [] = ap ended (sym (none_more odd))
  walk_tells odd a (b ∷ l) =
      ap₂ (after (meets_by (on_line_lem (at a) (at b) p) (crosses_right (at a) (at b) p))) (walk_tells (not odd) b l) (walk_tells odd b l)
      ∙ step (on_line_lem (at a) (at b) p) (crosses_right (at a) (at b) p) odd (on_some b l) (crossings b l)

  -- ---- one node more at the end

  on_more : (a : ℕ) (l : List ℕ) (z : ℕ) → on_some a (l ++ (z ∷ [])) ≡ (on_line_lem (at (last_of a l)) (at z) p || on_some a l)
  on_more a [] z = refl
  on_more a (b ∷ l) z = ap (λ t. on_line_lem (at a) (at b) p || t) (on_more b l z) ∙ exchange (on_line_lem (at a) (at b) p) (on_line_lem (at (last_of b l)) (at z) p) (on_some b l)
    where
      exchange : (s t u : Bool) → (s || (t || u)) ≡ (t || (s || u))
      exchange true true u = refl
      exchange true false u = refl
      exchange false t u = refl

  more_crossings : (a : ℕ) (l : List ℕ) (z : ℕ) → crossings a (l ++ (z ∷ [])) ≡ bit (crosses_right (at (last_of a l)) (at z) p) + crossings a l
  more_crossings a [] z = refl
  more_crossings a (b ∷ l) z = omega (arith, more_crossings b l z)

  -- ---- a closed ring

  module _ (g : Arrangement) where
    -- the point is on a half-edge's line, and the line crosses to the right
    abbrev on : ℕ → Bool
    on h = on_line_lem (at (g.origin h)) (at (g.origin (twin h))) p

    abbrev right : ℕ → Bool
    right h = crosses_right (at (g.origin h)) (at (g.origin (twin h))) p

    -- the nodes from the first half-edge on, and where the last one ends
    abbrev round : ℕ → List ℕ → List ℕ
    round f hs = ring_nodes g hs ++ (g.origin f ∷ [])

    ring_on : (f h : ℕ) (hs : List ℕ) → Joined g f (h ∷ hs) → all (λ i. not (on i)) (h ∷ hs) ≡ not (on_some (g.origin h) (round f hs))
    ring_on f h [] j = ap (λ n. not (on_line_lem (at (g.origin h)) (at n) p) && true) j ∙ alone (on_line_lem (at (g.origin h)) (at (g.origin f)) p)
      where
        alone : (t : Bool) → (not t && true) ≡ not (t || false)
        alone true = refl
        alone false = refl
    ring_on f h (i ∷ hs) j =
        ap₂ (λ s t. s && t) (ap (λ n. not (on_line_lem (at (g.origin h)) (at n) p)) j.0) (ring_on f i hs j.1)
        ∙ either (on_line_lem (at (g.origin h)) (at (g.origin i)) p) (on_some (g.origin i) (round f hs))
      where
        either : (s t : Bool) → (not s && not t) ≡ not (s || t)
        either true t = refl
        either false t = refl

    counted : (t : Bool) (h : ℕ) (l : List ℕ) → length (keep t h l) ≡ bit t + length l
    counted true h l = omega arith
    counted false h l = omega arith

    ring_crossings : (f h : ℕ) (hs : List ℕ) → Joined g f (h ∷ hs) → length (pick right (h ∷ hs)) ≡ crossings (g.origin h) (round f hs)
    ring_crossings f h [] j = counted (right h) h [] ∙ ap (λ n. bit (crosses_right (at (g.origin h)) (at n) p) + 0) j
    ring_crossings f h (i ∷ hs) j =
        counted (right h) h (pick right (i ∷ hs))
        ∙ ap₂ ◌+◌ (ap (λ n. bit (crosses_right (at (g.origin h)) (at n) p)) j.0) (ring_crossings f i hs j.1)

    -- the point is inside a closed ring exactly where the walk along its nodes says so
    pub walk_inside : (ring : List ℕ) → Joined g (get_or ring 0 0) ring → is_inside (stands_from at p false (last_of 0 (ring_nodes g ring)) (ring_nodes g ring)) ≡ inside at g ring p
    unfolding inside
    walk_inside [] j = refl
    walk_inside (h ∷ hs) j =
        let n = g.origin h in
        let l = ring_nodes g hs in
        let z = last_of n l in
        let total : crossings z (n ∷ l) ≡ length (pick right (h ∷ hs)) = sym (ring_crossings h h hs j ∙ more_crossings n l n) in
        let free : all (λ i. not (on i)) (h ∷ hs) ≡ not (on_some z (n ∷ l)) = ring_on h h hs j ∙ ap not (on_more n l n) in
        let zero : 0 + crossings z (n ∷ l) ≡ crossings z (n ∷ l) = omega arith in
        ap is_inside (walk_tells false z (n ∷ l))
        ∙ says (on_some z (n ∷ l)) (oddly false (crossings z (n ∷ l)))
        ∙ ap₂ (λ s m. s && eqb (m % 2) 1) (sym free) (zero ∙ total)
      where
        says : (s odd : Bool) → is_inside (told s odd) ≡ (not s && odd)
        says true odd = refl
        says false true = refl
        says false false = refl

  -- ---- a node at the point

  -- a line's end lies between its ends
  between-end : (a b : ℤ) → between a b b ≡ true
  between-end a b = rw (le_le_z b b (omega arith)) (by_test (le_z a b)
      (λ e. rw e refl)
      (λ e. rw (e, le_le_z b a (omega (arith, le_z_false a b e))) refl))

  -- and on it
  end_on : (a b : Point) → on_line_lem a b b ≡ true
  unfolding on_line_lem orientation
  end_on a b =
      let flat : (b.x -ℤ a.x) *ℤ (b.y -ℤ a.y) -ℤ (b.y -ℤ a.y) *ℤ (b.x -ℤ a.x) ≡ pos 0 =
      ap (λ z. (b.x -ℤ a.x) *ℤ (b.y -ℤ a.y) -ℤ z) (*ℤ_comm (b.y -ℤ a.y) (b.x -ℤ a.x)) ∙ +ℤ_invr ((b.x -ℤ a.x) *ℤ (b.y -ℤ a.y)) in
      rw (flat, between-end a.x b.x, between-end a.y b.y) refl

  node_on : (a : ℕ) (l : List ℕ) (n : ℕ) → In n l → at n ≡ p → on_some a l ≡ true
  node_on a [] n m e = absurd (omega arith)
  node_on a (b ∷ l) n m e = ⊎_elim
      (λ q. ap (λ t. t || on_some b l) (ap (on_line_lem (at a) (at b)) (sym e ∙ ap at q) ∙ end_on (at a) (at b)))
      (λ q. ap (λ t. on_line_lem (at a) (at b) p || t) (node_on b l n q e) ∙ or_true (on_line_lem (at a) (at b) p))
      (in_cons n b l m)
    where
      or_true : (t : Bool) → (t || true) ≡ true
      or_true true = refl
      or_true false = refl

  -- a point where one of the nodes lies is on the ring
  pub walk_on : (odd : Bool) (a : ℕ) (l : List ℕ) (n : ℕ) → In n l → at n ≡ p → stands_from at p odd a l ≡ OnRing
  walk_on odd a l n m e = walk_tells odd a l ∙ ap (λ t. told t (oddly odd (crossings a l))) (node_on a l n m e)
