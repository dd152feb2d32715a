-- Points beside a ring. Where the ring is above or below a point, no line of it crosses to the point's right. Around a closed ring the side of the point's
-- level changes an even number of times.
use Prim.Native.Nat.{ℕ, suc, ◌%◌}
use native.Mathlib.Omega.{arith}
use mathlib.Core.Path.{◌≡◌, refl, sym, ap, ap₂, subst, ◌∙◌}
use mathlib.Core.Logic.{⊎_elim}
use mathlib.Core.Bool.{Bool, true, false, not, beq}
use mathlib.Core.List.{List, [], ◌∷◌}
use lib.Dec.{eqb}
use lib.IntN.{ℤ}
use lib.ListN.{length, get_or}
use lib.Signed.{lt_z, le_z}
use borrow.Author.Tests.{eq-eqb, ne_eqb}
use Rattle.lists.specs.Lists.{keep, pick, all, In}
use Rattle.lists.proofs.Counts.{by_eq, in_cons, in_head, in_tail}
use Rattle.lists.proofs.Members.{pick-none}
use Rattle.lists.proofs.Tests.{no_right}
use Rattle.geometry.specs.Angle.{Point}
use Rattle.geometry.proofs.Integers.{lt_lt_z, lt_z_true, le_le_z, lt_le_z, le_z_true, le_z_false}
use Rattle.rules.specs.HalfEdge.{twin}
use Rattle.rules.specs.Cycles.{Arrangement}
use Rattle.rules.specs.Claim.{Joined}
use Rattle.rules.specs.Holes.{on_line_lem, crosses_right, inside}
use Rattle.rules.proofs.Crossings.{level_apart}

-- ---- how often a side changes

-- two tests differ
abbrev differ : Bool → Bool → Bool
differ s t = not (beq s t)

-- a test between two others drops out
differ_through : (x y z : Bool) → differ (differ x y) (differ y z) ≡ differ x z
differ_through true true true = refl
differ_through true true false = refl
differ_through true false true = refl
differ_through true false false = refl
differ_through false true true = refl
differ_through false true false = refl
differ_through false false true = refl
differ_through false false false = refl

differ-none : (x : Bool) → differ x x ≡ false
differ-none true = refl
differ-none false = refl

-- an odd number of members
abbrev odd : List ℕ → Bool
odd l = eqb (length l % 2) 1

-- one more
odd_more : (l : List ℕ) (x : ℕ) → odd (x ∷ l) ≡ not (odd l)
odd_more l x = by_eq (length l % 2) 1
    (λ e. rw (eq-eqb (length l % 2) 1 e) (ne_eqb (suc (length l) % 2) 1 (λ f. omega arith)))
    (λ d. rw (ne_eqb (length l % 2) 1 d) (eq-eqb (suc (length l) % 2) 1 (omega arith)))

odd_keep : (b : Bool) (x : ℕ) (l : List ℕ) → odd (keep b x l) ≡ differ b (odd l)
odd_keep true x l = odd_more l x ∙ sym (flipped (odd l))
  where
    flipped : (t : Bool) → differ true t ≡ not t
    flipped true = refl
    flipped false = refl
odd_keep false x l = sym (same (odd l))
  where
    same : (t : Bool) → differ false t ≡ t
    same true = refl
    same false = refl

module _ (g : Arrangement) (side crosses : ℕ → Bool) where
  -- a half-edge crosses where its ends stand on different sides
  abbrev ByEnds : ℕ → Type 0
  ByEnds h = crosses h ≡ differ (side (g.origin h)) (side (g.origin (twin h)))

  -- from one half-edge on: an odd number cross where the first and the last end stand on different sides
  chain : (f h : ℕ) (hs : List ℕ) → Joined g f (h ∷ hs) → ((i : ℕ) → In i (h ∷ hs) → ByEnds i) → odd (pick crosses (h ∷ hs)) ≡ differ (side (g.origin h)) (side (g.origin f))
  chain f h [] j e = odd_keep (crosses h) h [] ∙ alone (crosses h) ∙ e h (in_head h h [] refl) ∙ ap (λ n. differ (side (g.origin h)) (side n)) j
    where
      alone : (t : Bool) → differ t false ≡ t
      alone true = refl
      alone false = refl
  chain f h (i ∷ hs) j e =
      odd_keep (crosses h) h (pick crosses (i ∷ hs))
      ∙ ap₂ differ (e h (in_head h h (i ∷ hs) refl) ∙ ap (λ n. differ (side (g.origin h)) (side n)) j.0) (chain f i hs j.1 (λ k m. e k (in_tail k h (i ∷ hs) m)))
      ∙ differ_through (side (g.origin h)) (side (g.origin i)) (side (g.origin f))

  -- around a closed ring an even number cross
  pub closed_even : (ring : List ℕ) → Joined g (get_or ring 0 0) ring → ((h : ℕ) → In h ring → ByEnds h) → odd (pick crosses ring) ≡ false
  closed_even [] j e = refl
  closed_even (h ∷ hs) j e = chain h h hs j e ∙ differ-none (side (g.origin h))

-- ---- the ends of a ring's lines

-- a fact of both ends of each line
abbrev pub Ends : (ℕ → Point) → Arrangement → List ℕ → (Point → Type 0) → Type 0
Ends at g ring fact = (h : ℕ) → In h ring → fact (at (g.origin h)) × fact (at (g.origin (twin h)))

-- what ends where the next one starts, or where the first does
joined_end : (g : Arrangement) (fact : ℕ → Type 0) (f h : ℕ) (hs : List ℕ) → Joined g f (h ∷ hs) → fact (g.origin f)
    → ((i : ℕ) → In i (h ∷ hs) → fact (g.origin i)) → (i : ℕ) → In i (h ∷ hs) → fact (g.origin (twin i))
joined_end g fact f h [] j first starts i m =
    ⊎_elim (λ e. subst (λ k. fact (g.origin (twin k))) (sym e) (subst fact (sym j) first)) (λ n. absurd (omega arith)) (in_cons i h [] m)
joined_end g fact f h (k ∷ hs) j first starts i m =
    ⊎_elim
    (λ e. subst (λ k. fact (g.origin (twin k))) (sym e) (subst fact (sym j.0) (starts k (in_tail k h (k ∷ hs) (in_head k k hs refl)))))
    (λ n. joined_end g fact f k hs j.1 first (λ l o. starts l (in_tail l h (k ∷ hs) o)) i n)
    (in_cons i h (k ∷ hs) m)

-- of a closed ring the starts are enough
pub closed-ends : (at : ℕ → Point) (g : Arrangement) (ring : List ℕ) (fact : Point → Type 0) → Joined g (get_or ring 0 0) ring
    → ((h : ℕ) → In h ring → fact (at (g.origin h))) → Ends at g ring fact
closed-ends at g [] fact j starts h m = absurd (omega arith)
closed-ends at g (f ∷ hs) fact j starts h m =
    (starts h m, joined_end g (λ n. fact (at n)) f f hs j (starts f (in_head f f hs refl)) starts h m)

-- ---- beside the ring

module _ (at : ℕ → Point) (g : Arrangement) (ring : List ℕ) (p : Point) where
  -- the line of a half-edge crosses to the right
  abbrev pub crosses : ℕ → Bool
  crosses h = crosses_right (at (g.origin h)) (at (g.origin (twin h))) p

  -- an even number crosses
  pub even_out : odd (pick crosses ring) ≡ false → inside at g ring p ≡ false
  unfolding inside
  even_out e = no_right (all (λ h. not (on_line_lem (at (g.origin h)) (at (g.origin (twin h))) p)) ring) (odd (pick crosses ring)) e

  -- none crosses
  pub none_out : ((h : ℕ) → In h ring → crosses h ≡ false) → inside at g ring p ≡ false
  none_out n = even_out (ap odd (pick-none crosses ring n))

  -- the ring is on one side of the point's level
  ring_level : (t : Bool) → Ends at g ring (λ q. le_z q.y p.y ≡ t) → inside at g ring p ≡ false
  ring_level t e = none_out (λ h m. level_apart (at (g.origin h)) (at (g.origin (twin h))) p ((e h m).0 ∙ sym (e h m).1))

  -- above the point
  pub ring_above : Ends at g ring (λ q. lt_z p.y q.y ≡ true) → inside at g ring p ≡ false
  ring_above e = ring_level false (λ h m. (up (at (g.origin h)) (e h m).0, up (at (g.origin (twin h))) (e h m).1))
    where
      up : (q : Point) → lt_z p.y q.y ≡ true → le_z q.y p.y ≡ false
      up q l = lt_le_z q.y p.y (omega (arith, lt_z_true p.y q.y l))

  -- below it
  pub ring-below : Ends at g ring (λ q. lt_z q.y p.y ≡ true) → inside at g ring p ≡ false
  ring-below e = ring_level true (λ h m. (down (at (g.origin h)) (e h m).0, down (at (g.origin (twin h))) (e h m).1))
    where
      down : (q : Point) → lt_z q.y p.y ≡ true → le_z q.y p.y ≡ true
      down q l = le_le_z q.y p.y (omega (arith, lt_z_true q.y p.y l))

-- ---- the box

-- a point lies in a box
pub record Boxed (low_x high_x low_y high_y : ℤ) (q : Point) : Type 0 where
  pub left : le_z low_x q.x ≡ true
  pub right : le_z q.x high_x ≡ true
  pub low : le_z low_y q.y ≡ true
  pub high : le_z q.y high_y ≡ true

-- x is below a low end, or above a high end
pub before-low : (low x q : ℤ) → le_z low x ≡ false → le_z low q ≡ true → lt_z x q ≡ true
before-low low x q n h = lt_lt_z x q (omega (arith, le_z_false low x n, le_z_true low q h))

pub past-high : (high x q : ℤ) → le_z x high ≡ false → le_z q high ≡ true → lt_z q x ≡ true
past-high high x q n h = lt_lt_z q x (omega (arith, le_z_false x high n, le_z_true q high h))
