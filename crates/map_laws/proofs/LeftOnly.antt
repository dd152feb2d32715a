-- The successor is the only next half-edge that keeps the face on the left, and the order of a star goes round counterclockwise: both where
-- the half-edges of a star end at different points.
use Prim.Native.Nat.{ℕ, zero, suc, ◌<◌}
use native.Mathlib.Omega.{arith}
use mathlib.Core.Path.{◌≡◌, refl, sym, ap, ◌∙◌}
use mathlib.Core.Logic.{◌⊎◌, inl, inr, ⊎_elim}
use mathlib.Core.Bool.{Bool, true, false, ◌&&◌, ◌||◌}
use mathlib.Core.List.{List, [], ◌∷◌}
use lib.Dec.{ltb}
use lib.ListN.{length, get_or}
use borrow.Author.Tests.{lt-ltb, le-ltb, ltb-true}
use Rattle.lists.specs.Lists.{Distinct}
use Rattle.lists.proofs.Counts.{by_test, by_eq, by_lt, true_is_false}
use Rattle.lists.proofs.Members.{in_at, in_path, distinct-out, distinct-rest}
use Rattle.lists.proofs.Sorting.{ordered_at}
use Rattle.lists.proofs.Tests.{both}
use Rattle.geometry.specs.Angle.{Point, angle_order}
use Rattle.geometry.specs.Sector.{swept}
use Rattle.geometry.proofs.Angles.{angle_trans, angle_strict_total}
use Rattle.geometry.proofs.Sweeping.{Before}
use Rattle.geometry.proofs.Sectors.{Round, round_or_back, round_swept, swept_round}
use Rattle.rules.specs.HalfEdge.{twin}
use Rattle.rules.specs.Cycles.{Arrangement, halves, successor}
use Rattle.rules.specs.Sane.{Live, Sane}
use Rattle.map_laws.specs.LeftFace.{end_at, KeepsLeft, Angular, Apart, in_turn}
use Rattle.rules.proofs.PointLaws.{says_angle}
use Rattle.rules.proofs.Twin.{twin-below}
use Rattle.map_laws.proofs.LeftFaces.{star-ordered, left-face}

module _ (at : ℕ → Point) (g : Arrangement) (apart : Apart at g) where
  -- ---- one next half-edge

  -- two that keep the face on the left agree
  module _ (f n : ℕ → ℕ) (F : KeepsLeft at g f) (N : KeepsLeft at g n) (h : ℕ) (a : Live (halves g) g.active h) where
    same_next : f h ≡ n h
    same_next =
        let t = twin h in
        let lt : t < halves g = twin-below g.edges h a.0 in
        let p = F.starts h a in
        let q = N.starts h a in
        let c = at (g.origin t) in
        by_eq (f h) t (λ e. e ∙ sym (F.alone h (n h) a q e)) (λ dp.
        by_eq (n h) t (λ e. N.alone h (f h) a p e ∙ sym e) (λ dq.
        by_eq (f h) (n h) (λ e. e) (λ d.
        let op : end_at at g (f h) ≡ c → ⊥ = λ e. apart.away (f h) p.0.0 (e ∙ ap at (sym p.1)) in
        let oq : end_at at g (n h) ≡ c → ⊥ = λ e. apart.away (n h) q.0.0 (e ∙ ap at (sym q.1)) in
        let ot : end_at at g t ≡ c → ⊥ = apart.away t lt in
        let pq : end_at at g (f h) ≡ end_at at g (n h) → ⊥ = λ e. d (apart.differ (f h) (n h) p.0.0 q.0.0 (p.1 ∙ sym q.1) e) in
        let pt : end_at at g (f h) ≡ end_at at g t → ⊥ = λ e. dp (apart.differ (f h) t p.0.0 lt p.1 e) in
        let qt : end_at at g (n h) ≡ end_at at g t → ⊥ = λ e. dq (apart.differ (n h) t q.0.0 lt q.1 e) in
        absurd (⊎_elim
        (λ r. true_is_false (sym (round_swept c (end_at at g (f h)) (end_at at g (n h)) (end_at at g t) op oq ot pq qt pt r) ∙ F.clear h (n h) a q))
        (λ r. true_is_false (sym (round_swept c (end_at at g (n h)) (end_at at g (f h)) (end_at at g t) oq op ot (λ e. pq (sym e)) pt qt
        (⊎_elim (λ z. inr (inr z)) (⊎_elim (λ z. inl z) (λ z. inr (inl z))) r)) ∙ N.clear h (f h) a p))
        (round_or_back c (end_at at g (f h)) (end_at at g (n h)) (end_at at g t) op oq ot pq qt pt)))))

  module _ (sane : Sane g) (angular : Angular at g) where
    -- so what keeps the face on the left is the successor
    pub only-successor : (next : ℕ → ℕ) → KeepsLeft at g next → (h : ℕ) → Live (halves g) g.active h → next h ≡ successor g h
    only-successor next N h a = same_next next (successor g) N (left-face at g angular sane) h a

-- ---- the order of a star

-- different places of a list without repeats hold different numbers
place-apart : (l : List ℕ) → Distinct l → (i j : ℕ) → i < length l → j < length l → get_or l i 0 ≡ get_or l j 0 → i ≡ j
place-apart [] d i j p q e = absurd (omega arith)
place-apart (x ∷ l) d zero zero p q e = refl
place-apart (x ∷ l) d zero (suc j) p q e = absurd (distinct-out x l d (in_path l e (in_at l j (omega arith))))
place-apart (x ∷ l) d (suc i) zero p q e = absurd (distinct-out x l d (in_path l (sym e) (in_at l i (omega arith))))
place-apart (x ∷ l) d (suc i) (suc j) p q e = ap suc (place-apart l (distinct-rest x l d) i j (omega arith) (omega arith) e)

-- one of three
one_of : (x y z : Bool) → (x || (y || z)) ≡ true → (x ≡ true) ⊎ ((y ≡ true) ⊎ (z ≡ true))
one_of true y z e = inl refl
one_of false true z e = inr (inl refl)
one_of false false z e = inr (inr e)

module _ (at : ℕ → Point) (g : Arrangement) (apart : Apart at g) (sane : Sane g) (angular : Angular at g) (n : ℕ) (low : n < g.nodes) where
  -- how many half-edges the star has
  abbrev size : ℕ
  size = length (g.star n)

  -- where the half-edge at place i ends
  abbrev pub end_of : ℕ → Point
  end_of i = end_at at g (get_or (g.star n) i 0)

  -- what stands in the star
  stands : (i : ℕ) → i < size → (get_or (g.star n) i 0 < halves g) × (g.origin (get_or (g.star n) i 0) ≡ n)
  stands i l = sane.only n (get_or (g.star n) i 0) low (in_at (g.star n) i l)

  -- not at the node
  off_centre : (i : ℕ) → i < size → end_of i ≡ at n → ⊥
  off_centre i l e = let s = stands i l in apart.away (get_or (g.star n) i 0) s.0 (e ∙ ap at (sym s.1))

  -- those at different places end at different points
  ends-apart : (i j : ℕ) → i < size → j < size → (i ≡ j → ⊥) → end_of i ≡ end_of j → ⊥
  ends-apart i j li lj d e =
      let s = stands i li in
      let t = stands j lj in
      d (place-apart (g.star n) (sane.once n low) i j li lj (apart.differ (get_or (g.star n) i 0) (get_or (g.star n) j 0) s.0 t.0 (s.1 ∙ sym t.1) e))

  -- what stands before comes before
  ordered-before : (i j : ℕ) → i < j → j < size → Before (at n) (end_of i) (end_of j)
  ordered-before i j l lj = ⊎_elim
      (λ r. r)
      (λ r. absurd (true_is_false (sym (says_angle (at n) (end_of j) (end_of i) r) ∙ ordered_at _ (g.star n) i j (star-ordered at g angular n low) l lj)))
      ((angle_strict_total (at n)).total (end_of i) (end_of j) (ends-apart i j (omega arith) lj (omega arith)))

  -- and back
  before-ordered : (i j : ℕ) → i < size → j < size → Before (at n) (end_of i) (end_of j) → i < j
  before-ordered i j li lj b =
      let never : (p : Point) → Before (at n) p p → ⊥ = (angle_strict_total (at n)).irreflexive in
      by_lt i j (λ l. l) (λ l. by_eq i j
      (λ e. absurd (never (end_of j) (ap (λ z. angle_order (at n) (end_of z) (end_of j)) (sym e) ∙ b)))
      (λ d. absurd (never (end_of i) (angle_trans (at n) (end_of i) (end_of j) (end_of i) b (ordered-before j i (omega arith) li)))))

  -- place j comes after i and k after j exactly when the one at j lies inside the sector from the one at i to the one at k
  pub cyclic_is_ccw : (i j k : ℕ) → i < size → j < size → k < size → swept (at n) (end_of i) (end_of j) (end_of k) ≡ in_turn i j k
  cyclic_is_ccw i j k li lj lk = by_test (in_turn i j k)
      (λ t. inside t ∙ sym t)
      (λ t. by_test (swept (at n) (end_of i) (end_of j) (end_of k)) (λ s. absurd (true_is_false (sym (turned (swept_round (at n) (end_of i) (end_of j) (end_of k) s)) ∙ t))) (λ s. s ∙ sym t))
    where
      holds : (i ≡ j → ⊥) → (j ≡ k → ⊥) → (i ≡ k → ⊥) → Round (at n) (end_of i) (end_of j) (end_of k) → swept (at n) (end_of i) (end_of j) (end_of k) ≡ true
      holds a b c r = round_swept (at n) (end_of i) (end_of j) (end_of k) (off_centre i li) (off_centre j lj) (off_centre k lk)
          (ends-apart i j li lj a) (ends-apart j k lj lk b) (ends-apart i k li lk c) r

      inside : in_turn i j k ≡ true → swept (at n) (end_of i) (end_of j) (end_of k) ≡ true
      inside t = ⊎_elim
          (λ e. let b = both (ltb i j) (ltb j k) e in
          let p = ltb-true i j b.0 in
          let q = ltb-true j k b.1 in
          holds (omega arith) (omega arith) (omega arith) (inl (ordered-before i j p lj, ordered-before j k q lk)))
          (⊎_elim
          (λ e. let b = both (ltb j k) (ltb k i) e in
          let p = ltb-true j k b.0 in
          let q = ltb-true k i b.1 in
          holds (omega arith) (omega arith) (omega arith) (inr (inl (ordered-before j k p lk, ordered-before k i q li))))
          (λ e. let b = both (ltb k i) (ltb i j) e in
          let p = ltb-true k i b.0 in
          let q = ltb-true i j b.1 in
          holds (omega arith) (omega arith) (omega arith) (inr (inr (ordered-before k i p li, ordered-before i j q lj)))))
          (one_of (ltb i j && ltb j k) (ltb j k && ltb k i) (ltb k i && ltb i j) t)

      turned : Round (at n) (end_of i) (end_of j) (end_of k) → in_turn i j k ≡ true
      turned = ⊎_elim
          (λ r. rw (lt-ltb i j (before-ordered i j li lj r.0), lt-ltb j k (before-ordered j k lj lk r.1)))
          (⊎_elim
          (λ r. let p = before-ordered j k lj lk r.0 in
          let q = before-ordered k i lk li r.1 in
          rw (le-ltb i j (omega arith), lt-ltb j k p, lt-ltb k i q))
          (λ r. let p = before-ordered k i lk li r.0 in
          let q = before-ordered i j li lj r.1 in
          rw (lt-ltb i j q, le-ltb j k (omega arith), lt-ltb k i p)))
