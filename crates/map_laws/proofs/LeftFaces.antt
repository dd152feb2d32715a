-- The successor keeps the face of a half-edge on its left, in every arrangement whose stars stand in angular order.
use Prim.Native.Nat.{ℕ, ◌<◌}
use native.Mathlib.Omega.{arith}
use mathlib.Core.Path.{◌≡◌, refl, sym, ap, subst, ◌∙◌}
use mathlib.Core.Logic.{◌⊎◌, inl, inr, ⊎_elim}
use mathlib.Core.Bool.{Bool, true, false}
use mathlib.Core.List.{List, [], ◌∷◌}
use borrow.Author.Tests.{eq-eqb, ne_eqb}
use Rattle.lists.specs.Lists.{pick, last_of, before, In, Distinct}
use Rattle.lists.proofs.Counts.{by_test, by_eq, true_is_false, in_cons, in_head}
use Rattle.lists.proofs.Members.{in_path, in_other, distinct-out, distinct-rest, pick_in}
use Rattle.lists.proofs.Rounds.{previous, previous_in}
use Rattle.lists.proofs.Sorting.{Ordered, sorted-ordered}
use Rattle.geometry.specs.Angle.{Point}
use Rattle.geometry.specs.Sector.{swept}
use Rattle.geometry.proofs.Sectors.{Round, swept_round}
use Rattle.rules.specs.HalfEdge.{twin}
use Rattle.rules.specs.Angle.{angle_before}
use Rattle.rules.specs.Cycles.{Arrangement, halves, active_star, successor}
use Rattle.rules.specs.Sane.{Live, Sane}
use Rattle.map_laws.specs.LeftFace.{end_at, GoesOn, KeepsLeft, Angular}
use Rattle.rules.proofs.PointLaws.{says_angle, angle_never, angle_strict}
use Rattle.rules.proofs.Successor.{onward, successor-is, star_in_lem, star-distinct, ends, onward_in, successor-leaves}

-- ---- neighbours in a list that is in order

module _ (p : ℕ → ℕ → Bool) (never : (x : ℕ) → p x x ≡ false) where
  -- a member picked out of a list in order
  ordered-pick : (q : ℕ → Bool) (l : List ℕ) → Ordered p l → Ordered p (pick q l)
  ordered-pick q [] r = tt
  ordered-pick q (x ∷ l) r = by_test (q x)
      (λ e. rw e (λ y m. r.0 y (pick_in q y l m).0, ordered-pick q l r.1))
      (λ e. rw e (ordered-pick q l r.1))

  -- no member comes between h and the one before it, and h does not precede that one
  before_near : (f h k : ℕ) (l : List ℕ) → Ordered p (f ∷ l) → In h l → In k (f ∷ l)
      → (p h (before f h l) ≡ false) × ((p (before f h l) k ≡ false) ⊎ (p k h ≡ false))
  before_near f h k [] r m n = absurd (omega arith)
  before_near f h k (x ∷ l) r m n = by_eq x h
      (λ e. rw (eq-eqb x h e) (
        r.0 h m,
        ⊎_elim
            (λ q. inl (ap (p f) q ∙ never f))
            (λ q. inr (⊎_elim (λ z. ap (λ w. p w h) (z ∙ e) ∙ never h) (λ z. ap (p k) (sym e) ∙ r.1.0 k z) (in_cons k x l q)))
            (in_cons k f (x ∷ l) n),
      ))
      (λ d. let m' = in_other h x l d m in
      let ih : (y : ℕ) → In y (x ∷ l) → (p h (before x h l) ≡ false) × ((p (before x h l) y ≡ false) ⊎ (p y h ≡ false)) = λ y z. before_near x h y l r.1 m' z in
      let p' : before x h l ≡ previous h (x ∷ l) = rw (ne_eqb x h d) in
      rw (ne_eqb x h d) (
        (ih h m).0,
        ⊎_elim
            (λ q. inl (ap (p (before x h l)) q ∙ r.0 (before x h l) (in_path (x ∷ l) p' (previous_in h (x ∷ l) m))))
            (λ q. (ih k q).1)
            (in_cons k f (x ∷ l) n),
      ))

  -- no member comes after the last
  last_late : (x k : ℕ) (l : List ℕ) → Ordered p (x ∷ l) → In k (x ∷ l) → p (last_of x l) k ≡ false
  last_late x k [] r n = ap (p x) (⊎_elim (λ q. q) (λ q. absurd (omega arith)) (in_cons k x [] n)) ∙ never x
  last_late x k (y ∷ l) r n = ⊎_elim
      (λ q.
      let p' : last_of y l ≡ previous y (y ∷ l) = rw (eq-eqb y y refl) in
      ap (p (last_of y l)) q ∙ r.0 (last_of y l) (in_path (y ∷ l) p' (previous_in y (y ∷ l) (in_head y y l refl))))
      (λ q. last_late y k l r.1 q)
      (in_cons k x (y ∷ l) n)

  -- going round, no member stands between h and the one before it
  between : (h k : ℕ) (l : List ℕ) → Ordered p l → In h l → In k l
      → (p (previous h l) k ≡ true → p k h ≡ true → ⊥) × (p k h ≡ true → p h (previous h l) ≡ true → ⊥) × (p h (previous h l) ≡ true → p (previous h l) k ≡ true → ⊥)
  between h k [] r m n = absurd (omega arith)
  between h k (x ∷ l) r m n = by_eq x h
      (λ e. rw (eq-eqb x h e) (
      let low : p k h ≡ false = ⊎_elim (λ z. ap (λ w. p w h) (z ∙ e) ∙ never h) (λ z. ap (p k) (sym e) ∙ r.0 k z) (in_cons k x l n) in
      let high = last_late x k l r n in (
        λ a b. true_is_false (sym a ∙ high),
        λ a b. true_is_false (sym a ∙ low),
        λ a b. true_is_false (sym b ∙ high),
      )))
      (λ d. rw (ne_eqb x h d) (
      let w = before_near x h k l r (in_other h x l d m) n in (
        λ a b. ⊎_elim (λ z. true_is_false (sym a ∙ z)) (λ z. true_is_false (sym b ∙ z)) w.1,
        λ a b. true_is_false (sym b ∙ w.0),
        λ a b. true_is_false (sym a ∙ w.0),
      )))

-- ---- a member that comes before itself is alone

-- the one before h in a list without repeats is another
before-other : (f h : ℕ) (l : List ℕ) → Distinct (f ∷ l) → In h l → before f h l ≡ h → ⊥
before-other f h [] d m e = absurd (omega arith)
before-other f h (x ∷ l) d m e = by_eq x h
    (λ q. distinct-out f (x ∷ l) d (in_path (x ∷ l) (rw (eq-eqb x h q) at e) m))
    (λ q. before-other x h l (distinct-rest f (x ∷ l) d) (in_other h x l q m) (rw (ne_eqb x h q) at e))

-- going round too, unless there is no other
previous_alone : (h k : ℕ) (l : List ℕ) → Distinct l → In h l → In k l → previous h l ≡ h → k ≡ h
previous_alone h k [] d m n e = absurd (omega arith)
previous_alone h k (x ∷ l) d m n e = by_eq x h
    (λ q. only x l d (rw (eq-eqb x h q) at e ∙ sym q) n ∙ q)
    (λ q. absurd (before-other x h l d (in_other h x l q m) (rw (ne_eqb x h q) at e)))
  where
    only : (x : ℕ) (l : List ℕ) → Distinct (x ∷ l) → last_of x l ≡ x → In k (x ∷ l) → k ≡ x
    only x [] d e n = ⊎_elim (λ q. q) (λ q. absurd (omega arith)) (in_cons k x [] n)
    only x (y ∷ l) d e n =
        let p' : last_of y l ≡ previous y (y ∷ l) = rw (eq-eqb y y refl) in
        absurd (distinct-out x (y ∷ l) d (in_path (y ∷ l) (sym e ∙ p') (previous_in y (y ∷ l) (in_head y y l refl))))

-- ---- the law

-- a test around c is not met by a point and itself
pub angle_self_not : (c a : Point) → angle_before c a a ≡ false
angle_self_not c a = by_test (angle_before c a a) (λ e. absurd (angle_never c a a e e)) (λ e. e)

module _ (at : ℕ → Point) (g : Arrangement) where
  -- h comes before k around node n
  abbrev pub around : ℕ → ℕ → ℕ → Bool
  around n h k = angle_before (at n) (end_at at g h) (end_at at g k)

  module _ (angular : Angular at g) where
    -- a star is in order
    pub star-ordered : (n : ℕ) → n < g.nodes → Ordered (around n) (g.star n)
    star-ordered n l =
        subst (Ordered (around n)) (angular n l) (sorted-ordered (λ h. Unit {0}) (around n) (angle_strict (λ h. Unit {0}) (at n) (end_at at g)) (g.star n) (λ x m. tt))

    -- so is what is active of it
    active-ordered : (n : ℕ) → n < g.nodes → Ordered (around n) (active_star g n)
    unfolding active_star
    active-ordered n l = ordered-pick (around n) (λ h. angle_self_not (at n) (end_at at g h)) g.active (g.star n) (star-ordered n l)

    module _ (sane : Sane g) where
      -- what goes on from h is in the star at its end
      goes_in : (h k : ℕ) → GoesOn g h k → In k (onward g h)
      goes_in h k o = subst (λ n. In k (active_star g n)) o.1 (star_in_lem g sane k o.0.0 o.0.1)

      clear_sector : (h k : ℕ) → Live (halves g) g.active h → GoesOn g h k
          → swept (at (g.origin (twin h))) (end_at at g (successor g h)) (end_at at g k) (end_at at g (twin h)) ≡ false
      clear_sector h k a o =
          let v = g.origin (twin h) in
          let c = at v in
          let b = previous (twin h) (onward g h) in
          let w = between (around v) (λ x. angle_self_not c (end_at at g x)) (twin h) k (onward g h) (active-ordered v (ends g sane h a.0)) (onward_in g sane h a.0 a.1) (goes_in h k o) in
          let no : Round c (end_at at g b) (end_at at g k) (end_at at g (twin h)) → ⊥ = ⊎_elim
          (λ r. w.0 (says_angle c _ _ r.0) (says_angle c _ _ r.1))
          (⊎_elim (λ r. w.1 (says_angle c _ _ r.0) (says_angle c _ _ r.1)) (λ r. w.2 (says_angle c _ _ r.0) (says_angle c _ _ r.1))) in
          ap (λ z. swept c (end_at at g z) (end_at at g k) (end_at at g (twin h))) (successor-is g h)
          ∙ by_test (swept c (end_at at g b) (end_at at g k) (end_at at g (twin h))) (λ e. absurd (no (swept_round c _ _ _ e))) (λ e. e)

      -- the successor keeps the face on the left
      pub left-face : KeepsLeft at g (successor g)
      left-face = record {
        starts = λ h a. let s = successor-leaves g sane h a.0 a.1 in ((s.below, s.active), s.origin);
        clear = clear_sector;
        alone = λ h k a o e. previous_alone (twin h) k (onward g h) (star-distinct g sane (g.origin (twin h)) (ends g sane h a.0)) (onward_in g sane h a.0 a.1) (goes_in h k o) (sym (successor-is g h) ∙ e);
      }
