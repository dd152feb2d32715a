-- Places of the members of a list in order: a member's place is how many precede it.
use mathlib.Core.Path.{◌≡◌, refl, sym, ap, ◌∙◌}
use mathlib.Core.Bool.{Bool, true, false}
use mathlib.Core.List.{List, [], ◌∷◌, ◌++◌, map}
use Prim.Native.Nat.{ℕ, zero, suc, ◌+◌, ◌≤◌, ◌<◌}
use native.Mathlib.Omega.{arith}
use lib.ListN.{length, get_or, take, drop, set, length-map, length-set, take-append-drop}
use lib.Seq.{ext_get_or, get_or-take, get_or-set_same, get_or-set_other, drop-set-lt, length-take-le}
use borrow.Author.Tests.{eq-eqb, ne_eqb, lt-ltb, le-ltb}
use Rattle.lists.specs.Lists.{upto, pick, bit, count_of, In, over}
use Rattle.lists.specs.Sort.{sorted}
use Rattle.lists.proofs.Counts.{by_test, by_eq, by_lt, bit-same, in_head, in_tail}
use Rattle.lists.proofs.Members.{in_other, pick_yes, pick_no, pick-none, in_at, length-upto, count-upto, full}
use Rattle.lists.proofs.Sums.{length-same}
use Rattle.lists.proofs.Sorting.{Only, Order, Ordered, count-sorted, sorted-ordered}
use Rattle.faces.specs.Numbers.{index_of, Once}
use Rattle.ring_keys.proofs.Rows.{map-upto-at}

-- ---- the place of a member

-- it is below the length, and the member stands there
pub index_in : (x : ℕ) (l : List ℕ) → In x l → (index_of x l < length l) × (get_or l (index_of x l) 0 ≡ x)
index_in x [] h = absurd (omega arith)
index_in x (y ∷ l) h = by_eq x y
    (λ e. rw (eq-eqb x y e) (omega arith, sym e))
    (λ d. let r = index_in x l (in_other x y l (λ e. d (sym e)) h) in rw (ne_eqb x y d) (omega arith, r.1))

-- ---- two places of one number

-- where each number stands at most once, two places of one number are the same
pub place-one : (l : List ℕ) (i j : ℕ) → count_of (get_or l i 0) l ≤ 1 → i < j → j < length l → get_or l i 0 ≡ get_or l j 0 → ⊥
place-one [] i j once h g e = omega arith
place-one (x ∷ l) i zero once h g e = omega arith
place-one (x ∷ l) zero (suc j) once h g e =
    omega (arith, bit-same x x refl, in_at l j (omega arith), ap (λ w. count_of w l) e)
place-one (x ∷ l) (suc i) (suc j) once h g e = place-one l i j (omega arith) (omega arith) (omega arith) e

-- ---- writing each member's place at the member

-- out is t with the places of the first p members of l written, of which there are n
pub record Written (l : List ℕ) (n p : ℕ) (t out : List ℕ) : Type 0 where
  pub same : length out ≡ length t
  pub behind : drop n out ≡ drop n t
  pub places : (q : ℕ) → q < p → get_or out (get_or l q 0) 0 ≡ q

-- none at first
pub written_none : (l : List ℕ) (n : ℕ) (t : List ℕ) → Written l n 0 t t
written_none l n t = record { same = refl; behind = refl; places = λ q h. absurd (omega arith) }

module _ (l : List ℕ) (n : ℕ) (long : length l ≡ n) (once : Once n l) where
  -- each member is below n
  pub once-below : (q : ℕ) → q < n → get_or l q 0 < n
  once-below q h = full n l (omega arith) once (get_or l q 0) (in_at l q (omega arith))

  -- one more
  pub written_more : (p : ℕ) (t out : List ℕ) → p < n → n ≤ length t → Written l n p t out → Written l n (p + 1) t (set out (get_or l p 0) p)
  written_more p t out h room w =
      let s = w.same in
      let b : get_or l p 0 < n = once-below p h in
      record {
        same = length-set out (get_or l p 0) p ∙ s;
        behind = drop-set-lt n out (get_or l p 0) p b ∙ w.behind;
        places = λ q g. by_eq q p
            (λ e. ap (λ i. get_or (set out (get_or l p 0) p) (get_or l i 0) 0) e ∙ get_or-set_same out (get_or l p 0) p 0 (omega arith) ∙ sym e)
            (λ d.
            let other : get_or l q 0 ≡ get_or l p 0 → ⊥ = place-one l q p (omega (arith, once (get_or l q 0) (once-below q (omega arith)))) (omega arith) (omega arith) in
            get_or-set_other out (get_or l p 0) (get_or l q 0) p 0 other ∙ w.places q (omega arith));
      }

  -- all
  pub written_all : (t out : List ℕ) → n ≤ length t → Written l n n t out → out ≡ over (map (λ i. index_of i l) (upto n)) t
  written_all t out room w =
      let row : List ℕ = map (λ i. index_of i l) (upto n) in
      let s = w.same in
      let size : length row ≡ n = length-map (upto n) (λ i. index_of i l) ∙ length-upto n in
      let front : take n out ≡ row = ext_get_or 0 (take n out) row (length-take-le n out (omega arith) ∙ sym size)
      (λ i h.
      let m : i < n = omega (arith, length-take-le n out (omega arith)) in
      let r = index_in i l (omega (arith, once i m)) in
      get_or-take n out i 0 m
      ∙ ap (λ k. get_or out k 0) (sym r.1)
      ∙ w.places (index_of i l) (omega arith)
      ∙ sym (map-upto-at (λ i. index_of i l) n i 0 m)) in
      sym (take-append-drop n out) ∙ (λ i. front i ++ w.behind i) ∙ ap (λ k. row ++ drop k t) (sym size)

-- ---- the place in an order

-- a member of 0 .. n - 1 is below n
pub upto-below : (n v : ℕ) → In v (upto n) → v < n
upto-below n v m = by_lt v n (λ h. h) (λ h. absurd (omega (arith, count-upto n v, ap bit (le-ltb v n h))))

-- and each below n is a member
pub upto_in : (n v : ℕ) → v < n → In v (upto n)
upto_in n v h = omega (arith, count-upto n v, ap bit (lt-ltb v n h))

module _ (of : ℕ → Type 0) (p : ℕ → ℕ → Bool) (o : Order of p) where
  -- nothing precedes itself
  alone : (x : ℕ) → of x → p x x ≡ false
  alone x ox = by_test (p x x) (λ e. o.strict.asymmetric x x ox ox e) (λ e. e)

  -- in a list in order a member's place is how many precede it
  pub index_ordered : (x : ℕ) (l : List ℕ) → Only of l → Ordered p l → In x l → index_of x l ≡ length (pick (λ y. p y x) l)
  index_ordered x [] all r m = absurd (omega arith)
  index_ordered x (y ∷ l) all r m = by_eq x y
      (λ e.
      let first : p y x ≡ false = ap (λ w. p y w) e ∙ alone y (all y (in_head y y l refl)) in
      let rest : pick (λ z. p z x) l ≡ [] = pick-none (λ z. p z x) l (λ z k. ap (λ w. p z w) e ∙ r.0 z k) in
      rw (eq-eqb x y e, first, rest))
      (λ d.
      let k : In x l = in_other x y l (λ e. d (sym e)) m in
      let first : p y x ≡ true = o.total x y (all x m) (all y (in_head y y l refl)) d (r.0 x k) in
      rw (ne_eqb x y d, first) (ap suc (index_ordered x l (λ z q. all z (in_tail z y l q)) r.1 k)))

  -- the place in the sorted list of 0 .. n - 1 is how many of these precede
  pub index_sorted : (n x : ℕ) → ((i : ℕ) → i < n → of i) → x < n → index_of x (sorted p (upto n)) ≡ length (pick (λ y. p y x) (upto n))
  index_sorted n x each h =
      let l : List ℕ = sorted p (upto n) in
      let q : ℕ → Bool = λ y. p y x in
      let same : (v : ℕ) → count_of v l ≡ count_of v (upto n) = λ v. count-sorted p v (upto n) in
      let only : Only of (upto n) = λ v m. each v (upto-below n v m) in
      let past : (v : ℕ) → n ≤ v → count_of v (pick q l) ≡ 0 = λ v g. by_test (q v)
      (λ e. pick_yes q v l e ∙ same v ∙ by_eq (count_of v (upto n)) 0 (λ z. z) (λ z. absurd (omega (arith, upto-below n v (omega arith)))))
      (λ e. pick_no q v l e) in
      let alike : (v : ℕ) → count_of v (pick q l) ≡ count_of v (pick q (upto n)) = λ v. by_test (q v)
      (λ e. pick_yes q v l e ∙ same v ∙ sym (pick_yes q v (upto n) e))
      (λ e. pick_no q v l e ∙ sym (pick_no q v (upto n) e)) in
      index_ordered x l (λ v m. only v (omega (arith, same v))) (sorted-ordered of p o.strict (upto n) only)
      (omega (arith, same x, upto_in n x h))
      ∙ length-same n (pick q l) (pick q (upto n)) past alike
