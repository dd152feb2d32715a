-- Rising lists, and lists one after another of which one gets a member more.
use Prim.Native.Nat.{ℕ, zero, suc, ◌+◌, ◌<◌, ◌≤◌}
use native.Mathlib.Omega.{arith}
use mathlib.Core.Path.{◌≡◌, refl, sym, ap, ap₂, ◌∙◌}
use mathlib.Core.Bool.{true, cond}
use mathlib.Core.List.{List, [], ◌∷◌, ◌++◌, map, append-nil}
use lib.Dec.{eqb, ltb}
use borrow.Author.Tests.{ltb-true, ltb-false, lt-ltb, le-ltb}
use Rattle.lists.specs.Lists.{upto, bit, count_of, In, Distinct, flatten, rising, rises_from, member, once}
use Rattle.lists.specs.Sort.{sorted}
use Rattle.lists.proofs.Counts.{by_test, by_eq, bit-same, bit-other, count-append, flatten-append, map-append}
use Rattle.lists.proofs.Tests.{both}
use Rattle.lists.proofs.Sorting.{Only, Order, Ordered, count-sorted, sorted-ordered, ordered_same}

-- ---- rising lists

-- what rises from x lies above x
pub rises_above : (x : ℕ) (l : List ℕ) → rises_from x l ≡ true → (y : ℕ) → In y l → x < y
rises_above x [] e y m = absurd (omega arith)
rises_above x (z ∷ l) e y m =
    let t = both (ltb x z) (rises_from z l) e in
    let low : x < z = ltb-true x z t.0 in
    by_eq y z (λ q. omega arith) (λ d. let high = rises_above z l t.1 y (omega (arith, bit-other y z d)) in omega arith)

-- it rises by itself
pub rises-rising : (x : ℕ) (l : List ℕ) → rises_from x l ≡ true → rising l ≡ true
rises-rising x [] e = refl
rises-rising x (y ∷ l) e = (both (ltb x y) (rises_from y l) e).1

-- a rising list has no repeats
pub rising-distinct : (l : List ℕ) → rising l ≡ true → Distinct l
rising-distinct [] e y = omega arith
rising-distinct (x ∷ l) e y =
    let d = rising-distinct l (rises-rising x l e) y in
    by_eq y x
    (λ q. by_eq (count_of y l) 0 (λ z. omega (arith, bit-same y x q)) (λ z. absurd (omega (arith, rises_above x l e y (omega arith)))))
    (λ q. omega (arith, bit-other y x q))

-- ---- one rising list for the same members

-- each number once, if it was there
pub count-once : (a : ℕ) (l : List ℕ) → count_of a (once l) ≡ bit (member a l)
count-once a [] = refl
count-once a (x ∷ l) = by_test (member x l)
    (λ e. rw e (count-once a l ∙ by_eq a x
    (λ q. ap bit (ap (λ z. member z l) q ∙ e ∙ sym (lt-ltb 0 (count_of a (x ∷ l)) (omega (arith, bit-same a x q)))))
    (λ d. ap (λ n. bit (ltb 0 n)) (let z : count_of a l ≡ count_of a (x ∷ l) = omega (arith, bit-other a x d) in z))))
    (λ e. rw e (by_eq a x
    (λ q. omega (arith, count-once a l, ap (λ z. bit (member z l)) q, ap bit e, bit-same a x q, ap bit (lt-ltb 0 (count_of a (x ∷ l)) (omega (arith, bit-same a x q)))))
    (λ d. let z : count_of a l ≡ count_of a (x ∷ l) = omega (arith, bit-other a x d) in omega (arith, count-once a l, bit-other a x d, ap (λ n. bit (ltb 0 n)) z))))

-- numbers by their size
number-order : Order (λ x. Unit {0}) ltb
number-order = record {
  strict = record {
    asymmetric = λ x y ox oy e. le-ltb y x (omega (arith, ltb-true x y e));
    transitive = λ x y z ox oy oz e f. lt-ltb x z (omega (arith, ltb-true x y e, ltb-true y z f));
  };
  total = λ x y ox oy d e. lt-ltb y x (omega (arith, ltb-false x y e));
}

-- a rising list is in order
rising-ordered : (l : List ℕ) → rising l ≡ true → Ordered ltb l
rising-ordered [] e = tt
rising-ordered (x ∷ l) e = (λ y m. le-ltb y x (omega (arith, rises_above x l e y m)), rising-ordered l (rises-rising x l e))

-- a list that rises is its members, each once, sorted
pub rising-sorted : (l m : List ℕ) → rising l ≡ true → ((a : ℕ) → member a l ≡ member a m) → l ≡ sorted ltb (once m)
rising-sorted l m e same =
    let any : (k : List ℕ) → Only (λ x. Unit {0}) k = λ k x h. tt in
    ordered_same (λ x. Unit {0}) ltb number-order l (sorted ltb (once m)) (any l)
    (λ a. once-count a ∙ ap bit (same a) ∙ sym (count-once a m) ∙ sym (count-sorted ltb a (once m)))
    (rising-ordered l e) (sorted-ordered (λ x. Unit {0}) ltb number-order.strict (once m) (any (once m)))
  where
    once-count : (a : ℕ) → count_of a l ≡ bit (member a l)
    once-count a = by_eq (count_of a l) 0
        (λ z. z ∙ sym (ap bit (le-ltb 0 (count_of a l) (omega arith))))
        (λ d. let one : count_of a l ≡ 1 = omega (arith, rising-distinct l e a) in one ∙ sym (ap bit (lt-ltb 0 (count_of a l) (omega arith))))

-- ---- one more member

-- functions that agree on the members
pub map_agree : {B : Type 0} (f g : ℕ → B) (l : List ℕ) → ((x : ℕ) → In x l → f x ≡ g x) → map f l ≡ map g l
map_agree f g [] same = refl
map_agree f g (x ∷ l) same = ap₂ (λ a r. a ∷ r) (same x (omega (arith, bit-same x x refl))) (map_agree f g l (λ y m. same y (omega arith)))

-- x behind the members whose key is below i
abbrev pub placed : (ℕ → ℕ) → ℕ → ℕ → List ℕ → List ℕ
placed key i x [] = x ∷ []
placed key i x (y ∷ ys) = cond (ltb (key y) i) (y ∷ placed key i x ys) (x ∷ y ∷ ys)

-- one more
pub count-placed : (key : ℕ → ℕ) (i x a : ℕ) (l : List ℕ) → count_of a (placed key i x l) ≡ bit (eqb a x) + count_of a l
count-placed key i x a [] = refl
count-placed key i x a (y ∷ l) = by_test (ltb (key y) i) (λ e. rw e (omega (arith, count-placed key i x a l))) (λ e. rw e)

-- the keys, where x has the key i and the others keep theirs
pub map-placed : (key key' : ℕ → ℕ) (i x : ℕ) (l : List ℕ) → key' x ≡ i → ((y : ℕ) → In y l → key' y ≡ key y)
    → map key' (placed key i x l) ≡ placed (λ y. y) i i (map key l)
map-placed key key' i x [] e same = ap (λ z. z ∷ []) e
map-placed key key' i x (y ∷ l) e same =
    let h = same y (omega (arith, bit-same y y refl)) in
    let rest : (z : ℕ) → In z l → key' z ≡ key z = λ z m. same z (omega arith) in
    by_test (ltb (key y) i)
    (λ q. rw q (ap₂ (λ a r. a ∷ r) h (map-placed key key' i x l e rest)))
    (λ q. rw q (ap₂ (λ a r. a ∷ r) e (ap₂ (λ a r. a ∷ r) h (map_agree key' key l rest))))

-- a list that rises from below i, and does not hold it, does so with it
rises-placed : (w i : ℕ) (l : List ℕ) → w < i → count_of i l ≡ 0 → rises_from w l ≡ true → rises_from w (placed (λ y. y) i i l) ≡ true
rises-placed w i [] h z e = rw (lt-ltb w i h)
rises-placed w i (y ∷ l) h z e =
    let t = both (ltb w y) (rises_from y l) e in
    by_test (ltb y i)
    (λ q. rw (q, t.0) (rises-placed y i l (ltb-true y i q) (omega arith) t.1))
    (λ q.
    let d : i ≡ y → ⊥ = λ s. omega (arith, bit-same i y s) in
    let g : i < y = omega (arith, ltb-false y i q) in
    rw (q, lt-ltb w i h, lt-ltb i y g) t.1)

-- so does any that rises
pub rising-placed : (i : ℕ) (l : List ℕ) → count_of i l ≡ 0 → rising l ≡ true → rising (placed (λ y. y) i i l) ≡ true
rising-placed i [] z e = refl
rising-placed i (y ∷ l) z e =
    by_test (ltb y i)
    (λ q. rw q (rises-placed y i l (ltb-true y i q) (omega arith) e))
    (λ q.
    let d : i ≡ y → ⊥ = λ s. omega (arith, bit-same i y s) in
    let g : i < y = omega (arith, ltb-false y i q) in
    rw (q, lt-ltb i y g) e)

-- ---- lists one after another

-- one more at the end
pub flatten-upto : (F : ℕ → List ℕ) (n : ℕ) → flatten (map F (upto (suc n))) ≡ flatten (map F (upto n)) ++ F n
flatten-upto F n =
    ap flatten (map-append F (upto n) (n ∷ [])) ∙ flatten-append (map F (upto n)) (F n ∷ []) ∙ ap (λ r. flatten (map F (upto n)) ++ r) (append-nil (F n))

-- lists that agree below n
pub flatten_agree : (F G : ℕ → List ℕ) (n : ℕ) → ((k : ℕ) → k < n → F k ≡ G k) → flatten (map F (upto n)) ≡ flatten (map G (upto n))
flatten_agree F G zero e = refl
flatten_agree F G (suc n) e =
    flatten-upto F n ∙ ap₂ (λ a b. a ++ b) (flatten_agree F G n (λ k h. e k (omega arith))) (e n (omega arith)) ∙ sym (flatten-upto G n)

-- one of them has one member more, and the others are as they were
pub count_more : (F G : ℕ → List ℕ) (n k x a : ℕ) → k < n → ((j : ℕ) → j < n → (j ≡ k → ⊥) → F j ≡ G j)
    → count_of a (F k) ≡ bit (eqb a x) + count_of a (G k) → count_of a (flatten (map F (upto n))) ≡ bit (eqb a x) + count_of a (flatten (map G (upto n)))
count_more F G zero k x a h same e = absurd (omega arith)
count_more F G (suc n) k x a h same e =
    ap (count_of a) (flatten-upto F n) ∙ count-append a (flatten (map F (upto n))) (F n)
    ∙ by_eq n k
    (λ q.
    let front = ap (count_of a) (flatten_agree F G n (λ j l. same j (omega arith) (λ z. omega arith))) in
    let last : count_of a (F n) ≡ bit (eqb a x) + count_of a (G n) = rw q e in
    omega (arith, ap (count_of a) (flatten-upto G n), count-append a (flatten (map G (upto n))) (G n)))
    (λ d.
    let front = count_more F G n k x a (omega arith) (λ j l. same j (omega arith)) e in
    let last : count_of a (F n) ≡ count_of a (G n) = ap (count_of a) (same n (omega arith) d) in
    omega (arith, ap (count_of a) (flatten-upto G n), count-append a (flatten (map G (upto n))) (G n)))

-- each list is a part of the whole
pub count-part : (F : ℕ → List ℕ) (n k a : ℕ) → k < n → count_of a (F k) ≤ count_of a (flatten (map F (upto n)))
count-part F zero k a h = absurd (omega arith)
count-part F (suc n) k a h =
    let whole = ap (count_of a) (flatten-upto F n) ∙ count-append a (flatten (map F (upto n))) (F n) in
    by_eq k n
    (λ q. rw q (omega arith))
    (λ d. omega (arith, count-part F n k a (omega arith)))

-- what none of them has the whole does not have
pub count_none : (F : ℕ → List ℕ) (n a : ℕ) → ((k : ℕ) → k < n → count_of a (F k) ≡ 0) → count_of a (flatten (map F (upto n))) ≡ 0
count_none F zero a none = refl
count_none F (suc n) a none =
    ap (count_of a) (flatten-upto F n) ∙ count-append a (flatten (map F (upto n))) (F n)
    ∙ omega (arith, count_none F n a (λ k h. none k (omega arith)), none n (omega arith))

-- what two of them have stands there twice
pub count_two : (F : ℕ → List ℕ) (n j k a : ℕ) → j < k → k < n → count_of a (F j) + count_of a (F k) ≤ count_of a (flatten (map F (upto n)))
count_two F zero j k a h q = absurd (omega arith)
count_two F (suc n) j k a h q =
    let whole = ap (count_of a) (flatten-upto F n) ∙ count-append a (flatten (map F (upto n))) (F n) in
    by_eq k n
    (λ e. rw e (omega (arith, count-part F n j a (omega arith))))
    (λ d. omega (arith, count_two F n j k a h (omega arith)))
