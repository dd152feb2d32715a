-- Numbers that stand once each in a list: none is out of range and none there twice, so that by their number all are there.
use Prim.Native.Nat.{ℕ, zero, suc, ◌+◌, ◌-◌, ◌<◌, ◌≤◌}
use native.Mathlib.Numerals.{add-one}
use native.Mathlib.Omega.{arith}
use mathlib.Core.Path.{◌≡◌, refl, sym, ap, ◌∙◌}
use mathlib.Core.Bool.{Bool, true, false}
use mathlib.Core.List.{List, [], ◌∷◌, map}
use lib.Dec.{eqb}
use lib.ListN.{length, get_or, take, drop, set, replicate, length-take, length-map, length-set, length-replicate}
use lib.Seq.{take-suc, take-add, get_or-take, get_or-set_same, get_or-set_other, ext_get_or}
use borrow.Author.Tests.{eq-eqb, ne_eqb, eqb-true}
use Rattle.lists.specs.Lists.{upto, below, pick, all, bit, count_of}
use Rattle.lists.proofs.Counts.{by_test, by_eq, by_lt, bit-same, bit-other, bit_le, count-append, count-below, count-below-past, length-below, below_le}
use Rattle.lists.proofs.Sums.{pigeonhole, length-same}
use Rattle.lists.proofs.Members.{pick_yes, pick_no, in_at, full, all-below, length-upto}
use Rattle.rules.specs.State.{star_in}
use Rattle.rules.proofs.Values.{get_d_map-upto}
use Rattle.table_tests.specs.Tests.{stands_once, starts_at}
use Rattle.lists.proofs.Passing.{all-upto}
use Rattle.table_tests.proofs.Testing.{all_fails}

-- ---- counting entry by entry

-- one more entry
count_more : (x : ℕ) (l : List ℕ) (i : ℕ) → i < length l → count_of x (take (suc i) l) ≡ count_of x (take i l) + bit (eqb x (get_or l i 0))
count_more x l i h = rw (take-suc l i 0 h) (count-append x (take i l) (get_or l i 0 ∷ []) ∙ omega arith)

-- more entries, no fewer
count-take : (x : ℕ) (l : List ℕ) (j k : ℕ) → j ≤ k → count_of x (take j l) ≤ count_of x (take k l)
count-take x l j k h =
    let e : k ≡ j + (k - j) = omega arith in
    omega (arith, ap (λ n. count_of x (take n l)) e, ap (count_of x) (take-add j (k - j) l), count-append x (take j l) (take (k - j) (drop j l)))

-- ---- the array of those seen

-- after i entries: which numbers below n stand among them, and that no others do
pub record Seen (n : ℕ) (star : List ℕ) (i : ℕ) (seen : List Bool) : Type 0 where
  pub marks : (v : ℕ) → v < n → bit (get_or seen v false) ≡ count_of v (take i star)
  pub only : (v : ℕ) → n ≤ v → count_of v (take i star) ≡ 0

-- at first none
none_seen : (m v : ℕ) → get_or (replicate m false) v false ≡ false
none_seen zero v = refl
none_seen (suc m) zero = refl
none_seen (suc m) (suc v) = none_seen m v

-- before the first entry
pub seen_none : (n : ℕ) (star : List ℕ) (m : ℕ) → Seen n star 0 (replicate m false)
seen_none n star m = record { marks = λ v h. ap bit (none_seen m v); only = λ v h. refl }

module _ (n : ℕ) (star : List ℕ) (i : ℕ) (long : n ≤ length star) (more : i < n) where
  -- the entry at i was not seen
  pub seen_more : (seen : List Bool) (h : ℕ) → h ≡ get_or star i 0 → h < n → n ≤ length seen → get_or seen h false ≡ false → Seen n star i seen
      → Seen n star (i + 1) (set seen h true)
  seen_more seen h e small room new s = record {
    marks = λ v q. rw (add-one i, count_more v star i (omega arith)) (by_eq v h
        (λ d. rw (d, get_or-set_same seen h true false (omega arith)) (omega (arith, s.marks h small, ap bit new, bit-same h (get_or star i 0) e)))
        (λ d. rw (get_or-set_other seen h v true false d) (omega (arith, s.marks v q, bit-other v (get_or star i 0) (λ z. d (z ∙ sym e))))));
    only = λ v q. rw (add-one i) (count_more v star i (omega arith) ∙ omega (arith, s.only v q, bit-other v (get_or star i 0) (omega arith)));
  }

  -- it was: it stands there twice
  pub seen_twice : (seen : List Bool) (h : ℕ) → h ≡ get_or star i 0 → h < n → get_or seen h false ≡ true → Seen n star i seen
      → false ≡ all (stands_once n star) (upto n)
  seen_twice seen h e small old s =
      let two : 2 ≤ count_of h (take n star) =
      omega (arith, s.marks h small, ap bit old, bit-same h (get_or star i 0) e, count_more h star i (omega arith), count-take h star (suc i) n (omega arith)) in
      all_fails (stands_once n star) n h small (ne_eqb (count_of h (take n star)) 1 (omega arith))

  -- it is out of range
  pub seen-outside : (h : ℕ) → h ≡ get_or star i 0 → n ≤ h → false ≡ all (stands_once n star) (upto n)
  seen-outside h e big = by_test (all (stands_once n star) (upto n))
      (λ t.
      let short : length (take n star) ≡ n = omega (arith, length-take n star) in
      let at : get_or (take n star) i 0 ≡ get_or star i 0 = get_or-take n star i 0 more in
      absurd (omega (arith, full n (take n star) (omega arith) (λ v q. eqb-true _ _ (all-below (stands_once n star) n t v q)) (get_or (take n star) i 0) (in_at (take n star) i (omega arith)))))
      (λ t. sym t)

-- after all entries each stands there once
pub seen_all : (n : ℕ) (star : List ℕ) (seen : List Bool) → n ≤ length star → Seen n star n seen → true ≡ all (stands_once n star) (upto n)
seen_all n star seen long s = sym (all-upto (stands_once n star) n (λ v q. eq-eqb (count_of v (take n star)) 1 (by_eq (count_of v (take n star)) 0
    (λ none. absurd (omega (arith, length-take n star, pigeonhole n (v ∷ take n star) (past v q) (most v none))))
    (λ some. omega (arith, s.marks v q, bit_le (get_or seen v false))))))
  where
    -- nothing is out of range
    past : (v : ℕ) → v < n → (w : ℕ) → n ≤ w → count_of w (v ∷ take n star) ≡ 0
    past v q w h = omega (arith, s.only w h, bit-other w v (omega arith))

    -- nothing is there twice
    most : (v : ℕ) → count_of v (take n star) ≡ 0 → (w : ℕ) → count_of w (v ∷ take n star) ≤ 1
    most v none w = by_eq w v
        (λ e. omega (arith, none, ap (λ u. count_of u (take n star)) e, bit_le (eqb w v)))
        (λ d. by_lt w n
        (λ h. omega (arith, s.marks w h, bit_le (get_or seen w false), bit-other w v d))
        (λ h. omega (arith, s.only w h, bit-other w v d)))

-- ---- where half-edges start

-- a table that holds each number below m once, and no other: picking from it picks as many as pass below m
module _ (p : ℕ → Bool) (m : ℕ) (table : List ℕ) (short : length table ≤ m) (once : (h : ℕ) → h < m → count_of h table ≡ 1) where
  -- no other number stands there
  outside : (v : ℕ) → m ≤ v → count_of v table ≡ 0
  outside v h = by_eq (count_of v table) 0 (λ e. e) (λ d. absurd (omega (arith, full m table short once v (omega arith))))

  -- nor among those picked
  past : (v : ℕ) → m ≤ v → count_of v (pick p table) ≡ 0
  past v h = by_test (p v) (λ e. pick_yes p v table e ∙ outside v h) (λ e. pick_no p v table e)

  -- each that passes once
  picked_once : (v : ℕ) → count_of v (pick p table) ≡ count_of v (below p m)
  picked_once v = by_lt v m
      (λ h. by_test (p v)
      (λ e. omega (arith, pick_yes p v table e, once v h, count-below p m v h, ap bit e))
      (λ e. omega (arith, pick_no p v table e, count-below p m v h, ap bit e)))
      (λ h. past v h ∙ sym (count-below-past p m v h))

  -- so as many are picked
  pub picked_length : length (pick p table) ≡ length (below p m)
  picked_length = length-same m (pick p table) (below p m) past picked_once

-- as many half-edges start at a node as its star holds
pub star-starts : (source star : List ℕ) (m n : ℕ) → ((h : ℕ) → h < m → count_of h (take m star) ≡ 1)
    → length (star_in source (take m star) n) ≡ starts_at source m n
star-starts source star m n once = picked_length (λ h. eqb (get_or source h 0) n) m (take m star) (omega (arith, length-take m star)) once

-- ---- counting where they start

-- what is counted after h half-edges
pub record Counted (nodes : ℕ) (source : List ℕ) (h : ℕ) (counts : List ℕ) : Type 0 where
  pub size : length counts ≡ nodes
  pub each : (n : ℕ) → n < nodes → get_or counts n 0 ≡ starts_at source h n

-- nothing yet
none-counted : (m v : ℕ) → ◌≡◌ {A = ℕ} (get_or (replicate m 0) v 0) 0
none-counted zero v = refl
none-counted (suc m) zero = refl
none-counted (suc m) (suc v) = none-counted m v

-- before the first half-edge
pub counted_none : (nodes : ℕ) (source : List ℕ) → Counted nodes source 0 (replicate nodes 0)
counted_none nodes source = record { size = length-replicate nodes 0; each = λ n q. none-counted nodes n }

-- one more half-edge
pub counted_more : (nodes : ℕ) (source : List ℕ) (h : ℕ) (counts : List ℕ) (m : ℕ) → m ≡ get_or source h 0 → m < nodes → Counted nodes source h counts
    → Counted nodes source (h + 1) (set counts m (get_or counts m 0 + 1))
counted_more nodes source h counts m e small k = record {
  size = length-set counts m (get_or counts m 0 + 1) ∙ k.size;
  each = λ n q. rw (add-one h) (by_eq n m
      (λ d. let at : get_or (set counts m (get_or counts m 0 + 1)) n 0 ≡ get_or counts m 0 + 1 = rw d (get_or-set_same counts m (get_or counts m 0 + 1) 0 (omega (arith, k.size))) in
      omega (arith, at, k.each n q, ap (λ v. get_or counts v 0) d, length-below (λ i. eqb (get_or source i 0) n) h, bit-same (get_or source h 0) n (sym (d ∙ e))))
      (λ d. rw (get_or-set_other counts m n (get_or counts m 0 + 1) 0 d)
      (omega (arith, k.each n q, length-below (λ i. eqb (get_or source i 0) n) h, bit-other (get_or source h 0) n (λ z. d (sym z ∙ sym e))))));
}

-- no count exceeds the half-edges passed
pub counted-low : (nodes : ℕ) (source : List ℕ) (h : ℕ) (counts : List ℕ) (m : ℕ) → m < nodes → Counted nodes source h counts → get_or counts m 0 ≤ h
counted-low nodes source h counts m small k = omega (arith, k.each m small, below_le (λ i. eqb (get_or source i 0) m) h)

-- all counted
pub counted-all : (nodes : ℕ) (source : List ℕ) (h : ℕ) (counts : List ℕ) → Counted nodes source h counts → counts ≡ map (starts_at source h) (upto nodes)
counted-all nodes source h counts k =
    let l : length (map (starts_at source h) (upto nodes)) ≡ nodes = length-map (upto nodes) (starts_at source h) ∙ length-upto nodes in
    ext_get_or 0 counts (map (starts_at source h) (upto nodes)) (k.size ∙ sym l)
    (λ i q. k.each i (omega (arith, k.size)) ∙ sym (get_d_map-upto (starts_at source h) nodes i 0 (omega (arith, k.size))))
