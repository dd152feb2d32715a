-- Keys in two lists and in parts of them, and how two lists of keys compare.
use mathlib.Core.Path.{◌≡◌, refl, sym, ap, ap₂, ◌∙◌}
use mathlib.Core.Bool.{true, false}
use mathlib.Core.List.{List, [], ◌∷◌}
use Prim.Native.Nat.{ℕ, zero, suc, min, ◌+◌, ◌-◌, ◌≤◌, ◌<◌, ◌%◌}
use native.Mathlib.Omega.{arith}
use native.Mathlib.Nat.{mod-lt, mod-eq_of_lt}
use lib.ListN.{length, get_or, take, drop, length-take, length-drop}
use lib.Seq.{get_or-take, get_or-drop, ext_get_or}
use borrow.Author.Tests.{eq-eqb}
use Rattle.lists.proofs.Counts.{by_test, by_eq, by_lt, true_is_false}
use Rattle.rotation.specs.Rotation.{Key, key_before_lem, keys_before, keys_of, key_at}
use Rattle.rotation.proofs.Keys.{cmp-order, order_less, order_greater, order_equal, key_irreflexive, key_level, keys_irreflexive, keys_transitive, keys_before_lem}
use Rattle.rotation.proofs.Around.{origin, mod-past, entry_mod, rotated-at, length-rotated}
use Rattle.std.specs.declared.cmp.Ordering.TheVariants.{Less, Equal, Greater}
use Rattle.ring_keys.specs.declared.Turned.{Turned}
use Rattle.ring_keys.specs.Listed.{part_of}
use Rattle.std.specs.Ordering.{nat_cmp, is_ne, ordering_then}
use Rattle.std.specs.Cmp.{nat_cmp_is}
use Rattle.std.specs.declared.cmp.Ordering.{Ordering}
use Rattle.rotation.specs.Steps.{key_order}
use Rattle.ring_keys.specs.Keys.{turned_keys, Turns, keys_order}

-- ---- keys out of two lists

-- no more than either list has
pub keys-within : (xs ys : List ℕ) → (length (keys_of xs ys) ≤ length xs) × (length (keys_of xs ys) ≤ length ys)
keys-within [] ys = (omega arith, omega arith)
keys-within (x ∷ xs) [] = (omega arith, omega arith)
keys-within (x ∷ xs) (y ∷ ys) = let r = keys-within xs ys in (omega arith, omega arith)

-- the key at a place has the lists' entries there
pub key_in : (xs ys : List ℕ) (i : ℕ) → i < length (keys_of xs ys) → key_at (keys_of xs ys) i ≡ record { x = get_or xs i 0; y = get_or ys i 0 }
key_in [] ys i h = absurd (omega arith)
key_in (x ∷ xs) [] i h = absurd (omega arith)
key_in (x ∷ xs) (y ∷ ys) zero h = refl
key_in (x ∷ xs) (y ∷ ys) (suc i) h = key_in xs ys i (omega arith)

-- the lists' entries at a place
abbrev pair : List ℕ → List ℕ → ℕ → Key
pair xs ys i = record { x = get_or xs i 0; y = get_or ys i 0 }

-- by x, then y, is how the keys stand
pub keys-compare : (xs ys : List ℕ) (p q : ℕ) → p < length (keys_of xs ys) → q < length (keys_of xs ys)
    → ordering_then (nat_cmp (get_or xs p 0) (get_or xs q 0)) (nat_cmp (get_or ys p 0) (get_or ys q 0)) ≡ key_order (key_at (keys_of xs ys) p) (key_at (keys_of xs ys) q)
keys-compare xs ys p q hp hq = cmp-order (pair xs ys p) (pair xs ys q) ∙ sym (λ i. key_order (key_in xs ys p hp i) (key_in xs ys q hq i))

-- none where the second list has none
keys_none : (xs : List ℕ) → keys_of xs [] ≡ []
keys_none [] = refl
keys_none (x ∷ xs) = refl

-- past some
keys-drop : (n : ℕ) (xs ys : List ℕ) → keys_of (drop n xs) (drop n ys) ≡ drop n (keys_of xs ys)
keys-drop zero xs ys = refl
keys-drop (suc n) [] ys = refl
keys-drop (suc n) (x ∷ xs) [] = keys_none (drop n xs)
keys-drop (suc n) (x ∷ xs) (y ∷ ys) = keys-drop n xs ys

-- the first ones
keys-take : (n : ℕ) (xs ys : List ℕ) → keys_of (take n xs) (take n ys) ≡ take n (keys_of xs ys)
keys-take zero xs ys = refl
keys-take (suc n) [] ys = refl
keys-take (suc n) (x ∷ xs) [] = refl
keys-take (suc n) (x ∷ xs) (y ∷ ys) = ap (λ r. record { x = x; y = y } ∷ r) (keys-take n xs ys)

-- a part of the keys is the keys of the parts
pub keys-part : (first n : ℕ) (xs ys : List ℕ) → keys_of (part_of first n xs) (part_of first n ys) ≡ part_of first n (keys_of xs ys)
keys-part first n xs ys = keys-take n (drop first xs) (drop first ys) ∙ ap (take n) (keys-drop first xs ys)

-- ---- parts

-- as long as it says
pub length_part : {A : Type 0} (first n : ℕ) (l : List A) → first + n ≤ length l → length (part_of first n l) ≡ n
length_part first n l h = omega (arith, length-take n (drop first l), length-drop first l)

-- an entry of a part
pub part_at : {A : Type 0} (first n : ℕ) (l : List A) (i : ℕ) (d : A) → i < n → get_or (part_of first n l) i d ≡ get_or l (first + i) d
part_at first n l i d h = get_or-take n (drop first l) i d h ∙ get_or-drop first l i d

module _ (keys : List Key) (r : Turned) (w : Turns keys r) where
  -- a ring has as many keys as half-edges
  length-row : length (part_of r.first r.size keys) ≡ r.size
  length-row = length_part r.first r.size keys w.within

  -- turned too
  pub length-turned : length (turned_keys keys r) ≡ r.size
  length-turned = length-rotated (part_of r.first r.size keys) r.turn (omega (arith, length-row, w.turned)) ∙ length-row

  -- a place of the ring is in the list
  pub turned-within : (k : ℕ) → r.first + (r.turn + k) % r.size < length keys
  turned-within k =
      let t : r.turn < r.size = w.turned in
      let z : 0 < r.size = omega arith in
      let m : (r.turn + k) % r.size < r.size = mod-lt (r.turn + k) z in
      omega (arith, w.within)

  -- entry k of the turned keys stands at place k from the turn on, around
  pub turned-at : (k : ℕ) → k < r.size → key_at (turned_keys keys r) k ≡ key_at keys (r.first + (r.turn + k) % r.size)
  turned-at k h =
      let P : List Key = part_of r.first r.size keys in
      let n : length P ≡ r.size = length-row in
      let t : r.turn < r.size = w.turned in
      let z : 0 < r.size = omega arith in
      rotated-at P r.turn k (omega arith) (omega arith)
      ∙ sym (entry_mod P (r.turn + k) (omega arith))
      ∙ ap (λ m. key_at P ((r.turn + k) % m)) n
      ∙ part_at r.first r.size keys ((r.turn + k) % r.size) origin (mod-lt (r.turn + k) z)

-- the place k on from t, around n, where it is not past the end
pub around_in : (f n t k : ℕ) → k < n - t → f + (t + k) ≡ f + (t + k) % n
around_in f n t k h = let l : t + k < n = omega arith in ap (λ m. f + m) (sym (mod-eq_of_lt l))

-- and where it is
pub around-past : (f n t k : ℕ) → t < n → k < n → n - t ≤ k → f + (k - (n - t)) ≡ f + (t + k) % n
around-past f n t k ht hk h =
    let e : k - (n - t) ≡ t + k - n = omega arith in
    ap (λ m. f + m) (e ∙ sym (mod-past (t + k) n (omega arith) (omega arith)))

-- ---- the order of lists of keys

-- equal first entries leave it to the rests
keys-tail : (a : Key) (ks ls : List Key) → keys_before (a ∷ ks) (a ∷ ls) ≡ keys_before ks ls
keys-tail a ks ls = rw (key_irreflexive a, eq-eqb a.x a.x refl, eq-eqb a.y a.y refl)

-- a prefix comes first
pub keys_prefix : (ks ls : List Key) → length ks < length ls → ((t : ℕ) → t < length ks → key_at ks t ≡ key_at ls t) → keys_before ks ls ≡ true
keys_prefix ks [] h s = absurd (omega arith)
keys_prefix [] (b ∷ ls) h s = refl
keys_prefix (a ∷ ks) (b ∷ ls) h s =
    ap (λ c. keys_before (a ∷ ks) (c ∷ ls)) (sym (s 0 (omega arith)))
    ∙ keys-tail a ks ls ∙ keys_prefix ks ls (omega arith) (λ t l. s (suc t) (omega arith))

-- not both ways
pub keys_asymmetric : (ks ls : List Key) → keys_before ks ls ≡ true → keys_before ls ks ≡ false
keys_asymmetric ks ls p = by_test (keys_before ls ks)
    (λ q. absurd (true_is_false (sym (keys_transitive ks ls ks p q) ∙ keys_irreflexive ks))) (λ q. q)

-- lists of which neither comes before the other are equal
pub keys_level : (ks ls : List Key) → keys_before ks ls ≡ false → keys_before ls ks ≡ false → ks ≡ ls
keys_level [] [] p q = refl
keys_level [] (b ∷ ls) p q = absurd (true_is_false p)
keys_level (a ∷ ks) [] p q = absurd (true_is_false q)
keys_level (a ∷ ks) (b ∷ ls) p q =
    let e : a ≡ b = key_level a b (head a b ks ls p) (head b a ls ks q) in
    let r : keys_before ks ls ≡ false = sym (keys-tail a ks ls) ∙ ap (λ c. keys_before (a ∷ ks) (c ∷ ls)) e ∙ p in
    let s : keys_before ls ks ≡ false = sym (keys-tail b ls ks) ∙ ap (λ c. keys_before (b ∷ ls) (c ∷ ks)) (sym e) ∙ q in
    ap₂ (λ c r. c ∷ r) e (keys_level ks ls r s)
  where
    head : (a b : Key) (ks ls : List Key) → keys_before (a ∷ ks) (b ∷ ls) ≡ false → key_before_lem a b ≡ false
    head a b ks ls t = by_test (key_before_lem a b) (λ f. absurd (true_is_false (sym (rw f) ∙ t))) (λ f. f)

-- ---- the answer of a comparison

-- the first comes before
pub keys_less : (ks ls : List Key) → keys_before ks ls ≡ true → Less ≡ keys_order ks ls
unfolding keys_order
keys_less ks ls e = rw e

-- the second comes before
pub keys_greater : (ks ls : List Key) → keys_before ls ks ≡ true → Greater ≡ keys_order ks ls
unfolding keys_order
keys_greater ks ls e = rw (keys_asymmetric ls ks e, e)

-- they are equal
pub keys_equal : (ks ls : List Key) → ks ≡ ls → Equal ≡ keys_order ks ls
unfolding keys_order
keys_equal ks ls e = rw (ap (λ m. keys_before ks m) (sym e) ∙ keys_irreflexive ks, ap (λ m. keys_before m ks) (sym e) ∙ keys_irreflexive ks)

-- Less: the first comes before
pub less_means : (ks ls : List Key) → keys_order ks ls ≡ Less → keys_before ks ls ≡ true
unfolding keys_order
less_means ks ls e = by_test (keys_before ks ls) (λ f. f) (λ f. by_test (keys_before ls ks)
    (λ g. let h : Greater ≡ Less = sym (rw (f, g)) ∙ e in cc)
    (λ g. let h : Equal ≡ Less = sym (rw (f, g)) ∙ e in cc))

-- Greater: the second does
pub greater_means : (ks ls : List Key) → keys_order ks ls ≡ Greater → (keys_before ks ls ≡ false) × (keys_before ls ks ≡ true)
unfolding keys_order
greater_means ks ls e = by_test (keys_before ks ls)
    (λ f. let h : Less ≡ Greater = sym (rw f) ∙ e in (cc, cc))
    (λ f. by_test (keys_before ls ks) (λ g. (f, g)) (λ g. let h : Equal ≡ Greater = sym (rw (f, g)) ∙ e in (cc, cc)))

-- Equal: neither does
pub equal_means : (ks ls : List Key) → keys_order ks ls ≡ Equal → (keys_before ks ls ≡ false) × (keys_before ls ks ≡ false)
unfolding keys_order
equal_means ks ls e = by_test (keys_before ks ls)
    (λ f. let h : Less ≡ Equal = sym (rw f) ∙ e in (cc, cc))
    (λ f. by_test (keys_before ls ks) (λ g. let h : Greater ≡ Equal = sym (rw (f, g)) ∙ e in (cc, cc)) (λ g. (f, g)))

-- ---- two rings entry by entry

module _ (keys : List Key) (a b : Turned) (wa : Turns keys a) (wb : Turns keys b) where
  -- the first k entries are equal
  abbrev pub Agree : ℕ → Type 0
  Agree k = (t : ℕ) → t < k → key_at (turned_keys keys a) t ≡ key_at (turned_keys keys b) t

  module _ (k : ℕ) (la : k < a.size) (lb : k < b.size) (same : Agree k) (p q : ℕ)
      (ep : p ≡ a.first + (a.turn + k) % a.size) (eq : q ≡ b.first + (b.turn + k) % b.size) where
    -- what stands at p is entry k of the first
    here : key_at (turned_keys keys a) k ≡ key_at keys p
    here = turned-at keys a wa k la ∙ ap (key_at keys) (sym ep)

    -- and at q that of the second
    there : key_at (turned_keys keys b) k ≡ key_at keys q
    there = turned-at keys b wb k lb ∙ ap (key_at keys) (sym eq)

    -- the first is lower there
    pub entry_less : key_before_lem (key_at keys p) (key_at keys q) ≡ true → Less ≡ keys_order (turned_keys keys a) (turned_keys keys b)
    entry_less e = keys_less (turned_keys keys a) (turned_keys keys b)
        (keys_before_lem (turned_keys keys a) (turned_keys keys b) k (omega (arith, length-turned keys a wa)) (omega (arith, length-turned keys b wb))
        same ((λ i. key_before_lem (here i) (there i)) ∙ e))

    -- the second is lower there
    pub entry_greater : key_before_lem (key_at keys q) (key_at keys p) ≡ true → Greater ≡ keys_order (turned_keys keys a) (turned_keys keys b)
    entry_greater e = keys_greater (turned_keys keys a) (turned_keys keys b)
        (keys_before_lem (turned_keys keys b) (turned_keys keys a) k (omega (arith, length-turned keys b wb)) (omega (arith, length-turned keys a wa))
        (λ t l. sym (same t l)) ((λ i. key_before_lem (there i) (here i)) ∙ e))

    -- they differ there
    pub entry_differs : (o : Ordering) → o ≡ key_order (key_at keys p) (key_at keys q) → is_ne o ≡ true → o ≡ keys_order (turned_keys keys a) (turned_keys keys b)
    entry_differs Less e n = entry_less (order_less (key_at keys p) (key_at keys q) (sym e))
    entry_differs Equal e n = absurd (true_is_false (sym n))
    entry_differs Greater e n = entry_greater (order_greater (key_at keys p) (key_at keys q) (sym e))

    -- they are equal there
    equal_there : (o : Ordering) → o ≡ key_order (key_at keys p) (key_at keys q) → is_ne o ≡ false → key_at keys p ≡ key_at keys q
    equal_there Less e n = absurd (true_is_false n)
    equal_there Equal e n = order_equal (key_at keys p) (key_at keys q) (sym e)
    equal_there Greater e n = absurd (true_is_false n)

    -- so that one entry more is equal
    pub entry_equal : (o : Ordering) → o ≡ key_order (key_at keys p) (key_at keys q) → is_ne o ≡ false → Agree (k + 1)
    entry_equal o e n t l = by_eq t k
        (λ z. ap (key_at (turned_keys keys a)) z ∙ here ∙ equal_there o e n ∙ sym there ∙ ap (key_at (turned_keys keys b)) (sym z))
        (λ z. same t (omega arith))

  -- the first has no more entries
  pub ends_less : a.size < b.size → Agree a.size → Less ≡ keys_order (turned_keys keys a) (turned_keys keys b)
  ends_less h same =
      let la = length-turned keys a wa in
      let lb = length-turned keys b wb in
      keys_less (turned_keys keys a) (turned_keys keys b) (keys_prefix (turned_keys keys a) (turned_keys keys b) (omega arith) (λ t l. same t (omega arith)))

  -- the second has no more entries
  pub ends_greater : b.size < a.size → Agree b.size → Greater ≡ keys_order (turned_keys keys a) (turned_keys keys b)
  ends_greater h same =
      let la = length-turned keys a wa in
      let lb = length-turned keys b wb in
      keys_greater (turned_keys keys a) (turned_keys keys b) (keys_prefix (turned_keys keys b) (turned_keys keys a) (omega arith) (λ t l. sym (same t (omega arith))))

  -- both end
  pub ends_equal : a.size ≡ b.size → Agree a.size → Equal ≡ keys_order (turned_keys keys a) (turned_keys keys b)
  ends_equal h same =
      let la = length-turned keys a wa in
      let lb = length-turned keys b wb in
      keys_equal (turned_keys keys a) (turned_keys keys b) (ext_get_or origin (turned_keys keys a) (turned_keys keys b) (omega arith) (λ t l. same t (omega arith)))

  -- the lengths decide where the entries that both have are equal
  pub ends_compare : (m : ℕ) → m ≡ min a.size b.size → Agree m → nat_cmp a.size b.size ≡ keys_order (turned_keys keys a) (turned_keys keys b)
  ends_compare m e same = by_lt a.size b.size
      (λ h. sym (nat_cmp_is a.size b.size Less h) ∙ ends_less h (λ t l. same t (omega arith)))
      (λ h. by_lt b.size a.size
      (λ g. sym (nat_cmp_is a.size b.size Greater g) ∙ ends_greater g (λ t l. same t (omega arith)))
      (λ g. let z : a.size ≡ b.size = omega arith in sym (nat_cmp_is a.size b.size Equal z) ∙ ends_equal z (λ t l. same t (omega arith))))
