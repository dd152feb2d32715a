-- Numbers as little-endian bytes, there and back, and lists of 16-bit numbers.
use Prim.Native.Nat.{ℕ, zero, suc, ◌+◌, ◌*◌, ◌/◌, ◌%◌, ◌^◌, ◌<◌, ◌≤◌}
use native.Mathlib.Omega.{arith}
use native.Mathlib.Nat.{pow-suc}
use mathlib.Core.Path.{◌≡◌, refl, sym, ap, ap₂, ◌∙◌, fun_ext, subst}
use mathlib.Core.Bool.{Bool, true, ◌&&◌}
use mathlib.Core.List.{List, [], ◌∷◌, ◌++◌, map, map-map}
use lib.ListN.{length, take, drop, length-drop}
use lib.Seq.{length-take-le, take-take}
use lib.Dec.{ltb}
use lib.Pow.{are_bytes}
use borrow.Author.Tests.{ltb-true, lt-ltb}
use Rattle.lists.specs.Lists.{upto, all, flatten}
use Rattle.lists.proofs.Tests.{both}
use Rattle.file_rules.specs.Records.{little_endian, field, little_bytes}

-- a number from its bytes
pub number-back : (k n : ℕ) → n < 256 ^ k → little_endian (little_bytes k n) ≡ n
number-back zero n h = omega arith
number-back (suc k) n h =
    let w = pow-suc 256 k in
    let l : n / 256 < 256 ^ k = omega arith in
    rw (number-back k (n / 256) l) (omega arith)

-- bytes from their number
pub bytes_back : (s : List ℕ) → are_bytes s ≡ true → little_bytes (length s) (little_endian s) ≡ s
bytes_back [] t = refl
bytes_back (b ∷ s) t =
    let u = both (ltb b 256) (are_bytes s) t in
    let l : b < 256 = ltb-true b 256 u.0 in
    let low : (b + 256 * little_endian s) % 256 ≡ b = omega arith in
    let high : (b + 256 * little_endian s) / 256 ≡ little_endian s = omega arith in
    ap₂ (λ (x : ℕ) (n : ℕ). x ∷ little_bytes (length s) n) low high ∙ ap (λ l. b ∷ l) (bytes_back s u.1)

-- so many bytes hold numbers below that power
pub number-below : (s : List ℕ) → are_bytes s ≡ true → little_endian s < 256 ^ length s
number-below [] t = omega arith
number-below (b ∷ s) t =
    let u = both (ltb b 256) (are_bytes s) t in
    let l : b < 256 = ltb-true b 256 u.0 in
    let h = number-below s u.1 in
    rw (pow-suc 256 (length s)) (omega arith)

-- counting up, from its front
pub upto-front : (n : ℕ) → upto (suc n) ≡ 0 ∷ map suc (upto n)
upto-front zero = refl
upto-front (suc n) = ap (λ l. l ++ (suc n ∷ [])) (upto-front n) ∙ ap (λ l. 0 ∷ l) (sym (snoc (upto n)))
  where
    snoc : (l : List ℕ) → map suc (l ++ (n ∷ [])) ≡ map suc l ++ (suc n ∷ [])
    snoc [] = refl
    snoc (x ∷ l) = ap (λ m. suc x ∷ m) (snoc l)

-- twice as many bytes
pub length_words : (ns : List ℕ) → length (flatten (map (little_bytes 2) ns)) ≡ 2 * length ns
length_words [] = refl
length_words (n ∷ ns) = let e = length_words ns in omega arith

-- the 16-bit numbers in so many pairs of bytes
abbrev pub words_in : List ℕ → ℕ → List ℕ
words_in s n = map (λ i. field s (2 * i) 2) (upto n)

-- the first and the others
words_front : (a b : ℕ) (s : List ℕ) (n : ℕ) → words_in (a ∷ b ∷ s) (suc n) ≡ (a + 256 * (b + 256 * 0)) ∷ words_in s n
words_front a b s n =
    ap (map (λ i. field (a ∷ b ∷ s) (2 * i) 2)) (upto-front n)
    ∙ ap (λ l. (a + 256 * (b + 256 * 0)) ∷ l) (map-map (λ i. field (a ∷ b ∷ s) (2 * i) 2) suc (upto n) ∙ ap (λ f. map f (upto n)) (fun_ext later))
  where
    later : (i : ℕ) → field (a ∷ b ∷ s) (2 * suc i) 2 ≡ field s (2 * i) 2
    later i = let e : 2 * suc i ≡ suc (suc (2 * i)) = omega arith in rw e refl

-- numbers from their bytes
pub words_back : (ns : List ℕ) → all (λ v. ltb v 65536) ns ≡ true → words_in (flatten (map (little_bytes 2) ns)) (length ns) ≡ ns
words_back [] t = refl
words_back (n ∷ ns) t =
    let u = both (ltb n 65536) (all (λ v. ltb v 65536) ns) t in
    words_front (n % 256) (n / 256 % 256) (flatten (map (little_bytes 2) ns)) (length ns)
    ∙ ap₂ (λ (x : ℕ) (l : List ℕ). x ∷ l) (number-back 2 n (ltb-true n 65536 u.0)) (words_back ns u.1)

-- ---- bytes of a file

-- a field of a front is that of the whole
pub field-within : (at k n : ℕ) (s : List ℕ) → at + k ≤ n → take k (drop at (take n s)) ≡ take k (drop at s)
field-within zero k n s h = take-take k n s (omega arith)
field-within (suc at) k zero s h = absurd (omega arith)
field-within (suc at) k (suc n) [] h = refl
field-within (suc at) k (suc n) (x ∷ s) h = field-within at k n s (omega arith)

-- the front of bytes is bytes
pub bytes_take : (n : ℕ) (s : List ℕ) → are_bytes s ≡ true → are_bytes (take n s) ≡ true
bytes_take zero s t = refl
bytes_take (suc n) [] t = refl
bytes_take (suc n) (b ∷ s) t = let u = both (ltb b 256) (are_bytes s) t in rw u.0 (bytes_take n s u.1)

-- so is what follows it
pub bytes_drop : (n : ℕ) (s : List ℕ) → are_bytes s ≡ true → are_bytes (drop n s) ≡ true
bytes_drop zero s t = t
bytes_drop (suc n) [] t = refl
bytes_drop (suc n) (b ∷ s) t = bytes_drop n s (both (ltb b 256) (are_bytes s) t).1

module _ (s : List ℕ) (t : are_bytes s ≡ true) (at k : ℕ) (h : at + k ≤ length s) where
  -- so many bytes are there
  room : length (take k (drop at s)) ≡ k
  room = length-take-le k (drop at s) (rw (length-drop at s) (omega arith))

  -- bytes from the number in them
  pub field-bytes : little_bytes k (field s at k) ≡ take k (drop at s)
  field-bytes = ap (λ n. little_bytes n (field s at k)) (sym room) ∙ bytes_back (take k (drop at s)) (bytes_take k (drop at s) (bytes_drop at s t))

  -- which is below that power
  pub field_below : field s at k < 256 ^ k
  field_below = subst (λ n. field s at k < 256 ^ n) room (number-below (take k (drop at s)) (bytes_take k (drop at s) (bytes_drop at s t)))

-- bytes from the 16-bit numbers in them
pub words_bytes : (n : ℕ) (s : List ℕ) → are_bytes s ≡ true → length s ≡ 2 * n → flatten (map (little_bytes 2) (words_in s n)) ≡ s
words_bytes zero [] t l = refl
words_bytes zero (a ∷ s) t l = absurd (omega arith)
words_bytes (suc n) [] t l = absurd (omega arith)
words_bytes (suc n) (a ∷ []) t l = absurd (omega arith)
words_bytes (suc n) (a ∷ b ∷ s) t l =
    let u = both (ltb a 256) (ltb b 256 && are_bytes s) t in
    let v = both (ltb b 256) (are_bytes s) u.1 in
    let two : are_bytes (a ∷ b ∷ []) ≡ true = rw (u.0, v.0) refl in
    ap (λ w. flatten (map (little_bytes 2) w)) (words_front a b s n)
    ∙ ap₂ (λ (x : List ℕ) (y : List ℕ). x ++ y) (bytes_back (a ∷ b ∷ []) two) (words_bytes n s v.1 (omega arith))

-- which are 16-bit numbers
pub words_fit : (n : ℕ) (s : List ℕ) → are_bytes s ≡ true → length s ≡ 2 * n → all (λ v. ltb v 65536) (words_in s n) ≡ true
words_fit zero s t l = refl
words_fit (suc n) [] t l = absurd (omega arith)
words_fit (suc n) (a ∷ []) t l = absurd (omega arith)
words_fit (suc n) (a ∷ b ∷ s) t l =
    let u = both (ltb a 256) (ltb b 256 && are_bytes s) t in
    let v = both (ltb b 256) (are_bytes s) u.1 in
    let p : a < 256 = ltb-true a 256 u.0 in
    let q : b < 256 = ltb-true b 256 v.0 in
    ap (all (λ v. ltb v 65536)) (words_front a b s n)
    ∙ ap₂ (λ (x : Bool) (y : Bool). x && y) (lt-ltb (a + 256 * (b + 256 * 0)) 65536 (omega arith)) (words_fit n s v.1 (omega arith))
