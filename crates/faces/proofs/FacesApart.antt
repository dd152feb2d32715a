-- No two rings have one face number, where no two begin with the same half-edge: of two rings one comes before the other, and has the lower number.
use Prim.Native.Nat.{ℕ, zero, suc, ◌<◌, ◌≤◌}
use native.Mathlib.Omega.{arith}
use mathlib.Core.Path.{◌≡◌, refl, sym, ap, ◌∙◌}
use mathlib.Core.Bool.{Bool, true, false}
use mathlib.Core.List.{List, [], ◌∷◌}
use lib.ListN.{length}
use Rattle.lists.specs.Lists.{bit}
use Rattle.lists.proofs.Counts.{by_test, by_eq, true_is_false}
use Rattle.rules.specs.Face.{Ring, face_before_lem, how_many, face_number_lem}
use Rattle.rules.specs.Holes.{ring_at}
use Rattle.faces.proofs.Rankings.{start_of, faces-one_way, faces-between, faces-total}

-- ---- how many pass a test

-- a test that passes what another does
abbrev Passes : (Ring → Bool) → (Ring → Bool) → Type 0
Passes p q = (r : Ring) → p r ≡ true → q r ≡ true

-- counts one where the other does
bit-passes : (a b : Bool) → (a ≡ true → b ≡ true) → bit a ≤ bit b
bit-passes true b h = omega (arith, ap bit (h refl))
bit-passes false b h = omega arith

-- so it passes no fewer
many_le : (p q : Ring → Bool) (rs : List Ring) → Passes p q → how_many p rs ≤ how_many q rs
many_le p q [] h = omega arith
many_le p q (r ∷ rs) h = omega (arith, bit-passes (p r) (q r) (h r), many_le p q rs h)

-- and more, where it passes one that the other does not
many_lt : (p q : Ring → Bool) (rs : List Ring) → Passes p q → (i : ℕ) → i < length rs → p (ring_at rs i) ≡ false → q (ring_at rs i) ≡ true → how_many p rs < how_many q rs
many_lt p q [] h i l e f = absurd (omega arith)
many_lt p q (r ∷ rs) h zero l e f = omega (arith, ap bit e, ap bit f, many_le p q rs h)
many_lt p q (r ∷ rs) h (suc i) l e f = omega (arith, bit-passes (p r) (q r) (h r), many_lt p q rs h i (omega arith) e f)

-- ---- the order of rings

-- no ring comes before itself
faces_self : (a : Ring) → face_before_lem a a ≡ false
faces_self a = by_test (face_before_lem a a) (λ e. faces-one_way a a e) (λ e. e)

-- what comes before a ring comes before what follows it
faces_pass : (a b : Ring) → face_before_lem a b ≡ true → Passes (λ s. face_before_lem s a) (λ s. face_before_lem s b)
faces_pass a b e s f = by_test (face_before_lem s b) (λ g. g) (λ g. absurd (true_is_false (sym (faces-between a s b e g) ∙ faces-one_way s a f)))

-- ---- face numbers

-- how many come before
number_is : (rs : List Ring) (r : Ring) → face_number_lem rs r ≡ how_many (λ s. face_before_lem s r) rs
unfolding face_number_lem
number_is rs r = refl

module _ (rs : List Ring) where
  -- a ring that comes before another has the lower number
  earlier_lower : (i : ℕ) (b : Ring) → i < length rs → face_before_lem (ring_at rs i) b ≡ true → face_number_lem rs (ring_at rs i) < face_number_lem rs b
  earlier_lower i b l e =
      let a = ring_at rs i in
      omega (arith, number_is rs a, number_is rs b, many_lt (λ s. face_before_lem s a) (λ s. face_before_lem s b) rs (faces_pass a b e) i l (faces_self a) e)

  -- no two that begin differently have one number
  pub numbers_apart : ((i j : ℕ) → i < length rs → j < length rs → start_of (ring_at rs i) ≡ start_of (ring_at rs j) → i ≡ j)
      → (i j : ℕ) → i < length rs → j < length rs → face_number_lem rs (ring_at rs i) ≡ face_number_lem rs (ring_at rs j) → i ≡ j
  numbers_apart starts i j k l e =
      let a = ring_at rs i in
      let b = ring_at rs j in
      by_eq i j (λ q. q) (λ d. by_test (face_before_lem a b)
      (λ f. absurd (omega (arith, e, earlier_lower i b k f)))
      (λ f. absurd (omega (arith, e, earlier_lower j a l (faces-total a b (λ q. d (starts i j k l q)) f)))))
