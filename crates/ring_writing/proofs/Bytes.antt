-- A number's bytes as those of its halves, and bytes one after another in a buffer.
use Prim.Native.Nat.{ℕ, ◌+◌, ◌*◌, ◌/◌, ◌%◌, ◌<◌, ◌≤◌}
use native.Mathlib.Omega.{arith}
use native.Mathlib.Numerals.{add-one}
use mathlib.Core.Path.{◌≡◌, refl, sym, ap, ◌∙◌, subst}
use mathlib.Core.List.{List, [], ◌∷◌, ◌++◌, map}
use lib.ListN.{length, get_or, drop, length-drop}
use lib.Seq.{length-take-le, get_or-take, get_or-drop, drop-cons, drop-length}
use mir.Syntax.{w64}
use Rattle.std.specs.Int.{w16, w32, to_le_bytes}
use Rattle.lists.specs.Lists.{flatten}
use Rattle.file_rules.proofs.ByteLaws.{length_words}
use Rattle.ring_writing.specs.Rings.{nodes_in}
use Rattle.lists.specs.Buffer.{Put}
use Rattle.lists.proofs.Buffers.{left-all, left_put, left-last}
use Rattle.file_rules.specs.Records.{little_bytes}

-- one text and then another
pub put_row : {at : ℕ} {a b old mid new : List ℕ} {p q : ℕ} → at + length (a ++ b) ≤ length old → Put at a old mid p → Put p b mid new q → Put at (a ++ b) old new q
put_row {at} {a} {b} {old} h one two = left-last two (left_put one (left-all at (a ++ b) old h))

-- the same text by another name
pub put_as : {at place : ℕ} {a b old new : List ℕ} → a ≡ b → Put at a old new place → Put at b old new place
put_as {at} {place} {a} {b} {old} {new} e p = subst (λ (l : List ℕ). Put at l old new place) e p

-- ---- a number's bytes

-- those that the library makes are the definition's
pub bytes_2 : (n : ℕ) → to_le_bytes w16 n ≡ little_bytes 2 n
bytes_2 n = refl

pub bytes_4 : (n : ℕ) → to_le_bytes w32 n ≡ little_bytes 4 n
bytes_4 n =
    let two : n / 65536 ≡ n / 256 / 256 = omega arith in
    let three : n / 16777216 ≡ n / 256 / 256 / 256 = omega arith in
    λ i. n % 256 ∷ n / 256 % 256 ∷ two i % 256 ∷ three i % 256 ∷ []

pub bytes_8 : (n : ℕ) → to_le_bytes w64 n ≡ little_bytes 8 n
bytes_8 n =
    let two : n / 65536 ≡ n / 256 / 256 = omega arith in
    let three : n / 16777216 ≡ n / 256 / 256 / 256 = omega arith in
    let four : n / 4294967296 ≡ n / 256 / 256 / 256 / 256 = omega arith in
    let five : n / 1099511627776 ≡ n / 256 / 256 / 256 / 256 / 256 = omega arith in
    let six : n / 281474976710656 ≡ n / 256 / 256 / 256 / 256 / 256 / 256 = omega arith in
    let seven : n / 72057594037927936 ≡ n / 256 / 256 / 256 / 256 / 256 / 256 / 256 = omega arith in
    λ i. n % 256 ∷ n / 256 % 256 ∷ two i % 256 ∷ three i % 256 ∷ four i % 256 ∷ five i % 256 ∷ six i % 256 ∷ seven i % 256 ∷ []

-- ---- node numbers

-- their bytes
abbrev pub words : List ℕ → List ℕ
words ns = flatten (map (little_bytes 2) ns)

module _ (nodes : List ℕ) (first count : ℕ) (h : first + count ≤ length nodes) where
  -- so many are there
  pub nodes-length : length (nodes_in nodes first count) ≡ count
  nodes-length = length-take-le count (drop first nodes) (rw (length-drop first nodes) (omega arith))

  -- with twice as many bytes
  pub words_length : length (words (nodes_in nodes first count)) ≡ 2 * count
  words_length = length_words (nodes_in nodes first count) ∙ ap (λ (n : ℕ). 2 * n) nodes-length

  -- from a place on: the one there, then those behind it
  pub words_from_lem : (i : ℕ) → i < count → words (drop i (nodes_in nodes first count)) ≡ little_bytes 2 (get_or nodes (first + i) 0) ++ words (drop (i + 1) (nodes_in nodes first count))
  words_from_lem i l =
      let k : i < length (nodes_in nodes first count) = subst (λ (n : ℕ). i < n) (sym nodes-length) l in
      let one : get_or (nodes_in nodes first count) i 0 ≡ get_or nodes (first + i) 0 = get_or-take count (drop first nodes) i 0 l ∙ get_or-drop first nodes i 0 in
      ap words (drop-cons (nodes_in nodes first count) i 0 k)
      ∙ (λ j. little_bytes 2 (one j) ++ words (drop (sym (add-one i) j) (nodes_in nodes first count)))

  -- behind the last there is none
  pub words_end : words (drop count (nodes_in nodes first count)) ≡ []
  words_end = ap (λ (n : ℕ). words (drop n (nodes_in nodes first count))) (sym nodes-length) ∙ ap words (drop-length (nodes_in nodes first count))
