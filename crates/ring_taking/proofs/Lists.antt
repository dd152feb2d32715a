-- Rings and node numbers in lent lists: one more behind those that were written.
use Prim.Native.Nat.{ℕ, ◌+◌, ◌*◌, ◌<◌, ◌≤◌}
use native.Mathlib.Omega.{arith}
use native.Mathlib.Numerals.{add-one}
use mathlib.Core.Path.{◌≡◌, refl, sym, ap, ◌∙◌}
use mathlib.Core.List.{List, [], ◌∷◌, ◌++◌, map-append}
use lib.ListN.{length, drop, set, length-append, length-drop, length-map}
use Rattle.lists.specs.Lists.{upto, over}
use Rattle.lists.specs.Buffer.{written}
use Rattle.lists.proofs.Buffers.{written-length, written_row, written_byte}
use Rattle.lists.proofs.Members.{length-upto}
use Rattle.file_rules.specs.Records.{field}
use Rattle.file_rules.specs.RingFile.{FileRing, RingRecord, all_nodes, closed_up}
use Rattle.ring_taking.specs.Taken.{words_from}

-- a ring by its record, its node numbers from a place on
abbrev pub closed_at : ℕ → RingRecord → FileRing
closed_at place r = record { first = place; length = length r.nodes; face = r.face; doubled = r.doubled }

-- ---- node numbers

-- as many as asked for
pub words_count : (bytes : List ℕ) (at n : ℕ) → length (words_from bytes at n) ≡ n
words_count bytes at n = length-map (upto n) (λ i. field bytes (at + 2 * i) 2) ∙ length-upto n

-- one more of them
pub words_more : (bytes : List ℕ) (at place i : ℕ) (out : List ℕ) → place + i < length out
    → set (written place (words_from bytes at i) out) (place + i) (field bytes (at + 2 * i) 2) ≡ written place (words_from bytes at (i + 1)) out
words_more bytes at place i out h =
    let ns = words_from bytes at i in
    let x = field bytes (at + 2 * i) 2 in
    let n = words_count bytes at i in
    let room : place + length ns ≤ length out = omega (arith, n) in
    let here : place + length ns < length (written place ns out) = omega (arith, n, written-length place ns out room) in
    ap (λ (m : ℕ). set (written place ns out) (place + m) x) (sym n)
    ∙ written_byte (place + length ns) x (written place ns out) here
    ∙ written_row place ns (x ∷ []) out room
    ∙ ap (λ (l : List ℕ). written place l out) (sym (map-append (λ j. field bytes (at + 2 * j) 2) (upto i) (i ∷ [])) ∙ ap (words_from bytes at) (sym (add-one i)))

-- ---- a list written over the front of a lent one

-- a text from the first place on is one
pub written-front : (text out : List ℕ) → written 0 text out ≡ over text out
unfolding written
written-front text out = let z : 0 + length text ≡ length text = omega arith in ap (λ (n : ℕ). text ++ drop n out) z

-- one more entry behind
pub over_more : {A : Type 0} (xs : List A) (x : A) (out : List A) → length xs < length out → set (over xs out) (length xs) x ≡ over (xs ++ (x ∷ [])) out
over_more [] x [] h = absurd (omega arith)
over_more [] x (y ∷ out) h = refl
over_more (z ∷ xs) x [] h = absurd (omega arith)
over_more (z ∷ xs) x (y ∷ out) h = ap (λ l. z ∷ l) (over_more xs x out (omega arith))

-- the lent one keeps its length
pub over-length : {A : Type 0} (xs out : List A) → length xs ≤ length out → length (over xs out) ≡ length out
over-length xs out h = length-append xs (drop (length xs) out) ∙ omega (arith, length-drop (length xs) out)

-- ---- rings closed up

-- one more behind
pub closed_more : (first : ℕ) (done : List RingRecord) (r : RingRecord)
    → closed_up first (done ++ (r ∷ [])) ≡ closed_up first done ++ (closed_at (first + length (all_nodes done)) r ∷ [])
closed_more first [] r = let z : first ≡ first + 0 = omega arith in ap (λ (n : ℕ). closed_at n r ∷ []) z
closed_more first (q ∷ done) r =
    let e : first + length q.nodes + length (all_nodes done) ≡ first + length (all_nodes (q ∷ done)) = omega (arith, length-append q.nodes (all_nodes done)) in
    ap (λ l. closed_at first q ∷ l) (closed_more (first + length q.nodes) done r ∙ ap (λ (n : ℕ). closed_up (first + length q.nodes) done ++ (closed_at n r ∷ [])) e)
