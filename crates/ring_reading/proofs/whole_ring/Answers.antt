-- `whole_ring` meets its contract, test by test.
use Prim.Native.Nat.{ℕ, ◌+◌, ◌*◌, ◌≤◌}
use native.Mathlib.Omega.{arith}
use mathlib.Core.Path.{◌≡◌, sym, ap, ◌∙◌}
use mathlib.Core.List.{List}
use lib.ListN.{length, take, drop, length-drop}
use lib.Seq.{drop-drop}
use Rattle.file_rules.specs.Records.{little_endian, field, taken, frame}
use Rattle.ring_reading.proofs.Records.{ring-frame, ring-none, ring-other, ring-taken}
use Rattle.ring_reading.proofs.whole_ring.Goals as goal

-- the count's bytes are there
room : (bytes : List ℕ) (at size : ℕ) → frame (drop at bytes) ≡ taken 2 size → at + 18 ≤ length bytes
room bytes at size e =
    let w = ring-frame (drop at bytes) size e in
    omega (arith, w.long, w.there, length-drop at bytes)

-- the count
count_at : (bytes : List ℕ) (at n : ℕ) → n ≡ field bytes (at + 8) 2 → field (drop at bytes) 8 2 ≡ n
count_at bytes at n e = ap (λ (l : List ℕ). little_endian (take 2 l)) (drop-drop 8 at bytes) ∙ sym e

pub overflow_add-at : goal.overflow_add-at
overflow_add-at c = let a = c.args in omega (arith, room a.bytes.now a.at a.size c.requires)

pub le16-requires : goal.le16-requires
le16-requires c = let a = c.args in omega (arith, room a.bytes.now a.at a.size c.requires)

pub returns-then-count-eq0 : goal.returns-then-count-eq0
returns-then-count-eq0 c =
    let a = c.args in
    sym (ring-none (drop a.at a.bytes.now) a.size c.requires (count_at a.bytes.now a.at _ (c.from-count.ensures ∙ c.le16.ensures) ∙ omega arith))

pub returns-then-size-count : goal.returns-then-size-count
returns-then-size-count c =
    let a = c.args in
    let n = c.from-count.result in
    let d : a.size ≡ 18 + 2 * n → ⊥ = λ e. omega arith in
    sym (ring-other (drop a.at a.bytes.now) a.size c.requires n (count_at a.bytes.now a.at n (c.from-count.ensures ∙ c.le16.ensures)) d)

pub returns : goal.returns
returns c =
    let a = c.args in
    let n = c.from-count.result in
    let some : n ≡ 0 → ⊥ = λ e. omega arith in
    sym (ring-taken (drop a.at a.bytes.now) a.size c.requires n (count_at a.bytes.now a.at n (c.from-count.ensures ∙ c.le16.ensures)) some (omega arith))
