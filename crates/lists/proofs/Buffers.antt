-- Texts in a buffer: one after another, and byte by byte.
use mathlib.Core.Path.{◌≡◌, refl, sym, ap, ◌∙◌}
use mathlib.Core.List.{List, [], ◌∷◌, ◌++◌, append_assoc, append-nil}
use Prim.Native.Nat.{ℕ, suc, ◌+◌, ◌<◌, ◌≤◌}
use native.Mathlib.Omega.{arith}
use lib.ListN.{length, take, drop, set, length-append, length-drop, length-set, take-append-drop}
use lib.Seq.{length-take-le, take_at, drop-drop, drop-append-add, take-set-le, drop-set-lt, drop-cons, set_split, get_or-set_same, take-length, append_snoc, paste}
use Rattle.lists.specs.Buffer.{written, Put}

-- what stands before the end of a written text
front_length : (at : ℕ) (text out : List ℕ) → at ≤ length out → length (take at out ++ text) ≡ at + length text
front_length at text out h = rw (length-append, length-take-le at out h)

-- a buffer keeps its length
pub written-length : (at : ℕ) (text out : List ℕ) → at + length text ≤ length out → length (written at text out) ≡ length out
unfolding written
written-length at text out h =
    let l : at ≤ length out = omega arith in
    rw (length-append, front_length at text out l, length-drop) (omega arith)

-- no text changes nothing
pub written_none : (at : ℕ) (out : List ℕ) → written at [] out ≡ out
unfolding written
written_none at out =
    let z : at + 0 ≡ at = omega arith in
    rw (append-nil, z) (take-append-drop at out)

-- a text and then another are the two in a row
pub written_row : (at : ℕ) (a b out : List ℕ) → at + length a ≤ length out → written (at + length a) b (written at a out) ≡ written at (a ++ b) out
unfolding written
written_row at a b out h =
    let l : at ≤ length out = omega arith in
    let f = take at out ++ a in
    let e : length f ≡ at + length a = front_length at a out l in
    let s : at + length a + length b ≡ length f + length b = omega arith in
    let t : at + length a + length b ≡ at + (length a + length b) = omega arith in
    rw (take_at f (drop (at + length a) out) (at + length a) e, s, drop-append-add f (drop (at + length a) out) (length b), drop-drop (length b) (at + length a) out, t, length-append a b, append_assoc (take at out) a b)

-- one byte is a store
pub written_byte : (at d : ℕ) (out : List ℕ) → at < length out → set out at d ≡ written at (d ∷ []) out
unfolding written
written_byte at d out h =
    let s : at + 1 ≡ suc at = omega arith in
    rw (set_split out at d h, s, append_assoc)

-- a last byte that is stored first
pub written_last : (at d : ℕ) (text out : List ℕ) → at + length text < length out → written at text (set out (at + length text) d) ≡ written at (text ++ (d ∷ [])) out
unfolding written
written_last at d text out h =
    let k : at ≤ at + length text = omega arith in
    let l : at + length text < length (set out (at + length text) d) = rw length-set h in
    let s : at + (length text + 1) ≡ suc (at + length text) = omega arith in
    let q : at + length text < suc (at + length text) = omega arith in
    rw (take-set-le at out (at + length text) d k, drop-cons (set out (at + length text) d) (at + length text) 0 l, get_or-set_same out (at + length text) d 0 h, drop-set-lt (suc (at + length text)) out (at + length text) d q, length-append text (d ∷ []), s, ← append_assoc (take at out) text (d ∷ []), append_snoc (take at out ++ text) d (drop (suc (at + length text)) out))

-- a copy of all of a text
pub paste_all : (out : List ℕ) (at : ℕ) (text : List ℕ) → paste out at text (length text) ≡ written at text out
unfolding written
paste_all out at text = rw (take-length text)

-- What is left of a text on the way: written from here, the rest gives what the whole does from the start.
pub record Left (at : ℕ) (text old : List ℕ) (place : ℕ) (rest new : List ℕ) : Type 0 where
  pub same : written place rest new ≡ written at text old
  pub ends : place + length rest ≡ at + length text
  pub long : length new ≡ length old
  pub fits : at + length text ≤ length old

-- at the start all of it is left
pub left-all : (at : ℕ) (text old : List ℕ) → at + length text ≤ length old → Left at text old at text old
left-all at text old h = record { same = refl; ends = refl; long = refl; fits = h }

module _ {at : ℕ} {text old : List ℕ} {place : ℕ} where
  -- what is left fits
  pub left-room : {rest new : List ℕ} → Left at text old place rest new → place + length rest ≤ length new
  left-room l = omega arith

  -- and so does its first part
  pub left-fits : (part rest : List ℕ) {new : List ℕ} → Left at text old place (part ++ rest) new → place + length part ≤ length new
  left-fits part rest l = omega (arith, length-append part rest)

  -- a part is put, and the rest is left
  pub left_put : {after : ℕ} {part rest new newer : List ℕ} → Put place part new newer after → Left at text old place (part ++ rest) new → Left at text old after rest newer
  left_put {after} {part} {rest} {new} {newer} p l =
      let f = left-fits part rest l in
      record {
        same = rw (p.after, p.buffer) (written_row place part rest new f ∙ l.same);
        ends = omega (arith, length-append part rest);
        long = ap length p.buffer ∙ written-length place part new f ∙ l.long;
        fits = l.fits;
      }

  -- the last part is put, and so is the whole
  pub left-last : {after : ℕ} {rest new newer : List ℕ} → Put place rest new newer after → Left at text old place rest new → Put at text old newer after
  left-last p l = record { buffer = p.buffer ∙ l.same; after = p.after ∙ l.ends }

  -- nothing is left: the whole is put
  pub left-none : {new : List ℕ} → Left at text old place [] new → Put at text old new place
  left-none {new} l = record { buffer = sym (written_none place new) ∙ l.same; after = omega arith }
