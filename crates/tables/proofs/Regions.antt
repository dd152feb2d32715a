-- Laws of regions. A region is `take n (drop a l)`, the first of a slice `take n l`, the last `drop a l`: what a store leaves of it, what a
-- part of a slice is, and what a part that was lent and is back leaves.
use Prim.Native.Nat.{ℕ, ◌+◌, ◌-◌, ◌<◌, ◌≤◌}
use native.Mathlib.Omega.{arith}
use mathlib.Core.Path.{◌≡◌, ap, ◌∙◌}
use mathlib.Core.List.{List, ◌++◌, append-nil}
use lib.ListN.{length, take, drop, set, length-drop, drop_of_length-le}
use lib.Seq.{take_all, take_at, drop_at, length-take-le, take-set-le, take-set-lt, drop-set-lt, drop-set-add}
use borrow.Rule.Slice.PartMut.{put_mid, mid_len, take_put, drop_put}

-- the part `&s[a..]` is the last region
pub tail-is : {A : Type 0} (a : ℕ) (l : List A) → take (length l - a) (drop a l) ≡ drop a l
tail-is a l = take_all (length l - a) (drop a l) (simp length-drop (omega arith))

-- ---- a store; of the first and the last region, lib.Seq has these laws

module _ {A : Type 0} (a n : ℕ) (l : List A) (i : ℕ) (v : A) where
  -- in the region
  pub region_set-inside : i < n → take n (drop a (set l (a + i) v)) ≡ set (take n (drop a l)) i v
  region_set-inside h = ap (take n) (drop-set-add a l i v) ∙ take-set-lt n (drop a l) i v h

  -- before it
  pub region_set-before : i < a → take n (drop a (set l i v)) ≡ take n (drop a l)
  region_set-before h = ap (take n) (drop-set-lt a l i v h)

  -- behind it
  pub region_set-behind : a + n ≤ i → take n (drop a (set l i v)) ≡ take n (drop a l)
  region_set-behind h =
      let e : i ≡ a + (i - a) = omega arith in
      ap (λ j. take n (drop a (set l j v))) e ∙ ap (take n) (drop-set-add a l (i - a) v) ∙ take-set-le n (drop a l) (i - a) v (omega arith)

-- ---- a part that was lent, and is back with the entries w; `kept` is what the call says of their number

-- the first region, up to e
module _ {A : Type 0} (e : ℕ) (l w : List A) (room : e ≤ length l) (kept : length w ≡ length (take e l)) where
  pub front-inside : take e (put_mid 0 e l w) ≡ w
  front-inside = take_at w (drop e l) e (kept ∙ length-take-le e l room)

  pub front-behind : drop e (put_mid 0 e l w) ≡ drop e l
  front-behind = drop_at w (drop e l) e (kept ∙ length-take-le e l room)

-- a region from a up to e
module _ {A : Type 0} (a e : ℕ) (l w : List A) (up : a ≤ e) (room : e ≤ length l) (kept : length w ≡ length (take (e - a) (drop a l))) where
  pub part-inside : take (e - a) (drop a (put_mid a (e - a) l w)) ≡ w
  part-inside =
      ap (take (e - a)) (drop_at (take a l) (w ++ drop (e - a) (drop a l)) a (length-take-le a l (omega arith)))
      ∙ take_at w (drop (e - a) (drop a l)) (e - a) (kept ∙ mid_len a e l room)

  pub part-before : take a (put_mid a (e - a) l w) ≡ take a l
  part-before = take_put a (e - a) l w (omega arith)

  pub part-behind : drop e (put_mid a (e - a) l w) ≡ drop e l
  part-behind = drop_put a e l w up room (kept ∙ mid_len a e l room)

-- the last region, from a up to the slice's end
module _ {A : Type 0} (a : ℕ) (l w : List A) (room : a ≤ length l) where
  pub tail-inside : drop a (put_mid a (length l - a) l w) ≡ w
  tail-inside =
      let none : length (drop a l) ≤ length l - a = simp length-drop (omega arith) in
      drop_at (take a l) (w ++ drop (length l - a) (drop a l)) a (length-take-le a l room)
      ∙ ap (λ t. w ++ t) (drop_of_length-le (drop a l) none)
      ∙ append-nil w

  pub tail-before : take a (put_mid a (length l - a) l w) ≡ take a l
  tail-before = take_put a (length l - a) l w room
