-- What the stores of a new edge leave of the regions: two entries side by side, a degree raised, and the six floats of a segment.
use Prim.Native.Nat.{ℕ, ◌+◌, ◌<◌, ◌≤◌}
use native.Mathlib.Omega.{arith}
use mathlib.Core.Path.{◌≡◌, sym, ap, ◌∙◌}
use mathlib.Core.List.{List}
use lib.Ieee.{Float}
use lib.ListN.{get_or, take, drop, set}
use lib.Seq.{take-set-le, take-set-lt, drop-set-lt, drop-set-add, get_or-drop}
use Rattle.geometry.specs.declared.Line3D.{Line3D}
use Rattle.adding.specs.Written.{raised, two_at}
use Rattle.table_entries.specs.Written.{Raisable}

-- ---- two entries, at f and behind it

module _ {A : Type 0} (n : ℕ) (l : List A) (f : ℕ) (a b : A) where
  -- in the first region, up to n
  module _ (low : f + 1 < n) where
    pub front_two : take n (two_at l f a b) ≡ two_at (take n l) f a b
    front_two = take-set-lt n (set l f a) (f + 1) b low ∙ ap (λ t. set t (f + 1) b) (take-set-lt n l f a (omega arith))

    pub front_two_rest : drop n (two_at l f a b) ≡ drop n l
    front_two_rest = drop-set-lt n (set l f a) (f + 1) b low ∙ drop-set-lt n l f a (omega arith)

  -- in the last region, from n on
  pub tail_two : drop n (two_at l (n + f) a b) ≡ two_at (drop n l) f a b
  tail_two =
      let e : n + f + 1 ≡ n + (f + 1) = omega arith in
      ap (λ i. drop n (set (set l (n + f) a) i b)) e
      ∙ drop-set-add n (set l (n + f) a) (f + 1) b
      ∙ ap (λ t. set t (f + 1) b) (drop-set-add n l f a)

  -- in a region as long, right behind the first
  pub middle_two : f + 1 < n → take n (drop n (two_at l (n + f) a b)) ≡ two_at (take n (drop n l)) f a b
  middle_two low =
      ap (take n) tail_two ∙ take-set-lt n (set (drop n l) f a) (f + 1) b low ∙ ap (λ t. set t (f + 1) b) (take-set-lt n (drop n l) f a (omega arith))

  pub tail_two_rest : take n (two_at l (n + f) a b) ≡ take n l
  tail_two_rest = take-set-le n (set l (n + f) a) (n + f + 1) b (omega arith) ∙ take-set-le n l (n + f) a (omega arith)

-- ---- a degree, raised where it lies behind the star table

pub tail-raised : (n : ℕ) (l : List ℕ) (i : ℕ) → drop n (raised l (n + i)) ≡ raised (drop n l) i
tail-raised n l i = drop-set-add n l i (get_or l (n + i) 0 + 1) ∙ ap (λ d. set (drop n l) i (d + 1)) (sym (get_or-drop n l i 0))

pub tail_raisable : (n : ℕ) (l : List ℕ) (i : ℕ) → Raisable (drop n l) i → Raisable l (n + i)
tail_raisable n l i h = omega (arith, get_or-drop n l i 0)

-- ---- a segment

-- its six floats, from a place on
abbrev pub six_at : List Float → ℕ → Line3D → List Float
six_at t at g =
    set (set (set (set (set (set t at g.start.x) (at + 1) g.start.y) (at + 2) g.start.z) (at + 3) g.end.x) (at + 4) g.end.y) (at + 5) g.end.z

-- a store in the last region, from n on, after others
then : {A : Type 0} (n at i : ℕ) (l m : List A) (v : A) → drop n l ≡ m → drop n (set l (n + at + i) v) ≡ set m (at + i) v
then n at i l m v e =
    let p : n + at + i ≡ n + (at + i) = omega arith in
    ap (λ j. drop n (set l j v)) p ∙ drop-set-add n l (at + i) v ∙ ap (λ t. set t (at + i) v) e

module _ (l : List Float) (g : Line3D) where
  -- in the last region, from n on
  pub tail-six : (n at : ℕ) → drop n (six_at l (n + at) g) ≡ six_at (drop n l) at g
  tail-six n at =
      then n at 5 _ _ g.end.z (then n at 4 _ _ g.end.y (then n at 3 _ _ g.end.x (then n at 2 _ _ g.start.z (then n at 1 _ _ g.start.y
      (drop-set-add n l at g.start.x)))))

  -- what no store from a place on changes stays
  pub six-kept : (at : ℕ) {B : Type 0} (region : List Float → B) → ((t : List Float) (i : ℕ) (v : Float) → at ≤ i → region (set t i v) ≡ region t)
      → region (six_at l at g) ≡ region l
  six-kept at region kept =
      let on : (i : ℕ) → at ≤ at + i = λ i. omega arith in
      let from : at ≤ at = omega arith in
      kept _ _ _ (on 5) ∙ kept _ _ _ (on 4) ∙ kept _ _ _ (on 3) ∙ kept _ _ _ (on 2) ∙ kept _ _ _ (on 1) ∙ kept l at g.start.x from
