-- The walk along a ring's lines, one at a time: what is left of it answers as the whole does.
use Rattle.std.proofs.Common.{◌≡◌, ℕ, suc, ◌+◌, ◌-◌, ◌<◌, Bool, not, List, [], ◌∷◌, length, get_or, drop, sym, refl, ap, ◌∙◌, subst, add-one, arith, drop-cons}
use lib.Seq.{drop-length}
use Rattle.lists.specs.Lists.{last_of, In}
use Rattle.lists.proofs.Members.{in_at}
use Rattle.geometry.specs.Angle.{Point}
use Rattle.inside.specs.Meeting.{meets_of}
use Rattle.inside.specs.Standing.{ended, after, stands_from}
use Rattle.inside.specs.declared.lines.Meets.{Meets}
use Rattle.inside.specs.declared.lines.Meets.TheVariants.{OnLine, Right, Apart}
use Rattle.inside.specs.declared.rings.Stands.TheVariants.{OnRing}

-- ---- the last node

last_of_lem : (x : ℕ) (l : List ℕ) → get_or (x ∷ l) (length l) 0 ≡ last_of x l
last_of_lem x [] = refl
last_of_lem x (y ∷ l) = last_of_lem y l

-- it stands at the last place
pub last-at : (l : List ℕ) → 0 < length l → get_or l (length l - 1) 0 ≡ last_of 0 l
last-at [] h = absurd (omega arith)
last-at (x ∷ l) h = let e : length (x ∷ l) - 1 ≡ length l = omega arith in ap (λ n. get_or (x ∷ l) n 0) e ∙ last_of_lem x l

-- and is one of them
pub last_in : (l : List ℕ) → 0 < length l → In (last_of 0 l) l
last_in l h = subst (λ n. In n l) (last-at l h) (in_at l (length l - 1) (omega arith))

-- ---- one line

module _ (at : ℕ → Point) (p : Point) (odd : Bool) (a : ℕ) (l : List ℕ) (k : ℕ) where
  -- none is left
  pub stands-end : k ≡ length l → stands_from at p odd a (drop k l) ≡ ended odd
  stands-end e = rw (e, drop-length l) refl

  module _ (more : k < length l) where
    -- the next one decides
    next : (m : Meets) → meets_of (at a) (at (get_or l k 0)) p ≡ m
        → stands_from at p odd a (drop k l) ≡ after m (stands_from at p (not odd) (get_or l k 0) (drop (k + 1) l)) (stands_from at p odd (get_or l k 0) (drop (k + 1) l))
    next m e =
        let b = get_or l k 0 in
        ap (stands_from at p odd a) (drop-cons l k 0 more)
        ∙ ap (λ n. after n (stands_from at p (not odd) b (drop (suc k) l)) (stands_from at p odd b (drop (suc k) l))) e
        ∙ ap (λ n. after m (stands_from at p (not odd) b (drop n l)) (stands_from at p odd b (drop n l))) (sym (add-one k))

    -- the point lies on it
    pub stands_on : meets_of (at a) (at (get_or l k 0)) p ≡ OnLine → stands_from at p odd a (drop k l) ≡ OnRing
    stands_on e = next OnLine e

    -- it crosses to the right
    pub stands-right : meets_of (at a) (at (get_or l k 0)) p ≡ Right → stands_from at p (not odd) (get_or l k 0) (drop (k + 1) l) ≡ stands_from at p odd a (drop k l)
    stands-right e = sym (next Right e)

    -- or neither
    pub stands-apart : meets_of (at a) (at (get_or l k 0)) p ≡ Apart → stands_from at p odd (get_or l k 0) (drop (k + 1) l) ≡ stands_from at p odd a (drop k l)
    stands-apart e = sym (next Apart e)
