-- Stamps that are set node by node.
use Prim.Native.Nat.{ℕ, ◌+◌, ◌<◌}
use native.Mathlib.Omega.{arith}
use mathlib.Core.Path.{◌≡◌, refl, sym, ap, ◌∙◌, subst}
use mathlib.Core.Bool.{true, cond}
use mathlib.Core.List.{List, [], ◌∷◌, ◌++◌}
use lib.ListN.{length, get_or, take, set, length-set}
use lib.Seq.{get_or-set_same, get_or-set_other}
use lib.Dec.{ltb}
use Rattle.lists.specs.Lists.{member, count_of}
use Rattle.lists.proofs.Counts.{by_eq, count-append, bit-same, bit-other}
use borrow.Author.Tests.{lt-ltb}
use Rattle.corners.specs.Nodes.{Stamped}
use Rattle.corners.proofs.Fronts.{front_more}

-- nothing is stamped yet
pub stamped_none : (stamp : ℕ) (table : List ℕ) → Stamped [] stamp table table
stamped_none stamp table = record { size = refl; each = λ n low. refl }

-- one node more
pub stamped_more : (l : List ℕ) (x stamp : ℕ) (table now : List ℕ) → x < length table → Stamped l stamp table now → Stamped (l ++ (x ∷ [])) stamp table (set now x stamp)
stamped_more l x stamp table now low s = record {
  size = length-set now x stamp ∙ s.size;
  each = λ n inside. by_eq n x (same n) (other n inside);
}
  where
    same : (n : ℕ) → n ≡ x → get_or (set now x stamp) n 0 ≡ cond (member n (l ++ (x ∷ []))) stamp (get_or table n 0)
    same n e =
        let yes : member n (l ++ (x ∷ [])) ≡ true = lt-ltb 0 (count_of n (l ++ (x ∷ []))) (omega (arith, count-append n l (x ∷ []), bit-same n x e)) in
        ap (λ k. get_or (set now x stamp) k 0) e ∙ get_or-set_same now x stamp 0 (omega (arith, low, s.size)) ∙ ap (λ b. cond b stamp (get_or table n 0)) (sym yes)

    other : (n : ℕ) → n < length table → (n ≡ x → ⊥) → get_or (set now x stamp) n 0 ≡ cond (member n (l ++ (x ∷ []))) stamp (get_or table n 0)
    other n inside d =
        let equal : count_of n l ≡ count_of n (l ++ (x ∷ [])) = omega (arith, count-append n l (x ∷ []), bit-other n x d) in
        get_or-set_other now x n stamp 0 d ∙ s.each n inside ∙ ap (λ k. cond (ltb 0 k) stamp (get_or table n 0)) equal

-- the next node of a list
pub stamped_next : (l : List ℕ) (k stamp : ℕ) (table now : List ℕ) → k < length l → get_or l k 0 < length table → Stamped (take k l) stamp table now
    → Stamped (take (k + 1) l) stamp table (set now (get_or l k 0) stamp)
stamped_next l k stamp table now more low s =
    subst (λ f. Stamped f stamp table (set now (get_or l k 0) stamp)) (sym (front_more l k more)) (stamped_more (take k l) (get_or l k 0) stamp table now low s)
