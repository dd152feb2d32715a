-- Passing candidates by: the tables of least areas and of reaches grow by one place at a time.
use Prim.Native.Nat.{ℕ, suc, ◌+◌, ◌<◌, ◌≤◌}
use native.Mathlib.Omega.{arith}
use mathlib.Core.Path.{◌≡◌, sym, ap, subst, ◌∙◌}
use mathlib.Core.Bool.{true, false}
use mathlib.Core.List.{List}
use lib.IntN.{ℤ, pos}
use lib.ListN.{length, get_or, set}
use lib.Seq.{get_or-set_same, get_or-set_other}
use lib.Signed.{lt_z}
use Rattle.lists.proofs.Counts.{by_test, by_eq, by_lt, true_is_false}
use Rattle.rules.proofs.Orders.{order_int}
use Rattle.candidate_order.specs.Order.{number_in}
use Rattle.std.specs.Int.{int_min}
use Rattle.passing.specs.Passing.{LeastAreas, Within, Reaches, EndsBefore}
use Rattle.candidate_order.proofs.Ordering.{same_level}

module _ (numbers : List ℤ) (order : List ℕ) where
  -- ---- least areas

  -- none of the first k has an area below the lowest
  abbrev pub NoneBelow : ℕ → ℤ → Type 0
  NoneBelow k lowest = (i : ℕ) → i < k → lt_z (number_in numbers order i 4) lowest ≡ false

  -- one more that is lower is the lowest
  pub lowest-new : (k : ℕ) (lowest mine : ℤ) → mine ≡ number_in numbers order k 4 → lt_z mine lowest ≡ true → NoneBelow k lowest → NoneBelow (k + 1) mine
  lowest-new k lowest mine e f none i h = by_eq i k
      (λ q. (λ t. lt_z (number_in numbers order (q t) 4) mine) ∙ ap (λ z. lt_z z mine) (sym e) ∙ same_level mine)
      (λ d. order_int.goes_on_lem (number_in numbers order i 4) lowest mine (none i (omega arith)) (order_int.one_way mine lowest f))

  -- and one that is not leaves it
  pub lowest-old : (k : ℕ) (lowest mine : ℤ) → mine ≡ number_in numbers order k 4 → lt_z mine lowest ≡ false → NoneBelow k lowest → NoneBelow (k + 1) lowest
  lowest-old k lowest mine e f none i h = by_eq i k
      (λ q. (λ t. lt_z (number_in numbers order (q t) 4) lowest) ∙ ap (λ z. lt_z z lowest) (sym e) ∙ f)
      (λ d. none i (omega arith))

  -- so the lower of the two is the lowest
  pub lowest-min : (k : ℕ) (lowest mine : ℤ) → mine ≡ number_in numbers order k 4 → NoneBelow k lowest → NoneBelow (k + 1) (int_min lowest mine)
  lowest-min k lowest mine e none = by_test (lt_z mine lowest)
      (λ f. rw f (lowest-new k lowest mine e f none))
      (λ f. rw f (lowest-old k lowest mine e f none))

  -- the table with the lowest of the first k + 1 at place k
  pub least_more : (k : ℕ) (least : List ℤ) (lowest : ℤ) → k < length least → NoneBelow (k + 1) lowest → LeastAreas numbers order k least
      → LeastAreas numbers order (k + 1) (set least k lowest)
  least_more k least lowest room none old i p h low = by_eq p k
      (λ e. ap (λ q. lt_z (number_in numbers order i 4) (get_or (set least k lowest) q (pos 0))) e ∙ ap (lt_z (number_in numbers order i 4)) (get_or-set_same least k lowest (pos 0) room) ∙ none i (omega arith))
      (λ d. ap (lt_z (number_in numbers order i 4)) (get_or-set_other least k p lowest (pos 0) d) ∙ old i p h (omega arith))

  -- ---- reaches

  -- the right end of the candidate at a place
  abbrev right : ℕ → ℤ
  right place = number_in numbers order place 1

  -- a place alone
  pub within_self : (k : ℕ) → Within numbers order k k
  within_self k i h g = let e : i ≡ k = omega arith in ap (λ p. lt_z (right k) (right p)) e ∙ same_level (right k)

  -- further back by the reach of the one before, which goes no further to the right
  pub within-back : (k from last : ℕ) → suc last ≡ from → lt_z (right k) (right last) ≡ false → (back : ℕ) → Within numbers order back last → Within numbers order from k
      → Within numbers order back k
  within-back k from last e f back old new i h g = by_lt last i
      (λ m. new i (omega arith) g)
      (λ m. order_int.goes_on_lem (right k) (right last) (right i) f (old i h m))

  -- the table with one place more
  pub reaches_more : (k from : ℕ) (reaches : List ℕ) → k < length reaches → from ≤ k → Within numbers order from k → Reaches numbers order k reaches
      → Reaches numbers order (k + 1) (set reaches k from)
  reaches_more k from reaches room low new old = record {
    back = λ p h. by_eq p k
        (λ e. subst (λ v. v ≤ p) (sym (here p e)) (omega arith))
        (λ d. subst (λ v. v ≤ p) (sym (there p d)) (old.back p (omega arith)));
    within = λ p h. by_eq p k
        (λ e. subst (λ v. Within numbers order v p) (sym (here p e)) (subst (Within numbers order from) (sym e) new))
        (λ d. subst (λ v. Within numbers order v p) (sym (there p d)) (old.within p (omega arith)));
  }
    where
      here : (p : ℕ) → p ≡ k → get_or (set reaches k from) p 0 ≡ from
      here p e = ap (λ q. get_or (set reaches k from) q 0) e ∙ get_or-set_same reaches k from 0 room

      there : (p : ℕ) → (p ≡ k → ⊥) → get_or (set reaches k from) p 0 ≡ get_or reaches p 0
      there p d = get_or-set_other reaches k p from 0 d

  -- where the one at k ends to the left of x, so do those that reach no further
  pub ends-before : (x : ℤ) (from k : ℕ) → Within numbers order from k → lt_z (right k) x ≡ true → EndsBefore numbers order x from k
  ends-before x from k within e i h g = by_test (lt_z (right i) x) (λ f. f)
      (λ f. absurd (true_is_false (sym e ∙ order_int.goes_on_lem (right k) (right i) x (within i h (omega arith)) f)))
