-- A table of chains: of no item, of one more, and of items whose codes are known to be others' codes.
use Prim.Native.Nat.{ℕ, zero, suc, ◌+◌, ◌<◌, ◌≤◌}
use native.Mathlib.Omega.{arith}
use native.Mathlib.Numerals.{add-one}
use mathlib.Core.Path.{◌≡◌, refl, sym, ap, ap₂, subst, ◌∙◌}
use mathlib.Core.Bool.{cond}
use mathlib.Core.List.{List}
use lib.Dec.{eqb}
use lib.ListN.{length, get_or, set, replicate, get_or-replicate, length-set}
use lib.Seq.{get_or-set_same, get_or-set_other}
use borrow.Author.Tests.{eq-eqb, ne_eqb}
use Rattle.lists.proofs.Counts.{by_eq}
use Rattle.chains.specs.Chains.{last_below, Chained, entered}

-- ---- the last item of a code

-- the last one below n stands below n
pub last_le : (code : ℕ → ℕ) (c n : ℕ) → last_below code c n ≤ n
last_le code c zero = omega arith
last_le code c (suc n) = by_eq (code n) c
    (λ e. rw (eq-eqb (code n) c e) (omega arith))
    (λ d. rw (ne_eqb (code n) c d) (omega (arith, last_le code c n)))

-- it has the code
pub last_code : (code : ℕ → ℕ) (c n m : ℕ) → last_below code c n ≡ suc m → code m ≡ c
last_code code c zero m h = absurd (omega arith)
last_code code c (suc n) m h = by_eq (code n) c
    (λ e. let z : suc n ≡ suc m = sym (ap (λ b. cond b (suc n) (last_below code c n)) (eq-eqb (code n) c e)) ∙ h in
    ap code (omega arith) ∙ e)
    (λ d. last_code code c n m (sym (ap (λ b. cond b (suc n) (last_below code c n)) (ne_eqb (code n) c d)) ∙ h))

-- codes that are the same below n have the same last ones
pub last-same : (code code' : ℕ → ℕ) (c n : ℕ) → ((m : ℕ) → m < n → code m ≡ code' m) → last_below code c n ≡ last_below code' c n
last-same code code' c zero same = refl
last-same code code' c (suc n) same =
    ap₂ (λ k r. cond (eqb k c) (suc n) r) (same n (omega arith)) (last-same code code' c n (λ m h. same m (omega arith)))

-- ---- tables

-- no item
pub chained-none : (heads : ℕ) (code : ℕ → ℕ) (n : ℕ) → heads ≤ n → Chained heads code 0 (replicate n 0)
chained-none heads code n h = record {
  first = λ c q. get_or-replicate n c 0 0 (omega arith);
  next = λ m q. absurd (omega arith);
}

-- the same codes
pub chained_same : (heads : ℕ) (code code' : ℕ → ℕ) (count : ℕ) (table : List ℕ) → ((m : ℕ) → m < count → code m ≡ code' m)
    → Chained heads code count table → Chained heads code' count table
chained_same heads code code' count table same k = record {
  first = λ c q. k.first c q ∙ last-same code code' c count same;
  next = λ n q. k.next n q ∙ ap (λ c. last_below code c n) (same n q) ∙ last-same code code' (code' n) n (λ m h. same m (omega arith));
}

module _ (heads : ℕ) (code : ℕ → ℕ) (n : ℕ) (table : List ℕ) (k : Chained heads code n table) (c : ℕ) (is : code n ≡ c) (low : c < heads)
    (room : heads + n < length table) where
  -- the entry of the item
  abbrev linked : List ℕ
  linked = set table (heads + n) (get_or table c 0)

  -- one more item
  chained_more : Chained heads code (suc n) (entered heads c n table)
  chained_more = record {
    first = λ d q. by_eq d c
        (λ e. rw (e, get_or-set_same linked c (n + 1) 0 (omega (arith, length-set table (heads + n) (get_or table c 0))), eq-eqb (code n) c is) (add-one n))
        (λ o. get_or-set_other linked c d (n + 1) 0 o ∙ get_or-set_other table (heads + n) d (get_or table c 0) 0 (λ e. omega arith)
        ∙ k.first d q ∙ sym (ap (λ b. cond b (suc n) (last_below code d n)) (ne_eqb (code n) d (λ e. o (sym e ∙ is)))));
    next = λ m q. by_eq m n
        (λ e. rw e (get_or-set_other linked c (heads + n) (n + 1) 0 (λ z. omega arith) ∙ get_or-set_same table (heads + n) (get_or table c 0) 0 room
        ∙ k.first c low ∙ ap (λ d. last_below code d n) (sym is)))
        (λ o. get_or-set_other linked c (heads + m) (n + 1) 0 (λ z. omega arith) ∙ get_or-set_other table (heads + n) (heads + m) (get_or table c 0) 0 (λ z. o (omega arith))
        ∙ k.next m (omega arith));
  }

-- a chain goes down
pub chained_less : (heads : ℕ) (code : ℕ → ℕ) (count : ℕ) (table : List ℕ) → Chained heads code count table → (n : ℕ) → n < count → get_or table (heads + n) 0 ≤ n
chained_less heads code count table k n h = omega (arith, k.next n h, last_le code (code n) n)

-- one more item, as the code enters it
pub chained-next : (heads : ℕ) (code : ℕ → ℕ) (n : ℕ) (table table' : List ℕ) → Chained heads code n table → (c : ℕ) → c ≡ code n → code n < heads
    → heads + n < length table → table' ≡ entered heads c n table → Chained heads code (n + 1) table'
chained-next heads code n table table' k c is low room e =
    let m = chained_more heads code n table k c (sym is) (omega (arith, is)) room in
    subst (λ t. Chained heads code (n + 1) t) (sym e) (subst (λ z. Chained heads code z (entered heads c n table)) (sym (add-one n)) m)

-- and the table is as long as it was
pub length-entered : (heads c n : ℕ) (table table' : List ℕ) → table' ≡ entered heads c n table → length table' ≡ length table
length-entered heads c n table table' e =
    ap length e ∙ length-set (set table (heads + n) (get_or table c 0)) c (n + 1) ∙ length-set table (heads + n) (get_or table c 0)
