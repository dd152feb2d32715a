-- Writing the new nodes and the new edge: the room for it, and the tables that it leaves.
use Prim.Native.Nat.{ℕ, ◌+◌, ◌<◌, ◌≤◌}
use native.Mathlib.Omega.{arith}
use mathlib.Core.Path.{◌≡◌, refl, sym, ap, subst}
use mathlib.Core.Bool.{Bool, true, false, cond}
use mathlib.Core.List.{List}
use lib.ListN.{length, get_or, set, length-set}
use lib.Seq.{get_or-set_same, get_or-set_other, set_out}
use Rattle.lists.proofs.Counts.{by_test, by_eq, by_lt}
use Rattle.rules.specs.Limits.{limits}
use Rattle.adding.specs.declared.Ends.{Ends}
use Rattle.adding.specs.Written.{entered, ends_entered, raised, Makeable}

-- how many nodes an end adds
abbrev one : Bool → ℕ
one b = cond b 1 0

-- ---- low degrees

-- a stored 0 reads as 0, or is out of the table
low-set : (d : List ℕ) (n m : ℕ) → get_or d m 0 < 65534 → get_or (set d n 0) m 0 < 65534
low-set d n m h = by_eq m n
    (λ e. by_lt n (length d)
    (λ q. rw e (rw (get_or-set_same d n 0 0 q) (omega arith)))
    (λ q. rw (set_out d n 0 q) h))
    (λ k. rw (get_or-set_other d n m 0 0 k) h)

-- a node that is entered keeps the degrees low
low-entered : (b : Bool) (d : List ℕ) (n m : ℕ) → get_or d m 0 < 65534 → get_or (entered b d n 0) m 0 < 65534
low-entered true d n m h = low-set d n m h
low-entered false d n m h = h

-- a new node has degree 0
low-new : (b : Bool) (d : List ℕ) (n : ℕ) → n < length d → (b ≡ false → get_or d n 0 < 65534) → get_or (entered b d n 0) n 0 < 65534
low-new true d n q h = rw (get_or-set_same d n 0 0 q) (omega arith)
low-new false d n q h = h refl

-- raising a degree raises it by one
raise_self : (d : List ℕ) (u : ℕ) → get_or d u 0 < 65534 → get_or (raised d u) u 0 < 65535
raise_self d u h = by_lt u (length d)
    (λ q. omega (arith, get_or-set_same d u (get_or d u 0 + 1) 0 q))
    (λ q. omega (arith, ap (λ t. get_or t u 0) (set_out d u (get_or d u 0 + 1) q)))

-- and leaves the others
raise_low : (d : List ℕ) (u v : ℕ) → get_or d u 0 < 65534 → get_or d v 0 < 65534 → get_or (raised d u) v 0 < 65535
raise_low d u v hu hv = by_eq v u
    (λ e. subst (λ z. get_or (raised d u) z 0 < 65535) (sym e) (raise_self d u hu))
    (λ k. omega (arith, get_or-set_other d u v (get_or d u 0 + 1) 0 k))

-- entering a node keeps the length
pub length-entered : {A : Type 0} (b : Bool) (t : List A) (n : ℕ) (a : A) → length (entered b t n a) ≡ length t
length-entered true t n a = length-set t n a
length-entered false t n a = refl

module _ (nodes edges : ℕ) (e : Ends) (d : List ℕ) (m : Makeable nodes edges e d) (room : limits.nodes ≤ length d) where
  -- the node of the start
  pub start-below : e.start.0 < limits.nodes
  start-below = by_test e.new_start
      (λ t. omega (arith, m.new_start_lem t, m.space, ap one t))
      (λ f. omega (arith, m.old_start f, m.space))

  -- and of the end
  pub end_below : e.end.0 < limits.nodes
  end_below = by_test e.new_end
      (λ t. omega (arith, m.new_end_lem t, m.space, ap one t))
      (λ f. omega (arith, m.old_end f, m.space))

  -- the degree of the start is low
  pub low-start : get_or (ends_entered e d 0 0) e.start.0 0 < 65534
  low-start = low-entered e.new_end (entered e.new_start d e.start.0 0) e.end.0 e.start.0
      (low-new e.new_start d e.start.0 (omega (arith, start-below)) (λ f. m.low e.start.0 (m.old_start f)))

  -- and that of the end
  low_end : get_or (ends_entered e d 0 0) e.end.0 0 < 65534
  low_end = low-new e.new_end (entered e.new_start d e.start.0 0) e.end.0
      (omega (arith, end_below, length-entered e.new_start d e.start.0 0))
      (λ f. low-entered e.new_start d e.start.0 e.end.0 (m.low e.end.0 (m.old_end f)))

  -- also after the start's was raised
  pub low-raised : get_or (raised (ends_entered e d 0 0) e.start.0) e.end.0 0 < 65535
  low-raised = raise_low (ends_entered e d 0 0) e.start.0 e.end.0 low-start low_end
