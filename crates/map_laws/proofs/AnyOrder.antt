-- Pruning in any order leaves the same edges: the largest set in which each touched node has two or more.
use Prim.Native.Nat.{ℕ, zero, suc, ◌<◌, ◌≤◌}
use native.Mathlib.Omega.{arith}
use mathlib.Core.Path.{◌≡◌, sym, ap, ap₂, subst, ◌∙◌}
use mathlib.Core.Logic.{◌⊎◌, inl, inr, ⊎_elim}
use mathlib.Core.Bool.{Bool, true, false, ◌&&◌, not}
use mathlib.Core.List.{List, [], ◌∷◌}
use lib.ListN.{length, get_or}
use lib.Dec.{eqb}
use borrow.Author.Tests.{eqb-true, eqb-false}
use Rattle.lists.specs.Lists.{below, bit}
use Rattle.map_laws.specs.AnyOrder.{edges_at, is_loose, take_end, take_ends, Done, Firm, Within, Same, Largest, AnyOrder}
use Rattle.lists.proofs.Counts.{by_test, by_eq, by_lt, true_is_false, below_agree, length-below, below_less}
use Rattle.lists.proofs.Members.{below-place}
use Rattle.lists.proofs.Tests.{both}
use Rattle.rules.proofs.Values.{bit_implied}

-- ---- tests of numbers below n

-- passes no more numbers
sub-below : (p q : ℕ → Bool) (n : ℕ) → ((k : ℕ) → k < n → p k ≡ true → q k ≡ true) → length (below p n) ≤ length (below q n)
sub-below p q zero h = omega arith
sub-below p q (suc n) h = omega (
  arith,
  sub-below p q n (λ k l. h k (omega arith)),
  length-below p n,
  length-below q n,
  bit_implied (p n) (q n) (h n (omega arith)),
)

-- and fewer, where one passes only the other
less_below : (p q : ℕ → Bool) (n : ℕ) → ((k : ℕ) → k < n → p k ≡ true → q k ≡ true) → (j : ℕ) → j < n → p j ≡ false → q j ≡ true
    → length (below p n) < length (below q n)
less_below p q zero h j l a b = absurd (omega arith)
less_below p q (suc n) h j l a b = by_eq j n
    (λ e. omega (
      arith,
      sub-below p q n (λ k m. h k (omega arith)),
      length-below p n,
      length-below q n,
      ap bit (subst (λ z. p z ≡ false) e a),
      ap bit (subst (λ z. q z ≡ true) e b),
    ))
    (λ d. omega (
      arith,
      less_below p q n (λ k m. h k (omega arith)) j (omega arith) a b,
      length-below p n,
      length-below q n,
      bit_implied (p n) (q n) (h n (omega arith)),
    ))

-- two numbers pass
pub two_below : (p : ℕ → Bool) (n j k : ℕ) → j < n → k < n → (j ≡ k → ⊥) → p j ≡ true → p k ≡ true → 1 < length (below p n)
two_below p n j k lj lk d a b = by_lt j k
    (λ h. omega (arith, below_less p j k h a, below_less p k n lk b))
    (λ h. omega (arith, below_less p k j (omega arith) b, below_less p j n lj a))

-- none below n passes, or one does
seek : (p : ℕ → Bool) (n : ℕ) → ((i : ℕ) → i < n → p i ≡ false) ⊎ ((i : ℕ) × (p i ≡ true))
seek p zero = inl (λ i l. absurd (omega arith))
seek p (suc n) = ⊎_elim
    (λ none. by_test (p n) (λ e. inr (n, e)) (λ e. inl (λ i l. by_eq i n (λ q. rw q e) (λ d. none i (omega arith)))))
    (λ r. inr r) (seek p n)

-- ---- steps

module _ (edges : ℕ) (touches : ℕ → ℕ → Bool) where
  -- sets with the same edges have as many at each node
  pub same_at : (set other : ℕ → Bool) → Same edges set other → (i : ℕ) → edges_at edges touches set i ≡ edges_at edges touches other i
  same_at set other e i = below_agree (λ k. set k && touches k i) (λ k. other k && touches k i) edges (λ k l. ap (λ b. b && touches k i) (e k l))

  -- and are left the same by a step
  same-take : (set other : ℕ → Bool) (i : ℕ) → Same edges set other → Same edges (take_end edges touches set i) (take_end edges touches other i)
  unfolding take_end
  same-take set other i e k l = ap₂ (λ b n. b && not (touches k i && eqb n 1)) (e k l) (ap length (same_at set other e i))

  -- by steps
  pub same_takes : (order : List ℕ) (set other : ℕ → Bool) → Same edges set other → Same edges (take_ends edges touches set order) (take_ends edges touches other order)
  same_takes [] set other e = e
  same_takes (i ∷ order) set other e = same_takes order (take_end edges touches set i) (take_end edges touches other i) (same-take set other i e)

  -- a step adds no edge
  take_within : (set : ℕ → Bool) (i : ℕ) → Within edges (take_end edges touches set i) set
  unfolding take_end
  take_within set i k l e = (both (set k) (not (touches k i && is_loose edges touches set i)) e).0

  -- nor do steps
  takes-within : (order : List ℕ) (set : ℕ → Bool) → Within edges (take_ends edges touches set order) set
  takes-within [] set k l e = e
  takes-within (i ∷ order) set k l e = take_within set i k l (takes-within order (take_end edges touches set i) k l e)

  -- a set in which each touched node has two or more loses no edge by a step: a loose end of the larger set has none of the smaller
  firm-take : (set firm : ℕ → Bool) (i : ℕ) → Firm edges touches firm → Within edges firm set → Within edges firm (take_end edges touches set i)
  unfolding take_end
  firm-take set firm i two sub k l e = by_test (touches k i && is_loose edges touches set i)
      (λ t.
      let r = both (touches k i) (is_loose edges touches set i) t in
      let one : length (edges_at edges touches set i) ≡ 1 = eqb-true (length (edges_at edges touches set i)) 1 r.1 in
      let some = below_less (λ j. firm j && touches j i) k edges l (ap₂ (λ a b. a && b) e r.0) in
      absurd (omega (
        arith,
        two i (omega arith),
        sub-below (λ j. firm j && touches j i) (λ j. set j && touches j i) edges
            (λ j m z. let w = both (firm j) (touches j i) z in ap₂ (λ a b. a && b) (sub j m w.0) w.1),
      )))
      (λ t. ap₂ (λ a b. a && not b) (sub k l e) t)

  -- nor by steps
  firm-takes : (order : List ℕ) (set firm : ℕ → Bool) → Firm edges touches firm → Within edges firm set → Within edges firm (take_ends edges touches set order)
  firm-takes [] set firm two sub = sub
  firm-takes (i ∷ order) set firm two sub = firm-takes order (take_end edges touches set i) firm two (firm-take set firm i two sub)

  -- where no loose end is left, each touched node has two or more
  done-firm : (set : ℕ → Bool) → Done edges touches set → Firm edges touches set
  done-firm set done i some = omega (arith, eqb-false (length (edges_at edges touches set i)) 1 (done i))

  -- and the same with other sets of the same edges
  pub same-done : (set other : ℕ → Bool) → Same edges set other → Done edges touches set → Done edges touches other
  same-done set other e done i = ap (λ l. eqb (length l) 1) (sym (same_at set other e i)) ∙ done i

  -- so what such an order leaves is the largest set
  pub takes-largest : (start : ℕ → Bool) (order : List ℕ) → Done edges touches (take_ends edges touches start order)
      → Largest edges touches start (take_ends edges touches start order)
  takes-largest start order done = record {
    within = takes-within order start;
    firm = done-firm (take_ends edges touches start order) done;
    holds = λ other sub two. firm-takes order start other two sub;
  }

  -- of which there is one
  pub largest-one : (start set other : ℕ → Bool) → Largest edges touches start set → Largest edges touches start other → Same edges set other
  largest-one start set other a b k l = by_test (set k)
      (λ e. e ∙ sym (b.holds set a.within a.firm k l e))
      (λ e. by_test (other k) (λ f. absurd (true_is_false (sym (a.holds other b.within b.firm k l f) ∙ e))) (λ f. e ∙ sym f))

  -- two orders that leave no loose end leave the same
  pub two_orders : (start : ℕ → Bool) (order other : List ℕ) → Done edges touches (take_ends edges touches start order)
      → Done edges touches (take_ends edges touches start other) → Same edges (take_ends edges touches start order) (take_ends edges touches start other)
  two_orders start order other a b =
      largest-one start (take_ends edges touches start order) (take_ends edges touches start other) (takes-largest start order a) (takes-largest start other b)

  -- whichever test says which edges a set has
  pub same-largest : (start set other : ℕ → Bool) → Same edges set other → Largest edges touches start set → Largest edges touches start other
  same-largest start set other e a = record {
    within = λ k l f. a.within k l (e k l ∙ f);
    firm = λ i some. let q = ap length (same_at set other e i) in omega (arith, a.firm i (omega arith));
    holds = λ third sub two k l f. sym (e k l) ∙ a.holds third sub two k l f;
  }

  -- ---- there is an order that leaves no loose end, if the nodes are numbered below n

  module _ (n : ℕ) (nodes : (k i : ℕ) → k < edges → touches k i ≡ true → i < n) where
    -- a loose end has an edge
    loose_edge : (set : ℕ → Bool) (i : ℕ) → is_loose edges touches set i ≡ true → (k : ℕ) × (k < edges) × (set k ≡ true) × (touches k i ≡ true)
    loose_edge set i t =
        let r = below-place (λ k. set k && touches k i) edges 0 (omega (arith, eqb-true (length (edges_at edges touches set i)) 1 t)) in
        let k : ℕ = get_or (edges_at edges touches set i) 0 0 in
        let q = both (set k) (touches k i) r.1 in
        (k, r.0, q.0, q.1)

    -- past the nodes there is none
    past : (set : ℕ → Bool) (i : ℕ) → n ≤ i → is_loose edges touches set i ≡ false
    past set i l = by_test (is_loose edges touches set i) (λ t. let r = loose_edge set i t in absurd (omega (arith, nodes r.0 i r.1 r.3))) (λ t. t)

    -- a step there leaves fewer edges
    take_less : (set : ℕ → Bool) (i : ℕ) → is_loose edges touches set i ≡ true → length (below (take_end edges touches set i) edges) < length (below set edges)
    unfolding take_end
    take_less set i t =
        let r = loose_edge set i t in
        less_below (take_end edges touches set i) set edges (take_within set i) r.0 r.1 (λ j. r.2 j && not (r.3 j && t j)) r.2

    -- so steps at loose ends come to an end
    finish_in : (m : ℕ) (set : ℕ → Bool) → length (below set edges) ≤ m → (more : List ℕ) × Done edges touches (take_ends edges touches set more)
    finish_in zero set l = ([], λ i. by_test (is_loose edges touches set i) (λ t. absurd (omega (arith, take_less set i t))) (λ t. t))
    finish_in (suc m) set l = ⊎_elim
        (λ none. ([], λ i. by_lt i n (none i) (past set i)))
        (λ r. let rest = finish_in m (take_end edges touches set r.0) (omega (arith, take_less set r.0 r.1)) in (r.0 ∷ rest.0, rest.1))
        (seek (is_loose edges touches set) n)

    -- from any set
    pub finish : (set : ℕ → Bool) → (more : List ℕ) × Done edges touches (take_ends edges touches set more)
    finish set = finish_in (length (below set edges)) set (omega arith)

    -- no loose end among the nodes, none at all
    pub done_below : (set : ℕ → Bool) → ((i : ℕ) → i < n → is_loose edges touches set i ≡ false) → Done edges touches set
    done_below set none i = by_lt i n (none i) (past set i)

    -- an order that leaves the edges `left`, and no loose end, makes them the same for every order
    pub all_orders : (start left : ℕ → Bool) (order : List ℕ) → Same edges (take_ends edges touches start order) left → Done edges touches left
        → AnyOrder edges touches start left
    all_orders start left order same done =
        let largest = same-largest start (take_ends edges touches start order) left same
        (takes-largest start order (same-done left (take_ends edges touches start order) (λ k l. sym (same k l)) done)) in
        record {
          order = order;
          leaves = same;
          ended = done;
          every = λ other end. largest-one start (take_ends edges touches start other) left (takes-largest start other end) largest;
          finish = λ other. finish (take_ends edges touches start other);
          largest = largest;
        }

    -- so it is with other tests of the same edges
    pub same_any_order : (start left begin rest : ℕ → Bool) → Same edges begin start → Same edges left rest → AnyOrder edges touches start left
        → AnyOrder edges touches begin rest
    same_any_order start left begin rest a b r =
        all_orders begin rest r.order (λ k l. same_takes r.order begin start a k l ∙ r.leaves k l ∙ b k l) (same-done left rest b r.ended)
