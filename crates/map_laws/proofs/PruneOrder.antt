-- The Rust's order is one of the orders: the nodes from the top of the stack, turn by turn. So pruning leaves what every order leaves.
use Prim.Native.Nat.{ℕ, zero, suc, ◌+◌, ◌*◌, ◌<◌, ◌≤◌}
use native.Mathlib.Omega.{arith}
use mathlib.Core.Path.{◌≡◌, refl, sym, ap, ap₂, ◌∙◌}
use mathlib.Core.Logic.{⊎_elim}
use mathlib.Core.Bool.{Bool, true, false, ◌&&◌, ◌||◌, not, and-false}
use mathlib.Core.List.{List, [], ◌∷◌, ◌++◌}
use lib.Dec.{eqb}
use lib.ListN.{length, get_or}
use borrow.Author.Tests.{eqb-true, eq-eqb, ne_eqb}
use Rattle.lists.specs.Lists.{below, pick, bit, count_of}
use Rattle.rules.specs.HalfEdge.{twin, edge_of}
use Rattle.rules.specs.Prune.{Pruning, take_from, turns, prune}
use Rattle.rules.specs.Counted.{unmarked, Stars, Counted}
use Rattle.map_laws.specs.AnyOrder.{edges_at, is_loose, take_end, take_ends, Same, AnyOrder, touching, edges_of}
use Rattle.lists.proofs.Counts.{by_test, by_eq, by_lt, true_is_false, count-below, count-below-past, length-below, in_head}
use Rattle.lists.proofs.Members.{pick_in, pick_yes, pick_no}
use Rattle.lists.proofs.Sums.{length-same}
use Rattle.lists.proofs.Tests.{or_right}
use Rattle.rules.proofs.Twin.{twin-twin, twin-first, edge-first, edge_same, edge-twin, edge-below}
use Rattle.rules.proofs.Pruning.{paired, paired-first, paired-second, paired-other, start, prune-is}
use Rattle.rules.proofs.Dangles.{Kept, count_at, count_off, half, dangle, kept-turn}
use Rattle.rules.proofs.PruneEnds.{turn-takes, turn-leaves, kept-start, prune-leaves}
use Rattle.map_laws.proofs.AnyOrder.{two_below, same_takes, done_below, all_orders}

-- ---- tests

-- the first passes
or_first : (a b : Bool) → a ≡ true → (a || b) ≡ true
or_first a b e = ap (λ x. x || b) e

-- one of two passes
or_cases : (a b : Bool) → (a || b) ≡ true → (a ≡ false → b ≡ true)
or_cases true b e f = absurd (true_is_false f)
or_cases false b e f = e

-- of two halves at most one starts at the node
two_halves : (u a b : Bool) → (a ≡ true → b ≡ true → ⊥) → bit (u && a) + bit (u && b) ≡ bit (u && (a || b))
two_halves true true true d = absurd (d refl refl)
two_halves true true false d = refl
two_halves true false true d = refl
two_halves true false false d = refl
two_halves false a b d = refl

-- half-edges at a node, and edges
halves-edges : (u : ℕ → Bool) (origin : ℕ → ℕ) (i e : ℕ) → ((k : ℕ) → k < e → u (2 * k + 1) ≡ u (2 * k)) → ((k : ℕ) → k < e → origin (2 * k) ≡ origin (2 * k + 1) → ⊥)
    → length (below (λ h. u h && eqb (origin h) i) (2 * e)) ≡ length (edges_at e (touching origin) (edges_of u) i)
halves-edges u origin i zero same apart = refl
halves-edges u origin i (suc e) same apart =
    let p : ℕ → Bool = λ h. u h && eqb (origin h) i in
    let q : ℕ → Bool = λ k. u (2 * k) && touching origin k i in
    let s : 2 * suc e ≡ suc (suc (2 * e)) = omega arith in
    let t : suc (2 * e) ≡ 2 * e + 1 = omega arith in
    let b : bit (p (suc (2 * e))) ≡ bit (u (2 * e) && eqb (origin (2 * e + 1)) i) = ap bit (ap p t ∙ ap (λ x. x && eqb (origin (2 * e + 1)) i) (same e (omega arith))) in
    let c : bit (p (2 * e)) + bit (u (2 * e) && eqb (origin (2 * e + 1)) i) ≡ bit (q e) =
    two_halves (u (2 * e)) (eqb (origin (2 * e)) i) (eqb (origin (2 * e + 1)) i)
    (λ x y. apart e (omega arith) (eqb-true (origin (2 * e)) i x ∙ sym (eqb-true (origin (2 * e + 1)) i y))) in
    let ih = halves-edges u origin i e (λ k l. same k (omega arith)) (λ k l. apart k (omega arith)) in
    rw s (omega (arith, ih, length-below p (suc (2 * e)), length-below p (2 * e), length-below q e, b, c))

-- ---- one turn

module _ (n e : ℕ) (star : ℕ → List ℕ) (origin : ℕ → ℕ) (g : Stars n e star origin) (apart : (k : ℕ) → k < e → origin (2 * k) ≡ origin (2 * k + 1) → ⊥) where
  -- the half-edges of a star that pass a test, without the star
  star-below : (p : ℕ → Bool) (i : ℕ) → i < n → length (pick p (star i)) ≡ length (below (λ h. p h && eqb (origin h) i) (2 * e))
  star-below p i li =
      let q : ℕ → Bool = λ h. p h && eqb (origin h) i in
      let none : (h : ℕ) → 2 * e ≤ h → count_of h (pick p (star i)) ≡ 0 = λ h l. by_eq (count_of h (pick p (star i))) 0 (λ z. z)
      (λ z. absurd (omega (arith, g.only i h li (pick_in p h (star i) (omega arith)).0))) in
      length-same (2 * e) (pick p (star i)) (below q (2 * e)) none (λ h. by_lt h (2 * e)
      (λ l. by_test (p h)
      (λ t. by_eq (origin h) i
      (λ o. pick_yes p h (star i) t ∙ count_at n e star origin g i h l o ∙ sym (count-below q (2 * e) h l ∙ ap₂ (λ a b. bit (a && b)) t (eq-eqb (origin h) i o)))
      (λ o. pick_yes p h (star i) t ∙ count_off n e star origin g i h li o ∙ sym (count-below q (2 * e) h l ∙ ap₂ (λ a b. bit (a && b)) t (ne_eqb (origin h) i o))))
      (λ t. pick_no p h (star i) t ∙ sym (count-below q (2 * e) h l ∙ ap (λ a. bit (a && eqb (origin h) i)) t)))
      (λ l. none h l ∙ sym (count-below-past q (2 * e) h l)))

  -- the graph's test
  abbrev touches : ℕ → ℕ → Bool
  touches = touching origin

  -- edges touch nodes only
  pub touches_nodes : (k i : ℕ) → k < e → touches k i ≡ true → i < n
  touches_nodes k i l t = by_eq (origin (2 * k)) i
      (λ o. rw (← o) (g.begins (2 * k) (omega arith)))
      (λ o.
      let q = eqb-true (origin (2 * k + 1)) i (or_cases (eqb (origin (2 * k)) i) (eqb (origin (2 * k + 1)) i) t (ne_eqb (origin (2 * k)) i o)) in
      rw (← q) (g.begins (2 * k + 1) (omega arith)))

  -- an edge touches the node where a half of it starts
  touches_half : (h k i : ℕ) → k ≡ edge_of h → origin h ≡ i → touches k i ≡ true
  touches_half h k i q o = ⊎_elim
      (λ z. or_first (eqb (origin (2 * k)) i) (eqb (origin (2 * k + 1)) i) (eq-eqb (origin (2 * k)) i (ap origin z ∙ o)))
      (λ z. or_right (eqb (origin (2 * k)) i) (eqb (origin (2 * k + 1)) i)
      (eq-eqb (origin (2 * k + 1)) i (ap origin (sym (twin-first k) ∙ ap twin z ∙ twin-twin h) ∙ o)))
      (edge_same (2 * k) h (edge-first k ∙ q))

  -- the unmarked edges
  abbrev left : List Bool → ℕ → Bool
  left marks = edges_of (unmarked marks)

  module _ (ds : List ℕ) (nm hm : List Bool) (c : Counted n e star ds nm hm) where
    -- degrees count the unmarked edges at a node
    degree-edges : (i : ℕ) → i < n → get_or ds i 0 ≡ length (edges_at e touches (left hm) i)
    degree-edges i l =
        c.counts i l ∙ star-below (unmarked hm) i l
        ∙ halves-edges (unmarked hm) origin i e (λ k m. ap not (ap (λ h. get_or hm h true) (sym (twin-first k)) ∙ c.twins (2 * k) (omega arith))) apart

    -- taking a node of degree 1 is a step
    taken_step : (t : ℕ) (lt : t < n) (one : get_or ds t 0 ≡ 1) → Same e (take_end e touches (left hm) t) (left (paired (half n e star origin g ds nm hm c t lt one) hm))
    unfolding take_end
    taken_step t lt one k l =
        let h = half n e star origin g ds nm hm c t lt one in
        let d = dangle n e star origin g ds nm hm c t lt one in
        let single : length (edges_at e touches (left hm) t) ≡ 1 = sym (degree-edges t lt) ∙ one in
        let loose : is_loose e touches (left hm) t ≡ true = eq-eqb (length (edges_at e touches (left hm) t)) 1 single in
        let free : get_or hm (2 * edge_of h) true ≡ false = ⊎_elim (λ z. rw z d.free) (λ z. rw z d.twin_free) (edge_same (2 * edge_of h) h (edge-first (edge_of h))) in
        by_eq k (edge_of h)
        (λ q.
        let gone : get_or (paired h hm) (2 * k) true ≡ true = ⊎_elim
        (λ z. rw z (paired-first h hm (omega (arith, c.half_room, d.low))))
        (λ z. rw z (paired-second h hm (omega (arith, c.half_room, d.twin_low))))
        (edge_same (2 * k) h (edge-first k ∙ q)) in
        (λ j. left hm k && not (touches_half h k t q d.from j && loose j)) ∙ and-false (left hm k) ∙ sym (ap not gone))
        (λ q.
        let same : left (paired h hm) k ≡ left hm k =
        ap not (paired-other h hm (2 * k) (λ z. q (sym (edge-first k) ∙ ap edge_of z)) (λ z. q (sym (edge-first k) ∙ ap edge_of z ∙ edge-twin h))) in
        by_test (left hm k)
        (λ s. by_test (touches k t)
        (λ y. absurd (omega (
          arith,
          two_below (λ j. left hm j && touches j t) e k (edge_of h) l (edge-below e h d.low) q (ap₂ (λ a b. a && b) s y)
              (ap₂ (λ a b. a && b) (ap not free) (touches_half h (edge_of h) t refl d.from)),
        )))
        (λ y. (λ j. s j && not (y j && loose j)) ∙ sym (same ∙ s)))
        (λ s. (λ j. s j && not (touches k t && loose j)) ∙ sym (same ∙ s)))

    -- a node of another degree is no loose end: the step there does nothing
    left_step : (t : ℕ) → t < n → (get_or ds t 0 ≡ 1 → ⊥) → Same e (take_end e touches (left hm) t) (left hm)
    unfolding take_end
    left_step t lt other k l =
        let firm : is_loose e touches (left hm) t ≡ false = ne_eqb (length (edges_at e touches (left hm) t)) 1 (λ z. other (degree-edges t lt ∙ z)) in
        by_test (left hm k)
        (λ s. (λ j. s j && not (touches k t && firm j)) ∙ ap not (and-false (touches k t)) ∙ sym s)
        (λ s. (λ j. s j && not (touches k t && firm j)) ∙ sym s)

  -- ---- the turns

  -- the node on top of the stack
  abbrev top : List ℕ → List ℕ
  top [] = []
  top (t ∷ ns) = t ∷ []

  -- the nodes that k turns take from it
  abbrev tops : ℕ → Pruning → List ℕ
  tops zero p = []
  tops (suc k) p = top p.stack ++ tops k (take_from star origin p.stack p)

  -- steps at the nodes of one list and then of another
  takes-append : (set : ℕ → Bool) (xs ys : List ℕ) → take_ends e touches set (xs ++ ys) ≡ take_ends e touches (take_ends e touches set xs) ys
  takes-append set [] ys = refl
  takes-append set (i ∷ xs) ys = takes-append (take_end e touches set i) xs ys

  module _ (old : List Bool) where
    -- a turn is a step
    turn_step : (l : List ℕ) (p : Pruning) → p.stack ≡ l → Kept n e star old p
        → Same e (take_ends e touches (left p.half_marks) (top l)) (left (take_from star origin l p).half_marks)
    turn_step [] p q k = λ i m. refl
    turn_step (t ∷ ns) p q k =
        let lt : t < n = k.waiting.nodes t (rw q (in_head t t ns refl)) in
        by_eq (get_or p.degrees t 0) 1
        (λ one i m. taken_step p.degrees p.node_marks p.half_marks k.counted t lt one i m
        ∙ sym (ap (λ r. left r.half_marks i) (turn-takes star origin t ns p one)))
        (λ other i m. left_step p.degrees p.node_marks p.half_marks k.counted t lt other i m
        ∙ sym (ap (λ r. left r.half_marks i) (turn-leaves star origin t ns p other)))

    -- turns are steps
    turns_steps : (k : ℕ) (p : Pruning) → Kept n e star old p → Same e (take_ends e touches (left p.half_marks) (tops k p)) (left (turns star origin k p).half_marks)
    turns_steps zero p q i m = refl
    turns_steps (suc k) p q i m =
        let next = take_from star origin p.stack p in
        ap (λ set. set i) (takes-append (left p.half_marks) (top p.stack) (tops k next))
        ∙ same_takes e touches (tops k next) (take_ends e touches (left p.half_marks) (top p.stack)) (left next.half_marks) (turn_step p.stack p refl q) i m
        ∙ turns_steps k next (kept-turn n e star origin g old p q) i m

  -- ---- the whole of pruning

  -- pruning is steps that leave no loose end, so it leaves what every order leaves
  pub prune_any_order : (ds : List ℕ) (nm hm : List Bool) → Counted n e star ds nm hm
      → AnyOrder e (touching origin) (edges_of (unmarked hm)) (edges_of (unmarked (prune star origin n e ds nm hm).half_marks))
  prune_any_order ds nm hm c =
      let p = prune star origin n e ds nm hm in
      let r = prune-leaves n e star origin g ds nm hm c in
      all_orders e touches n touches_nodes (left hm) (left p.half_marks) (tops (n + e) (start n ds nm hm))
      (λ i m. turns_steps hm (n + e) (start n ds nm hm) (kept-start n e star origin g ds nm hm c) i m
      ∙ sym (ap (λ x. left x.half_marks i) (prune-is star origin n e ds nm hm)))
      (done_below e touches n touches_nodes (left p.half_marks) (λ i l.
      ne_eqb (length (edges_at e touches (left p.half_marks) i)) 1 (λ z. r.bare i l (degree-edges p.degrees p.node_marks p.half_marks r.counted i l ∙ z))))
