-- Fills from every seed that no fill has reached, in the order of seeds: one for each piece, from the node that comes before its others.
use Prim.Native.Nat.{ℕ, suc, ◌+◌, ◌<◌}
use native.Mathlib.Omega.{arith}
use native.Mathlib.Numerals.{add-one}
use mathlib.Core.Path.{◌≡◌, refl, sym, ap, ◌∙◌, subst}
use mathlib.Core.Bool.{Bool, true, false, cond, ◌&&◌}
use mathlib.Core.List.{List, [], ◌∷◌, ◌++◌}
use lib.Dec.{eqb}
use lib.ListN.{length, get_or, take, length-append}
use lib.Seq.{take-suc, take_all}
use borrow.Author.Tests.{eq-eqb, ne_eqb}
use Rattle.lists.specs.Lists.{below, bit, keep, pick, count_of, In, Distinct}
use Rattle.lists.specs.Sort.{sorted}
use Rattle.lists.proofs.Counts.{by_test, by_eq, bit-same, bit-other, true_is_false, count-append, count_same}
use Rattle.lists.proofs.Members.{pick_in, in_pick, pick_no, pick-append, distinct-pick, in_at, below_in, in_below, below-once}
use Rattle.lists.proofs.Sums.{length-same}
use Rattle.lists.proofs.Sorting.{Ordered, count-sorted, take-before}
use Rattle.lists.proofs.Tests.{both, both_true}
use Rattle.rules.specs.Euler.{touched}
use Rattle.rules.specs.Paths.{Path}
use Rattle.rules.specs.Pieces.{seed_before, seed_of, is_seed, piece_of}
use Rattle.rules.specs.Sane.{Sane}
use Rattle.rules.specs.State.{State, arrangement}
use Rattle.rules.proofs.Orders.{never_self}
use Rattle.rules.proofs.PieceCounts.{one-count}
use Rattle.rules.proofs.Claims.{nodes_are}
use Rattle.rules.proofs.PieceNumbers.{order_seeds_lem, decides_seeds, is_seed-is, piece_is, path_seed, seed_path, seed_first, seed_inside, seed_passes, seeds_one, path_piece}
use Rattle.rules.proofs.Roots.{root_of, path-here, path-back, path_root, path-touched, root_joins}
use Rattle.seeds.specs.Numbers.{is_lowest, seeds_of, Numbered}
use Rattle.seeds.proofs.Lowest.{lowest-touched, seed_lowest}
use Rattle.seeds.proofs.SeedOrder.{Any, seeds_order, seeds_ordered}

module _ (s : State) (sane : Sane (arrangement s)) where
  -- ---- the seeds in order

  -- the nodes that come before all their neighbours, sorted
  seeds_is : seeds_of s ≡ sorted (seed_before s) (below (is_lowest s) s.nodes)
  unfolding seeds_of
  seeds_is = refl

  -- each as often as among them
  count_seeds : (v : ℕ) → count_of v (seeds_of s) ≡ count_of v (below (is_lowest s) s.nodes)
  count_seeds v = ap (count_of v) seeds_is ∙ count-sorted (seed_before s) v (below (is_lowest s) s.nodes)

  -- the seed of a piece is listed
  listed : (v : ℕ) → v < s.nodes → is_seed s v ≡ true → In v (seeds_of s)
  listed v l e = omega (arith, count_seeds v, in_below (is_lowest s) s.nodes v l (seed_lowest s sane v l e))

  -- and touched nodes only
  listed_in : (v : ℕ) → In v (seeds_of s) → (v < s.nodes) × (touched (arrangement s) v ≡ true)
  listed_in v m = let b = below_in (is_lowest s) s.nodes v (omega (arith, count_seeds v)) in (b.0, lowest-touched s v b.1)

  -- no node twice
  once : Distinct (seeds_of s)
  once v = omega (arith, count_seeds v, below-once (is_lowest s) s.nodes v)

  -- the first i are those that come before the next one
  first_are : (i : ℕ) → i < length (seeds_of s) → take i (seeds_of s) ≡ pick (λ v. seed_before s v (get_or (seeds_of s) i 0)) (seeds_of s)
  first_are = take-before Any (seed_before s) (seeds_order s) (seeds_of s) (λ x m. tt) once
      (subst (Ordered (seed_before s)) (sym seeds_is) (seeds_ordered s (below (is_lowest s) s.nodes)))

  -- below the state's node count is below the arrangement's
  inside : (n : ℕ) → n < s.nodes → n < (arrangement s).nodes
  inside n l = rw (nodes_are s) l

  -- nodes with one root have one seed
  root_seed : (m n : ℕ) → m < s.nodes → n < s.nodes → root_of (arrangement s) m ≡ root_of (arrangement s) n → seed_of s m ≡ seed_of s n
  root_seed m n k l e = path_seed s sane m n (root_joins (arrangement s) sane m n (inside m k) (inside n l) e)

  -- ---- seed after seed

  -- What holds after the first i: the seeds of pieces among them are counted, the nodes of their pieces have the pieces' numbers, and
  -- no other node has a number.
  pub record Sweeping (pieces : List ℕ) (count i : ℕ) : Type 0 where
    pub number : count ≡ length (pick (is_seed s) (take i (seeds_of s)))
    pub seen : (n : ℕ) → n < s.nodes → In (seed_of s n) (take i (seeds_of s)) → get_or pieces n 0 ≡ suc (piece_of s n)
    pub unseen : (n : ℕ) → n < s.nodes → count_of (seed_of s n) (take i (seeds_of s)) ≡ 0 → get_or pieces n 0 ≡ 0

  -- at first no node has a number
  pub swept-first : (pieces : List ℕ) → ((n : ℕ) → n < s.nodes → get_or pieces n 0 ≡ 0) → Sweeping pieces 0 0
  swept-first pieces clear = record { number = refl; seen = λ n l m. absurd (omega arith); unseen = λ n l e. clear n l }

  module _ (pieces : List ℕ) (count i k : ℕ) (l : i < length (seeds_of s)) (at : k ≡ get_or (seeds_of s) i 0) (r : Sweeping pieces count i) where
    -- the next one is a touched node
    pub here : (k < s.nodes) × (touched (arrangement s) k ≡ true)
    here = listed_in k (subst (λ x. In x (seeds_of s)) (sym at) (in_at (seeds_of s) i l))

    -- those before it
    first_of : take i (seeds_of s) ≡ pick (λ v. seed_before s v k) (seeds_of s)
    first_of = first_are i l ∙ ap (λ x. pick (λ v. seed_before s v x) (seeds_of s)) (sym at)

    -- it is not among those before it
    fresh : count_of k (take i (seeds_of s)) ≡ 0
    fresh = ap (count_of k) first_of ∙ pick_no (λ v. seed_before s v k) k (seeds_of s) (never_self (seed_before s) (order_seeds_lem s) k)

    -- one more
    more : take (i + 1) (seeds_of s) ≡ take i (seeds_of s) ++ (k ∷ [])
    more = ap (λ j. take j (seeds_of s)) (add-one i) ∙ take-suc (seeds_of s) i 0 l ∙ ap (λ x. take i (seeds_of s) ++ (x ∷ [])) (sym at)

    -- by counts
    count_more : (v : ℕ) → count_of v (take (i + 1) (seeds_of s)) ≡ count_of v (take i (seeds_of s)) + bit (eqb v k)
    count_more v = ap (count_of v) more ∙ omega (arith, count-append v (take i (seeds_of s)) (k ∷ []))

    -- how many pass as seeds
    length_more : length (pick (is_seed s) (take (i + 1) (seeds_of s))) ≡ length (pick (is_seed s) (take i (seeds_of s))) + bit (is_seed s k)
    length_more =
        ap (λ t. length (pick (is_seed s) t)) more
        ∙ ap length (pick-append (is_seed s) (take i (seeds_of s)) (k ∷ []))
        ∙ length-append (pick (is_seed s) (take i (seeds_of s))) (keep (is_seed s k) k [])
        ∙ by_test (is_seed s k) (λ e. rw e) (λ e. rw e)

    -- a node that has a number begins no piece
    module _ (d : get_or pieces k 0 ≡ 0 → ⊥) where
      -- its seed was passed
      passed : In (seed_of s k) (take i (seeds_of s))
      passed = by_eq (count_of (seed_of s k) (take i (seeds_of s))) 0 (λ e. absurd (d (r.unseen k here.0 e))) (λ e. omega arith)

      -- so it is not its own
      not_own : seed_of s k ≡ k → ⊥
      not_own e = omega (arith, passed, fresh, ap (λ v. count_of v (take i (seeds_of s))) e)

      -- nor another's
      nobody : (n : ℕ) → n < s.nodes → seed_of s n ≡ k → ⊥
      nobody n h e = not_own (ap (seed_of s) (sym e) ∙ sym (path_seed s sane n (seed_of s n) (seed_path s sane n h)) ∙ e)

      -- nothing changes
      pub swept-has : Sweeping pieces count (i + 1)
      swept-has =
          let no : is_seed s k ≡ false = is_seed-is s k ∙ rw (ne_eqb (seed_of s k) k not_own) (by_test (touched (arrangement s) k) (λ t. rw t) (λ t. rw t)) in
          record {
            number = omega (arith, r.number, length_more, ap bit no);
            seen = λ n h m. r.seen n h (omega (arith, count_more (seed_of s n), bit-other (seed_of s n) k (nobody n h)));
            unseen = λ n h e. r.unseen n h (omega (arith, count_more (seed_of s n)));
          }

    -- any other begins the next piece
    module _ (z : get_or pieces k 0 ≡ 0) where
      -- its seed was not passed
      ahead_of : count_of (seed_of s k) (take i (seeds_of s)) ≡ 0
      ahead_of = by_eq (count_of (seed_of s k) (take i (seeds_of s))) 0 (λ e. e) (λ e. absurd (omega (arith, r.seen k here.0 (omega arith), z)))

      -- so it does not come before
      not-before : seed_before s (seed_of s k) k ≡ false
      not-before = by_test (seed_before s (seed_of s k) k)
          (λ e.
          let m : In (seed_of s k) (seeds_of s) =
          listed (seed_of s k) (seed_inside s sane k here.0) (seed_passes s sane k here.0 here.1) in
          absurd (omega (arith, ahead_of, ap (count_of (seed_of s k)) first_of, in_pick (λ v. seed_before s v k) (seed_of s k) (seeds_of s) m e)))
          (λ e. e)

      -- the node is the seed of its piece
      own : seed_of s k ≡ k
      own = decides_seeds s (seed_of s k) k not-before (seed_first s sane k k here.0 (path-here (arrangement s) k))

      -- it passes as one
      passes : is_seed s k ≡ true
      passes = is_seed-is s k ∙ both_true (touched (arrangement s) k) (eqb (seed_of s k) k) here.1 (eq-eqb (seed_of s k) k own)

      -- the seeds that come before it
      abbrev test : ℕ → Bool
      test v = is_seed s v && seed_before s v k

      -- those counted so far are these
      same_seeds : (v : ℕ) → count_of v (pick (is_seed s) (pick (λ x. seed_before s x k) (seeds_of s))) ≡ count_of v (below test s.nodes)
      same_seeds v =
          let front = pick (λ x. seed_before s x k) (seeds_of s) in
          count_same (count_of v (pick (is_seed s) front)) (count_of v (below test s.nodes))
          (distinct-pick (is_seed s) front (distinct-pick (λ x. seed_before s x k) (seeds_of s) once) v)
          (below-once test s.nodes v)
          (λ m.
          let a = pick_in (is_seed s) v front m in
          let b = pick_in (λ x. seed_before s x k) v (seeds_of s) a.0 in
          in_below test s.nodes v (listed_in v b.0).0 (both_true (is_seed s v) (seed_before s v k) a.1 b.1))
          (λ m.
          let a = below_in test s.nodes v m in
          let b = both (is_seed s v) (seed_before s v k) a.1 in
          in_pick (is_seed s) v front (in_pick (λ x. seed_before s x k) v (seeds_of s) (listed v a.0 b.0) b.1) b.0)

      -- so the count is the number of its piece
      counted : count ≡ piece_of s k
      counted =
          r.number
          ∙ ap (λ t. length (pick (is_seed s) t)) first_of
          ∙ length-same s.nodes (pick (is_seed s) (pick (λ x. seed_before s x k) (seeds_of s))) (below test s.nodes)
          (λ v h. by_eq (count_of v (below test s.nodes)) 0 (λ e. same_seeds v ∙ e) (λ e. absurd (omega (arith, (below_in test s.nodes v (omega arith)).0))))
          same_seeds
          ∙ ap (λ x. length (below (λ v. is_seed s v && seed_before s v x) s.nodes)) (sym own)
          ∙ sym (piece_is s k)

      -- no node of its piece has a number
      pub new-clear : (n : ℕ) → n < s.nodes → root_of (arrangement s) n ≡ root_of (arrangement s) k → get_or pieces n 0 ≡ 0
      new-clear n h e = r.unseen n h (ap (λ v. count_of v (take i (seeds_of s))) (root_seed n k h here.0 e) ∙ ahead_of)

      module _ (pieces' : List ℕ)
          (filled : (n : ℕ) → n < s.nodes → get_or pieces' n 0 ≡ cond (eqb (root_of (arrangement s) n) (root_of (arrangement s) k)) (count + 1) (get_or pieces n 0)) where
        -- its nodes get the piece's number
        gets : (n : ℕ) → n < s.nodes → seed_of s n ≡ k → get_or pieces' n 0 ≡ suc (piece_of s n)
        gets n h e =
            let p : Path (arrangement s) n k = subst (λ x. Path (arrangement s) n x) e (seed_path s sane n h) in
            filled n h
            ∙ ap (λ b. cond b (count + 1) (get_or pieces n 0)) (eq-eqb (root_of (arrangement s) n) (root_of (arrangement s) k) (path_root (arrangement s) sane n k p))
            ∙ add-one count
            ∙ ap suc (counted ∙ sym (path_piece s sane n k p))

        -- and no other
        keeps : (n : ℕ) → n < s.nodes → (seed_of s n ≡ k → ⊥) → get_or pieces' n 0 ≡ get_or pieces n 0
        keeps n h d =
            filled n h
            ∙ ap (λ b. cond b (count + 1) (get_or pieces n 0))
            (ne_eqb (root_of (arrangement s) n) (root_of (arrangement s) k) (λ e. d (root_seed n k h here.0 e ∙ own)))

        -- one piece more
        pub swept-new : Sweeping pieces' (count + 1) (i + 1)
        swept-new = record {
          number = omega (arith, r.number, length_more, ap bit passes);
          seen = λ n h m. by_eq (seed_of s n) k (gets n h)
              (λ d. keeps n h d ∙ r.seen n h (omega (arith, count_more (seed_of s n), bit-other (seed_of s n) k d)));
          unseen = λ n h e. by_eq (seed_of s n) k
              (λ q. absurd (omega (arith, e, count_more (seed_of s n), bit-same (seed_of s n) k q)))
              (λ d. keeps n h d ∙ r.unseen n h (omega (arith, e, count_more (seed_of s n))));
        }

  -- ---- at the end

  -- the seeds of pieces are those among the seeds in order
  all_seeds : (v : ℕ) → count_of v (pick (is_seed s) (seeds_of s)) ≡ count_of v (below (is_seed s) s.nodes)
  all_seeds v =
      count_same (count_of v (pick (is_seed s) (seeds_of s))) (count_of v (below (is_seed s) s.nodes))
      (distinct-pick (is_seed s) (seeds_of s) once v)
      (below-once (is_seed s) s.nodes v)
      (λ m. let a = pick_in (is_seed s) v (seeds_of s) m in in_below (is_seed s) s.nodes v (listed_in v a.0).0 a.1)
      (λ m. let a = below_in (is_seed s) s.nodes v m in in_pick (is_seed s) v (seeds_of s) (listed v a.0 a.1) a.1)

  -- the seed of a node in no piece is in none
  bare : (n : ℕ) → n < s.nodes → touched (arrangement s) n ≡ false → count_of (seed_of s n) (seeds_of s) ≡ 0
  bare n h t = by_eq (count_of (seed_of s n) (seeds_of s)) 0 (λ e. e) (λ e.
      let p = path-back (arrangement s) sane n (seed_of s n) (seed_path s sane n h) in
      absurd (true_is_false (sym (path-touched (arrangement s) sane (seed_of s n) n p (listed_in (seed_of s n) (omega arith)).1) ∙ t)))

  -- after all seeds every piece is counted and numbered
  pub swept_all : (pieces : List ℕ) (count i : ℕ) → i ≡ length (seeds_of s) → Sweeping pieces count i → Numbered s pieces count
  swept_all pieces count i e r =
      let whole : take i (seeds_of s) ≡ seeds_of s = take_all i (seeds_of s) (omega arith) in
      record {
        number =
            r.number
            ∙ ap (λ t. length (pick (is_seed s) t)) whole
            ∙ length-same s.nodes (pick (is_seed s) (seeds_of s)) (below (is_seed s) s.nodes)
            (λ v h. by_eq (count_of v (below (is_seed s) s.nodes)) 0 (λ q. all_seeds v ∙ q) (λ q. absurd (omega (arith, (below_in (is_seed s) s.nodes v (omega arith)).0))))
            all_seeds
            ∙ one-count (arrangement s) sane (below (is_seed s) s.nodes) (seeds_one s sane);
        each = λ n h. by_test (touched (arrangement s) n)
            (λ t. rw t (r.seen n h (subst (λ w. In (seed_of s n) w) (sym whole)
            (listed (seed_of s n) (seed_inside s sane n h) (seed_passes s sane n h t)))))
            (λ t. rw t (r.unseen n h (ap (count_of (seed_of s n)) whole ∙ bare n h t)));
      }
