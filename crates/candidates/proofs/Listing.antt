-- The list of candidates, which grows by one enclosed ring at a time.
use Prim.Native.Nat.{ℕ, suc, ◌+◌, ◌*◌, ◌<◌, ◌≤◌}
use native.Mathlib.Omega.{arith}
use native.Mathlib.Numerals.{add-one}
use mathlib.Core.Path.{◌≡◌, refl, sym, ap, subst, ◌∙◌}
use mathlib.Core.Logic.{inl, inr, ⊎_elim}
use mathlib.Core.Bool.{Bool, true, false}
use mathlib.Core.List.{List, [], ◌∷◌, ◌++◌}
use lib.IntN.{ℤ, pos}
use lib.ListN.{length, get_or, take, set, length-set, length-append}
use lib.Seq.{sets, get_or-set_same, get_or-set_other, take-suc-set, length-sets}
use lib.Dec.{eqb}
use lib.Ieee.{Float, nan}
use lib.Signed.{lt_z}
use Rattle.lists.specs.Lists.{below}
use Rattle.lists.proofs.Counts.{by_test, by_lt, true_is_false, below_yes, below_no, below_less}
use Rattle.rules.specs.Face.{Ring}
use Rattle.rules.specs.Holes.{left_of, enclosed, ring_at}
use Rattle.ring_lists.specs.Shown.{HalfOf}
use Rattle.inside.specs.Spots.{spot_in}
use Rattle.corners.specs.Boxes.{Outermost}
use Rattle.corners.specs.declared.boxes.Sides.{Sides}
use Rattle.corners.proofs.Lefts.{left_by_x}
use Rattle.candidates.specs.Candidates.{numbers_of, number_at, numbers_by, nodes_at, Bounds, PassesAll, Boxed, Listable, Writable, Written, Candidates}
use Rattle.candidates.proofs.Numbers.{stored_at, stored_before}

-- ---- one candidate

module _ (xs ys : List ℤ) where
  -- what does not lie to the left has no lesser x
  no_lesser : (m n : ℕ) → left_of (spot_in xs ys) m n ≡ false → lt_z (get_or xs m (pos 0)) (get_or xs n (pos 0)) ≡ false
  no_lesser m n f = by_test (lt_z (get_or xs m (pos 0)) (get_or xs n (pos 0))) (λ e. absurd (true_is_false (sym (left_by_x (spot_in xs ys) m n e) ∙ f))) (λ e. e)

  -- the same numbers elsewhere
  bounds_moved : (old new : List ℤ) (i j : ℕ) (l : List ℕ) → ((k : ℕ) → k < numbers_of → number_at new j k ≡ number_at old i k) → Bounds xs ys old i l → Bounds xs ys new j l
  bounds_moved old new i j l same box = record {
    low_x = λ m k. subst (λ v. lt_z (get_or xs m (pos 0)) v ≡ false) (sym (same 0 (omega arith))) (box.low_x m k);
    high_x = λ m k. subst (λ v. lt_z v (get_or xs m (pos 0)) ≡ false) (sym (same 1 (omega arith))) (box.high_x m k);
    low_y = λ m k. subst (λ v. lt_z (get_or ys m (pos 0)) v ≡ false) (sym (same 2 (omega arith))) (box.low_y m k);
    high_y = λ m k. subst (λ v. lt_z v (get_or ys m (pos 0)) ≡ false) (sym (same 3 (omega arith))) (box.high_y m k);
  }

  boxed_moved : (all : ℕ) (old new : List ℤ) (i j : ℕ) (l : List ℕ) (z : ℤ) → ((k : ℕ) → k < numbers_of → number_at new j k ≡ number_at old i k) → Boxed xs ys all old i l z → Boxed xs ys all new j l z
  boxed_moved all old new i j l z same b = record {
    box = ⊎_elim inl (λ k. inr (bounds_moved old new i j l same k)) b.box;
    area = same 4 (omega arith) ∙ b.area;
  }

  -- numbers by the sides of nodes are those of their box
  boxed_by : (all : ℕ) (l : List ℕ) (s : Sides) (z : ℤ) → Outermost xs ys l s → Boxed xs ys all (numbers_by xs ys s z) 0 l z
  boxed_by all l s z box = record {
    box = inr (record {
      low_x = λ m k. no_lesser m s.left (box.bounds m k).left;
      high_x = λ m k. (box.bounds m k).right;
      low_y = λ m k. (box.bounds m k).low;
      high_y = λ m k. (box.bounds m k).high;
    });
    area = refl;
  }

  module _ (nodes first size : List ℕ) (area : List Float) (all : ℕ) where
    -- a ring's number is set, and its numbers are stored
    pub written : (i n : ℕ) (rings : List ℕ) (numbers numbers' : List ℤ) (s : Sides) (d : ℤ) → numbers_of * n + numbers_of ≤ length numbers
        → Outermost xs ys (nodes_at nodes first size i) s → ((z : ℤ) → HalfOf (get_or area i nan) z → d ≡ z) → numbers' ≡ sets numbers (numbers_of * n) (numbers_by xs ys s d)
        → Written nodes xs ys first size area all i n rings (set rings n i) numbers numbers'
    written i n rings numbers numbers' s d room box half e = record {
      ring = refl;
      long = ap length e ∙ length-sets numbers (numbers_of * n) (numbers_by xs ys s d);
      boxed = λ z h. boxed_moved all (numbers_by xs ys s z) numbers' 0 n (nodes_at nodes first size i) z (stored z (half z h)) (boxed_by all (nodes_at nodes first size i) s z box);
      kept = λ k low. ap (λ l. get_or l k (pos 0)) e ∙ stored_before (numbers_by xs ys s d) numbers (numbers_of * n) k low;
    }
      where
        stored : (z : ℤ) → d ≡ z → (k : ℕ) → k < numbers_of → number_at numbers' n k ≡ number_at (numbers_by xs ys s z) 0 k
        stored z f k low =
            let first : k ≡ numbers_of * 0 + k = omega arith in
            ap (λ l. get_or l (numbers_of * n + k) (pos 0)) e
            ∙ stored_at (numbers_by xs ys s d) numbers (numbers_of * n) k room low
            ∙ (λ t. get_or (numbers_by xs ys s (f t)) (first t) (pos 0))

    -- the least x of a ring that passes every node may then be any number
    pub written_shut : (i n : ℕ) (rings rings' : List ℕ) (numbers numbers' : List ℤ) (v : ℤ) → PassesAll all (nodes_at nodes first size i)
        → Written nodes xs ys first size area all i n rings rings' numbers numbers'
        → Written nodes xs ys first size area all i n rings rings' numbers (set numbers' (numbers_of * n + 0) v)
    written_shut i n rings rings' numbers numbers' v passes w = record {
      ring = w.ring;
      long = length-set numbers' (numbers_of * n + 0) v ∙ w.long;
      boxed = λ z h. record { box = inl passes; area = other (numbers_of * n + 4) (omega arith) ∙ (w.boxed z h).area };
      kept = λ k low. other k (omega arith) ∙ w.kept k low;
    }
      where
        other : (k : ℕ) → (k ≡ numbers_of * n + 0 → ⊥) → get_or (set numbers' (numbers_of * n + 0) v) k (pos 0) ≡ get_or numbers' k (pos 0)
        other k = get_or-set_other numbers' (numbers_of * n + 0) k v (pos 0)

-- ---- the list

module _ {rs : List Ring} {nodes : List ℕ} {xs ys : List ℤ} {first size side : List ℕ} {area : List Float} {all count : ℕ} {rings₀ : List ℕ} {numbers₀ : List ℤ}
    (given : Listable rs nodes xs ys first size side area all count rings₀ numbers₀) where
  -- no ring is listed yet
  listed-none : Candidates rs nodes xs ys first size all 0 rings₀ numbers₀ 0
  listed-none = record { many = refl; in_rings = omega arith; in_numbers = omega arith; listed = refl; each = λ j low. absurd (omega arith) }

  module _ {i n : ℕ} {rings : List ℕ} {numbers : List ℤ} (low : i < count) (old : Candidates rs nodes xs ys first size all i rings numbers n) where
    -- the rings to list
    abbrev chosen : ℕ → Bool
    chosen k = enclosed (ring_at rs k)

    -- a ring that is not enclosed is passed over
    listed-other : eqb (get_or side i 0) 1 ≡ false → Candidates rs nodes xs ys first size all (i + 1) rings numbers n
    listed-other e =
        let same : below chosen (i + 1) ≡ below chosen i = ap (below chosen) (add-one i) ∙ below_no chosen i (sym (given.each i low).sided ∙ e) in
        record {
          many = old.many ∙ ap length (sym same);
          in_rings = old.in_rings;
          in_numbers = old.in_numbers;
          listed = old.listed ∙ sym same;
          each = old.each;
        }

    module _ (e : eqb (get_or side i 0) 1 ≡ true) (same_rings : length rings ≡ length rings₀) (same_numbers : length numbers ≡ length numbers₀) where
      -- it is enclosed
      encloses : chosen i ≡ true
      encloses = sym (given.each i low).sided ∙ e

      -- so one more is to be listed
      room : n < length (below chosen count)
      room = omega (arith, below_less chosen i count low encloses, old.many)

      -- there is room for it, and it stands in the lists
      pub listed-writable : Writable nodes xs ys first size area all i n rings numbers
      listed-writable = let r = given.each i low in record {
        stands = record {
          part = record { in_first = omega (arith, given.in_first); in_size = omega (arith, given.in_size); within = r.within };
          some = r.some;
          in_xs = r.in_xs;
          in_ys = r.in_ys;
        };
        low = given.low i low;
        few_nodes = given.few_nodes;
        in_area = omega (arith, given.in_area);
        halved = ((ring_at rs i).doubled, r.halved);
        in_rings = omega (arith, room, given.in_rings);
        in_numbers = omega (arith, room, given.in_numbers);
      }

      module _ {rings' : List ℕ} {numbers' : List ℤ} (new : Written nodes xs ys first size area all i n rings rings' numbers numbers') where
        -- one ring more is to be listed
        one_more : below chosen (i + 1) ≡ below chosen i ++ (i ∷ [])
        one_more = ap (below chosen) (add-one i) ∙ below_yes chosen i encloses

        -- and it is
        more_listed : take (n + 1) rings' ≡ below chosen (i + 1)
        more_listed =
            ap (λ k. take k rings') (add-one n)
            ∙ ap (take (suc n)) new.ring
            ∙ take-suc-set rings n i listed-writable.in_rings
            ∙ ap (λ l. l ++ (i ∷ [])) old.listed
            ∙ sym one_more

        -- candidate j has the box and the doubled area of ring k
        abbrev HasBox : ℕ → ℕ → Type 0
        HasBox j k = Boxed xs ys all numbers' j (nodes_at nodes first size k) (ring_at rs k).doubled

        -- so have those listed before
        box-old : (j : ℕ) → j < n → HasBox j (get_or rings' j 0)
        box-old j h =
            let other : j ≡ n → ⊥ = λ f. omega arith in
            let stays : get_or rings' j 0 ≡ get_or rings j 0 = ap (λ l. get_or l j 0) new.ring ∙ get_or-set_other rings n j i 0 other in
            subst (HasBox j) (sym stays)
            (boxed_moved xs ys all numbers numbers' j j (nodes_at nodes first size (get_or rings j 0)) (ring_at rs (get_or rings j 0)).doubled (λ k small. new.kept (numbers_of * j + k) (omega arith)) (old.each j h))

        -- and the new one
        box-new : (j : ℕ) → j ≡ n → HasBox j (get_or rings' j 0)
        box-new j f =
            let here : get_or rings' n 0 ≡ i = ap (λ l. get_or l n 0) new.ring ∙ get_or-set_same rings n i 0 listed-writable.in_rings in
            subst (λ k. HasBox k (get_or rings' k 0)) (sym f) (subst (HasBox n) (sym here) (new.boxed (ring_at rs i).doubled (given.each i low).halved))

        -- the list with it
        listed-one : Candidates rs nodes xs ys first size all (i + 1) rings' numbers' (n + 1)
        listed-one = record {
          many = omega (arith, ap length one_more, length-append (below chosen i) (i ∷ []), old.many);
          in_rings = omega (arith, listed-writable.in_rings, ap length new.ring, length-set rings n i);
          in_numbers = omega (arith, listed-writable.in_numbers, new.long);
          listed = more_listed;
          each = λ j h. by_lt j n (box-old j) (λ g. box-new j (omega arith));
        }

-- ---- the loop

-- the enclosed ones of the first i rings are listed, whatever rings these are
pub record Gone (nodes : List ℕ) (xs ys : List ℤ) (first size side : List ℕ) (area : List Float) (all count : ℕ) (rings₀ : List ℕ) (numbers₀ : List ℤ) (i : ℕ) (rings : List ℕ) (numbers : List ℤ) (n : ℕ) : Type 0 where
  pub goes : i ≤ count
  pub few : n ≤ i
  pub same_rings : length rings ≡ length rings₀
  pub same_numbers : length numbers ≡ length numbers₀
  pub listed : (rs : List Ring) → Listable rs nodes xs ys first size side area all count rings₀ numbers₀ → Candidates rs nodes xs ys first size all i rings numbers n

module _ {nodes : List ℕ} {xs ys : List ℤ} {first size side : List ℕ} {area : List Float} {all count : ℕ} {rings₀ : List ℕ} {numbers₀ : List ℤ} where
  -- before the first turn
  pub gone_none : Gone nodes xs ys first size side area all count rings₀ numbers₀ 0 rings₀ numbers₀ 0
  gone_none = record { goes = omega arith; few = omega arith; same_rings = refl; same_numbers = refl; listed = λ rs given. listed-none given }

  module _ {i n : ℕ} {rings : List ℕ} {numbers : List ℤ} (low : i < count) (old : Gone nodes xs ys first size side area all count rings₀ numbers₀ i rings numbers n) where
    -- a turn at another ring
    pub gone_other : eqb (get_or side i 0) 1 ≡ false → Gone nodes xs ys first size side area all count rings₀ numbers₀ (i + 1) rings numbers n
    gone_other e = record {
      goes = omega arith;
      few = omega (arith, old.few);
      same_rings = old.same_rings;
      same_numbers = old.same_numbers;
      listed = λ rs given. listed-other given low (old.listed rs given) e;
    }

    -- a turn at an enclosed ring
    pub gone_one : eqb (get_or side i 0) 1 ≡ true → {rings' : List ℕ} {numbers' : List ℤ} → Written nodes xs ys first size area all i n rings rings' numbers numbers'
        → Gone nodes xs ys first size side area all count rings₀ numbers₀ (i + 1) rings' numbers' (n + 1)
    gone_one e new = record {
      goes = omega arith;
      few = omega (arith, old.few);
      same_rings = ap length new.ring ∙ length-set rings n i ∙ old.same_rings;
      same_numbers = new.long ∙ old.same_numbers;
      listed = λ rs given. listed-one given low (old.listed rs given) e old.same_rings old.same_numbers new;
    }
