-- The walk around one ring: what holds at each of its half-edges, and what it leaves.
use Prim.Native.Nat.{ℕ, suc, ◌+◌, ◌<◌}
use native.Mathlib.Omega.{arith}
use mathlib.Core.Path.{◌≡◌, refl, sym, ap, ◌∙◌, subst}
use mathlib.Core.Bool.{Bool, true, false}
use mathlib.Core.List.{List, [], ◌∷◌}
use lib.ListN.{length, set}
use lib.Seq.{sets}
use lib.IntN.{pos}
use lib.Ieee.{Float, fin}
use Rattle.lists.specs.Lists.{In}
use Rattle.lists.proofs.Counts.{by_eq}
use Rattle.rules.specs.Cycles.{walk, cycle}
use Rattle.rules.specs.Sane.{Live, Permutes}
use Rattle.rules.specs.Ringing.{sum_in}
use Rattle.rules.proofs.CycleLaws.{cycle_self}
use Rattle.rules.proofs.Marking.{cycle-next, walk_on, walk_end}
use Rattle.ring_tally.specs.Keys.{keys_y, key_put, keys_put}
use Rattle.ring_tally.specs.Tallies.{taken_at_lem, tally_of}
use Rattle.rings.specs.Listing.{stamped_at, WalkedRing}
use Rattle.ring_tally.specs.declared.tally.Tally.{Tally}

module _ (f : ℕ → ℕ) (n start at : ℕ) (source : List ℕ) (xs ys : List Float) (seen₀ : List Bool) (rows₀ keys₀ : List ℕ) where
  -- at `cur`: it is in the ring, and what is left to do from there gives what the whole walk gives
  pub record Walking (seen : List Bool) (rows keys : List ℕ) (tally : Tally) (cur : ℕ) : Type 0 where
    pub inside : In cur (cycle f n start)
    pub left : tally.count + length (walk f n start cur) ≡ length (cycle f n start)
    pub marks : stamped_at (walk f n start cur) true seen ≡ stamped_at (cycle f n start) true seen₀
    pub lists : sets rows (at + tally.count) (walk f n start cur) ≡ sets rows₀ at (cycle f n start)
    pub keyed : keys_put keys_y source xs ys keys (at + tally.count) (walk f n start cur) ≡ keys_put keys_y source xs ys keys₀ at (cycle f n start)
    pub sums : sum_in source xs ys tally.sum (walk f n start cur) ≡ sum_in source xs ys (fin false 0 (pos 0)) (cycle f n start)

  -- by equal tables, an equal tally and an equal half-edge
  pub walking_same : (seen seen' : List Bool) (rows rows' keys keys' : List ℕ) (tally tally' : Tally) (cur cur' : ℕ) → seen' ≡ seen → rows' ≡ rows → keys' ≡ keys → tally' ≡ tally → cur' ≡ cur
      → Walking seen rows keys tally cur → Walking seen' rows' keys' tally' cur'
  walking_same seen seen' rows rows' keys keys' tally tally' cur cur' s r k t e w =
      subst (λ z. Walking z rows' keys' tally' cur') (sym s) (subst (λ z. Walking seen z keys' tally' cur') (sym r) (subst (λ z. Walking seen rows z tally' cur') (sym k)
      (subst (λ z. Walking seen rows keys z cur') (sym t) (subst (λ z. Walking seen rows keys tally z) (sym e) w))))

  module _ (active : ℕ → Bool) (t : Permutes f n active) (a : Live n active start) where
    -- at first
    pub walking_first : Walking seen₀ rows₀ keys₀ (record { count = 0; sum = fin false 0 (pos 0) }) start
    unfolding cycle
    walking_first =
        let z : at + 0 ≡ at = omega arith in
        record { inside = cycle_self f n active t start a; left = omega arith; marks = refl; lists = ap (λ k. sets rows₀ k (cycle f n start)) z; keyed = ap (λ k. keys_put keys_y source xs ys keys₀ k (cycle f n start)) z; sums = refl }

    module _ (seen : List Bool) (rows keys : List ℕ) (tally : Tally) (cur : ℕ) (w : Walking seen rows keys tally cur) where
      -- one half-edge on
      pub walking_on : (f cur ≡ start → ⊥) → Walking (set seen cur true) (set rows (at + tally.count) cur) (key_put keys_y source xs ys keys (at + tally.count) cur) (taken_at_lem source xs ys tally cur) (f cur)
      walking_on d =
          let e : walk f n start cur ≡ cur ∷ walk f n start (f cur) = walk_on f n active t start a cur w.inside d in
          let k : at + (tally.count + 1) ≡ suc (at + tally.count) = omega arith in
          record {
            inside = cycle-next f n active t start a cur w.inside;
            left = omega (arith, ap length e, w.left);
            marks = ap (λ l. stamped_at l true seen) (sym e) ∙ w.marks;
            lists = ap (λ k. sets (set rows (at + tally.count) cur) k (walk f n start (f cur))) k ∙ ap (sets rows (at + tally.count)) (sym e) ∙ w.lists;
            keyed = ap (λ k. keys_put keys_y source xs ys (key_put keys_y source xs ys keys (at + tally.count) cur) k (walk f n start (f cur))) k
                ∙ ap (keys_put keys_y source xs ys keys (at + tally.count)) (sym e) ∙ w.keyed;
            sums = ap (sum_in source xs ys tally.sum) (sym e) ∙ w.sums;
          }

      -- the last one
      pub walking_end : f cur ≡ start
          → WalkedRing f n start at source xs ys seen₀ rows₀ keys₀ (set seen cur true) (set rows (at + tally.count) cur) (key_put keys_y source xs ys keys (at + tally.count) cur) (taken_at_lem source xs ys tally cur)
      walking_end b =
          let e : walk f n start cur ≡ cur ∷ [] = walk_end f n active t start a cur w.inside b in
          let count : tally.count + 1 ≡ length (cycle f n start) = omega (arith, ap length e, w.left) in
          let sum : (taken_at_lem source xs ys tally cur).sum ≡ sum_in source xs ys (fin false 0 (pos 0)) (cycle f n start) = ap (sum_in source xs ys tally.sum) (sym e) ∙ w.sums in
          record {
            marks = ap (λ l. stamped_at l true seen) (sym e) ∙ w.marks;
            lists = ap (sets rows (at + tally.count)) (sym e) ∙ w.lists;
            keyed = ap (keys_put keys_y source xs ys keys (at + tally.count)) (sym e) ∙ w.keyed;
            tallied = λ i. record { count = count i; sum = sum i };
          }

      -- there is room while the walk goes on
      pub walking_room : tally.count < length (cycle f n start)
      walking_room = by_eq (f cur) start
          (λ b. omega (arith, ap length (walk_end f n active t start a cur w.inside b), w.left))
          (λ d. omega (arith, ap length (walk_on f n active t start a cur w.inside d), w.left))

-- what a walk leaves, by another count
pub walked_frame : (f : ℕ → ℕ) (n m start at : ℕ) (source : List ℕ) (xs ys : List Float) (seen₀ : List Bool) (rows₀ keys₀ : List ℕ) (seen : List Bool) (rows keys : List ℕ) (tally : Tally)
    → cycle f n start ≡ cycle f m start → WalkedRing f n start at source xs ys seen₀ rows₀ keys₀ seen rows keys tally → WalkedRing f m start at source xs ys seen₀ rows₀ keys₀ seen rows keys tally
walked_frame f n m start at source xs ys seen₀ rows₀ keys₀ seen rows keys tally e w = record {
  marks = w.marks ∙ ap (λ l. stamped_at l true seen₀) e;
  lists = w.lists ∙ ap (sets rows₀ at) e;
  keyed = w.keyed ∙ ap (keys_put keys_y source xs ys keys₀ at) e;
  tallied = w.tallied ∙ ap (tally_of source xs ys) e;
}

-- by equal tables and an equal tally
pub walked_same : (f : ℕ → ℕ) (n start at : ℕ) (source : List ℕ) (xs ys : List Float) (seen₀ : List Bool) (rows₀ keys₀ : List ℕ) (seen seen' : List Bool) (rows rows' keys keys' : List ℕ) (tally tally' : Tally)
    → seen' ≡ seen → rows' ≡ rows → keys' ≡ keys → tally' ≡ tally
    → WalkedRing f n start at source xs ys seen₀ rows₀ keys₀ seen rows keys tally → WalkedRing f n start at source xs ys seen₀ rows₀ keys₀ seen' rows' keys' tally'
walked_same f n start at source xs ys seen₀ rows₀ keys₀ seen seen' rows rows' keys keys' tally tally' e g k h w =
    record { marks = e ∙ w.marks; lists = g ∙ w.lists; keyed = k ∙ w.keyed; tallied = h ∙ w.tallied }
