-- The first place that is not marked: how a loop finds it, and that it is the lowest free place, from one addition to the next.
use Prim.Native.Nat.{ℕ, zero, suc, ◌+◌, ◌-◌, ◌<◌, ◌≤◌, min}
use native.Mathlib.Numerals.{add-one}
use native.Mathlib.Omega.{arith}
use mathlib.Core.Path.{◌≡◌, refl, sym, ap, subst, ◌∙◌}
use mathlib.Core.Bool.{Bool, true, false, cond}
use mathlib.Core.List.{List, []}
use lib.Dec.{eqb, ltb}
use lib.ListN.{get_or}
use borrow.Author.Tests.{ltb-true, ltb-false}
use Rattle.lists.specs.Lists.{bit, count_of, member, In}
use Rattle.lists.proofs.Counts.{by_test, by_eq, by_lt, bit-other}
use Rattle.rules.specs.Limits.{Limits}
use Rattle.rules.specs.LineIds.{used_places, lowest_free}
use Rattle.rules.specs.State.{State}
use Rattle.rules.proofs.FollowingPrune.{map-upto-at}
use Rattle.rules.proofs.FreePlaces.{free-least, free-out, free-only, free_from_lem, free-past, free-rises}
use Rattle.line_ids.specs.Free.{used_marks, first_free, free_from, free_place, FreeAt}
use Rattle.line_ids.proofs.Marked.{used_places_are}

-- ---- looking place by place

module _ (used : List Bool) (pairs p : ℕ) where
  -- this one is free
  pub free-here : p < pairs → get_or used p false ≡ false → free_from used p pairs ≡ p
  unfolding free_from
  free-here h e = let s : pairs - p ≡ suc (pairs - suc p) = omega arith in rw (s, e)

  -- it is not
  pub free_on : p < pairs → get_or used p false ≡ true → free_from used p pairs ≡ free_from used (p + 1) pairs
  unfolding free_from
  free_on h e =
      let s : pairs - p ≡ suc (pairs - suc p) = omega arith in
      ap (λ n. first_free used n p) s ∙ ap (λ b. cond b (first_free used (pairs - suc p) (suc p)) p) e ∙ ap (λ q. first_free used (pairs - q) q) (sym (add-one p))

  -- none is left
  pub free-none : p ≡ pairs → free_from used p pairs ≡ p
  unfolding free_from
  free-none e = let s : pairs - p ≡ 0 = omega arith in rw s

-- ---- what is found

-- every place passed over is marked, and the one found is not
record Found (used : List Bool) (from end p : ℕ) : Type 0 where
  low : from ≤ p
  high : p ≤ end
  before : (q : ℕ) → from ≤ q → q < p → get_or used q false ≡ true
  vacant : p < end → get_or used p false ≡ false

-- of n places
first_found : (used : List Bool) (n from : ℕ) → Found used from (n + from) (first_free used n from)
first_found used zero from = record {
  low = omega arith;
  high = omega arith;
  before = λ q a b. absurd (omega arith);
  vacant = λ h. absurd (omega arith);
}
first_found used (suc n) from =
    let r = first_found used n (suc from) in
    by_test (get_or used from false)
    (λ e. rw e (record {
      low = omega (arith, r.low);
      high = omega (arith, r.high);
      before = λ q a b. by_eq q from (λ z. rw z e) (λ d. r.before q (omega arith) b);
      vacant = λ h. r.vacant (omega arith);
    }))
    (λ e. rw e (record {
      low = omega arith;
      high = omega arith;
      before = λ q a b. absurd (omega arith);
      vacant = λ h. e;
    }))

-- of the places of a table
free-found : (used : List Bool) (from pairs : ℕ) → from ≤ pairs → Found used from pairs (free_from used from pairs)
unfolding free_from
free-found used from pairs h = let s : pairs - from + from ≡ pairs = omega arith in subst (λ n. Found used from n (first_free used (pairs - from) from)) s (first_found used (pairs - from) from)

-- where the marks are right from `from` on, and none below it is free, it is the lowest free place
free-lowest : (marks : List Bool) (used : List ℕ) (from pairs : ℕ) → from ≤ pairs → from ≤ lowest_free used
    → ((q : ℕ) → from ≤ q → q < pairs → get_or marks q false ≡ member q used) → free_from marks from pairs ≡ min (lowest_free used) pairs
free-lowest marks used from pairs h low right =
    let p = free_from marks from pairs in
    let r = free-found marks from pairs h in
    let taken : (q : ℕ) → from ≤ q → q < p → In q used =
    λ q a b. ltb-true 0 (count_of q used) (sym (right q a (omega (arith, r.high))) ∙ r.before q a b) in
    by_lt p pairs
    (λ l.
    let none : count_of p used ≡ 0 = omega (arith, ltb-false 0 (count_of p used) (sym (right p r.low l) ∙ r.vacant l)) in
    omega (arith, free_from_lem used from p low none taken))
    (λ l. omega (arith, r.high, free-past used pairs (λ q a. by_lt q from (λ b. free-least used q (omega arith)) (λ b. taken q b (omega arith)))))

-- ---- of a state

module _ (l : Limits) (s : State) where
  -- the places in use
  abbrev used : List ℕ
  used = used_places l.pairs s.tracings s.edges

  -- the definition, shut
  pub free-is : free_place l s ≡ min (lowest_free used) l.pairs
  unfolding free_place
  free-is = refl

  -- the marks that are made of the tables
  abbrev made : List Bool
  made = used_marks l.pairs s.tracings.place s.tracings.next s.edges

  -- they are right
  made_right : (q : ℕ) → q < l.pairs → get_or made q false ≡ member q used
  unfolding used_marks
  made_right q h =
      map-upto-at (λ p. member p (used_places l.pairs (record { place = s.tracings.place; id = []; next = s.tracings.next }) s.edges)) l.pairs q false h
      ∙ ap (member q) (used_places_are l.pairs s.tracings s.edges)

  -- the first that is not marked is the lowest free place
  pub free-first : free_from made 0 l.pairs ≡ free_place l s
  free-first = free-lowest made used 0 l.pairs (omega arith) (omega arith) (λ q a b. made_right q b) ∙ sym free-is

  -- with the marks made once
  pub free-start : FreeAt l s made (free_from made 0 l.pairs)
  free-start = record {
    lowest = free-first;
    most = omega (arith, free-first, free-is);
    marks = λ q a b. made_right q b;
  }

-- after an addition that takes the place, the search goes on behind it
pub free-next : (l : Limits) (s s' : State) (marks : List Bool) (free : ℕ) → FreeAt l s marks free → free < l.pairs
    → ((q : ℕ) → count_of q (used_places l.pairs s'.tracings s'.edges) ≡ bit (eqb q free) + count_of q (used_places l.pairs s.tracings s.edges))
    → FreeAt l s' marks (free_from marks (free + 1) l.pairs)
free-next l s s' marks free r h counts =
    let old = used_places l.pairs s.tracings s.edges in
    let new = used_places l.pairs s'.tracings s'.edges in
    let at : free ≡ lowest_free old = omega (arith, r.lowest, free-is l s) in
    let rise = free-rises old new (λ q. counts q ∙ ap (λ z. bit (eqb q z) + count_of q old) at) in
    let right : (q : ℕ) → free + 1 ≤ q → q < l.pairs → get_or marks q false ≡ member q new =
    λ q a b. r.marks q (omega arith) b ∙ ap (λ n. ltb 0 n) (let z : count_of q old ≡ count_of q new = omega (arith, counts q, bit-other q free (λ e. omega arith)) in z) in
    let found = free-found marks (free + 1) l.pairs (omega arith) in
    record {
      lowest = free-lowest marks new (free + 1) l.pairs (omega arith) (omega arith) right ∙ sym (free-is l s');
      most = found.high;
      marks = λ q a b. right q (omega (arith, found.low)) b;
    }

-- after one that takes none, it stays
pub free_stay : (l : Limits) (s s' : State) (marks : List Bool) (free : ℕ) → FreeAt l s marks free
    → ((q : ℕ) → count_of q (used_places l.pairs s'.tracings s'.edges) ≡ count_of q (used_places l.pairs s.tracings s.edges)) → FreeAt l s' marks free
free_stay l s s' marks free r counts =
    let old = used_places l.pairs s.tracings s.edges in
    let new = used_places l.pairs s'.tracings s'.edges in
    let same : lowest_free new ≡ lowest_free old = free-only new (lowest_free old) (counts (lowest_free old) ∙ free-out old) (λ q h. omega (arith, counts q, free-least old q h)) in
    record {
      lowest = omega (arith, r.lowest, free-is l s, free-is l s');
      most = r.most;
      marks = λ q a b. r.marks q a b ∙ ap (λ n. ltb 0 n) (sym (counts q));
    }
