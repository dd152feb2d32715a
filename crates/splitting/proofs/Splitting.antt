-- Going through a star twice writes the successors after splitting.
use Prim.Native.Nat.{ℕ, ◌+◌, ◌*◌, ◌<◌, ◌≤◌}
use native.Mathlib.Omega.{arith}
use mathlib.Core.Path.{◌≡◌, refl, sym, ap, ap₂, ◌∙◌, subst}
use mathlib.Core.Bool.{Bool}
use mathlib.Core.List.{List, [], ◌∷◌}
use lib.Dec.{eqb}
use lib.ListN.{length, get_or, set, take, length-set, length-map}
use lib.Seq.{get_or-set_same, get_or-set_other}
use borrow.Author.Tests.{eq-eqb, ne_eqb}
use Rattle.lists.specs.Lists.{pick, count_of, In}
use Rattle.lists.proofs.Counts.{by_test, by_eq, bit-same, in_head, in_tail, below_le}
use Rattle.lists.proofs.Members.{in_other}
use Rattle.lists.proofs.Passing.{pick_agree}
use Rattle.lists.proofs.Rounds.{head_of, from}
use Rattle.rules.specs.HalfEdge.{twin}
use Rattle.rules.specs.Cycles.{Arrangement, halves, active_star, successor, label, cycle, starts, is_start}
use Rattle.rules.specs.Split.{split_successor}
use Rattle.rules.specs.Sane.{Sane, Live}
use Rattle.rules.specs.Limits.{Limits}
use Rattle.rules.specs.State.{arrangement_in}
use Rattle.rules.proofs.Twin.{twin-twin, twin_injective}
use Rattle.rules.proofs.Successor.{onward, onward_in, star-leaves, ends}
use Rattle.rules.proofs.Splitting.{split-first, successor-alike}
use Rattle.rules.proofs.LabelLaws.{label_inactive, label_le}
use Rattle.rules.proofs.Rings.{label_is, labels, split_successor-is, successor-permutes}
use Rattle.stars.specs.Grouped.{Grouped}
use Rattle.stars.proofs.Groups.{group_active, groups-within}
use Rattle.stars.specs.Groups.{unmarked, group_of}
use Rattle.splitting.specs.Splits.{entry_of, noted, relinked, Splittable, Split}

-- ---- lists

-- the first of a list with a member
head_any : (a b x : ℕ) (l : List ℕ) → In x l → head_of a l ≡ head_of b l
head_any a b x [] m = absurd (omega arith)
head_any a b x (y ∷ l) m = refl

-- what stands from e on stands in the list
from_in : (e x : ℕ) (l : List ℕ) → In x (from e l) → In x l
from_in e x [] m = m
from_in e x (y ∷ l) m = by_test (eqb y e)
    (λ t. rw t at m)
    (λ t. in_tail x y l (from_in e x l (rw t at m)))

-- ---- one star

module _ (lab : ℕ → ℕ) where
  -- noting keeps the length
  pub length-noted : (s upcoming : List ℕ) → length (noted lab s upcoming) ≡ length upcoming
  length-noted [] upcoming = refl
  length-noted (x ∷ s) upcoming = length-set (noted lab s upcoming) (lab x) x ∙ length-noted s upcoming

  -- so does relinking
  pub length-relinked : (upcoming s next : List ℕ) → length (relinked lab upcoming s next) ≡ length next
  length-relinked upcoming [] next = refl
  length-relinked upcoming (x ∷ s) next =
      length-set (relinked lab upcoming s next) (twin x) (get_or (noted lab (x ∷ s) upcoming) (lab (twin x)) 0) ∙ length-relinked upcoming s next

  -- under a label stands the first half-edge of that label
  noted-at : (l : ℕ) (s upcoming : List ℕ) → ((h : ℕ) → In h s → lab h < length upcoming)
      → get_or (noted lab s upcoming) l 0 ≡ head_of (get_or upcoming l 0) (pick (λ i. eqb (lab i) l) s)
  noted-at l [] upcoming low = refl
  noted-at l (x ∷ s) upcoming low = by_eq (lab x) l
      (λ e. rw (eq-eqb (lab x) l e) (subst (λ z. get_or (set (noted lab s upcoming) (lab x) x) z 0 ≡ x) e
      (get_or-set_same (noted lab s upcoming) (lab x) x 0 (omega (arith, length-noted s upcoming, low x (in_head x x s refl))))))
      (λ n. rw (ne_eqb (lab x) l n) (get_or-set_other (noted lab s upcoming) (lab x) l x 0 (λ z. n (sym z))
      ∙ noted-at l s upcoming (λ h m. low h (in_tail h x s m))))

  -- only twins of the star's half-edges are written
  relinked-out : (upcoming s next : List ℕ) (h : ℕ) → count_of h s ≡ 0 → get_or (relinked lab upcoming s next) (twin h) 0 ≡ get_or next (twin h) 0
  relinked-out upcoming [] next h e = refl
  relinked-out upcoming (x ∷ s) next h e =
      get_or-set_other (relinked lab upcoming s next) (twin x) (twin h) (get_or (noted lab (x ∷ s) upcoming) (lab (twin x)) 0) 0
      (λ z. omega (arith, bit-same h x (twin_injective h x z)))
      ∙ relinked-out upcoming s next h (omega arith)

  -- a half-edge's twin gets what is noted under its label from that place on
  relinked-at : (upcoming s next : List ℕ) (h : ℕ) → In h s → twin h < length next
      → get_or (relinked lab upcoming s next) (twin h) 0 ≡ get_or (noted lab (from h s) upcoming) (lab (twin h)) 0
  relinked-at upcoming [] next h m l = absurd (omega arith)
  relinked-at upcoming (x ∷ s) next h m l =
      let r = relinked lab upcoming s next in
      let v = get_or (noted lab (x ∷ s) upcoming) (lab (twin x)) 0 in
      by_eq x h
      (λ e. rw (eq-eqb x h e) (subst (λ z. get_or (set r (twin x) v) (twin z) 0 ≡ get_or (noted lab (x ∷ s) upcoming) (lab (twin z)) 0) e
      (get_or-set_same r (twin x) v 0 (subst (λ z. twin z < length r) (sym e) (omega (arith, length-relinked upcoming s next))))))
      (λ n. rw (ne_eqb x h n) (get_or-set_other r (twin x) (twin h) v 0 (λ z. n (sym (twin_injective h x z)))
      ∙ relinked-at upcoming s next h (in_other h x s n m) l))

  -- after both passes: the first of its label from that place on, or else the first of all
  both_passes : (upcoming s next : List ℕ) (h : ℕ) → In h s → twin h < length next → ((x : ℕ) → In x s → lab x < length upcoming)
      → let q : ℕ → Bool = λ i. eqb (lab i) (lab (twin h)) in
      get_or (relinked lab (noted lab s upcoming) s next) (twin h) 0 ≡ head_of (head_of (get_or upcoming (lab (twin h)) 0) (pick q s)) (pick q (from h s))
  both_passes upcoming s next h m l low =
      let k : ℕ = lab (twin h) in
      let q : ℕ → Bool = λ i. eqb (lab i) k in
      relinked-at (noted lab s upcoming) s next h m l
      ∙ noted-at k (from h s) (noted lab s upcoming) (λ x i. rw (length-noted s upcoming) (low x (from_in h x s i)))
      ∙ ap (λ z. head_of z (pick q (from h s))) (noted-at k s upcoming low)

-- ---- star by star

-- once the stars of the first n nodes are split, the half-edges that end there have their successors
abbrev pub SplitBelow : ℕ → ℕ → List ℕ → List ℕ → List Bool → List ℕ → ℕ → List ℕ → Type 0
SplitBelow nodes edges offsets grouped marks labels n next =
    (source star : List ℕ) → Grouped nodes source (take (2 * edges) star) offsets grouped → Sane (arrangement_in nodes edges source marks star)
    → let g = arrangement_in nodes edges source marks star in ((h : ℕ) → h < halves g → get_or labels h 0 ≡ label g h)
    → (h : ℕ) → Live (halves g) g.active h → g.origin (twin h) < n → get_or next h 0 ≡ split_successor g h

module _ (nodes edges : ℕ) (source : List ℕ) (marks : List Bool) (star offsets grouped table : List ℕ)
    (groups : Grouped nodes source (take (2 * edges) star) offsets grouped) (sane : Sane (arrangement_in nodes edges source marks star))
    (same : (h : ℕ) → h < halves (arrangement_in nodes edges source marks star) → get_or table h 0 ≡ label (arrangement_in nodes edges source marks star) h) where
  -- the arrangement of the tables
  abbrev held : Arrangement
  held = arrangement_in nodes edges source marks star

  -- a half-edge that ends at node n gets its successor there
  split-here : (upcoming next : List ℕ) → ((h : ℕ) → h < 2 * edges → get_or table h 0 < length upcoming) → 2 * edges ≤ length next
      → (h : ℕ) → Live (halves held) held.active h → let s = active_star held (held.origin (twin h)) in
      get_or (relinked (entry_of table) (noted (entry_of table) s upcoming) s next) h 0 ≡ split_successor held h
  split-here upcoming next low room h a =
      let lab = entry_of table in
      let s = onward held h in
      let at : (x : ℕ) → In x s → x < 2 * edges = λ x m. (star-leaves held sane (held.origin (twin h)) x (ends held sane h a.0) m).below in
      let q : ℕ → Bool = λ i. eqb (lab i) (lab h) in
      let p : ℕ → Bool = λ i. eqb (label held i) (label held h) in
      let agree : (l : List ℕ) → ((x : ℕ) → In x l → In x s) → pick q l ≡ pick p l =
      λ l i. pick_agree q p l (λ x m. ap₂ eqb (same x (at x (i x m))) (same h a.0)) in
      let back : twin (twin h) < length next = rw (twin-twin h) (omega (arith, a.0)) in
      ap (λ z. get_or (relinked lab (noted lab s upcoming) s next) z 0) (sym (twin-twin h))
      ∙ both_passes lab upcoming s next (twin h) (onward_in held sane h a.0 a.1) back (λ x m. low x (at x m))
      ∙ ap (λ z. head_of (head_of (get_or upcoming (lab z) 0) (pick (λ i. eqb (lab i) (lab z)) s)) (pick (λ i. eqb (lab i) (lab z)) (from (twin h) s))) (twin-twin h)
      ∙ ap₂ (λ u v. head_of (head_of (get_or upcoming (lab h) 0) u) v) (agree s (λ x m. m)) (agree (from (twin h) s) (λ x m. from_in (twin h) x s m))
      ∙ ap (λ z. head_of z (pick p (from (twin h) s)))
      (head_any (get_or upcoming (lab h) 0) (successor held h) (successor held h) (pick p s) (successor-alike held sane (label held) (labels held sane) h a.0 a.1))
      ∙ sym (split_successor-is held h ∙ split-first held sane (label held) (labels held sane) h a.0 a.1)

  -- one that ends elsewhere keeps its successor
  split-there : (upcoming next : List ℕ) (n : ℕ) → n < nodes → (h : ℕ) → (held.origin (twin h) ≡ n → ⊥)
      → get_or (relinked (entry_of table) upcoming (active_star held n) next) h 0 ≡ get_or next h 0
  split-there upcoming next n l h d =
      let s = active_star held n in
      ap (λ z. get_or (relinked (entry_of table) upcoming s next) z 0) (sym (twin-twin h))
      ∙ relinked-out (entry_of table) upcoming s next (twin h) (by_eq (count_of (twin h) s) 0 (λ z. z) (λ z.
      absurd (d (star-leaves held sane n (twin h) l (omega arith)).origin)))
      ∙ ap (λ z. get_or next z 0) (twin-twin h)

module _ (nodes edges : ℕ) (offsets grouped : List ℕ) (marks : List Bool) (table : List ℕ) where
  -- one star more
  pub split_step : (upcoming next next' : List ℕ) (n : ℕ) → n < nodes → ((h : ℕ) → h < 2 * edges → get_or table h 0 < length upcoming) → 2 * edges ≤ length next
      → let s = pick (unmarked marks) (group_of offsets grouped n) in next' ≡ relinked (entry_of table) (noted (entry_of table) s upcoming) s next
      → SplitBelow nodes edges offsets grouped marks table n next → SplitBelow nodes edges offsets grouped marks table (n + 1) next'
  split_step upcoming next next' n l low room e r source star groups sane same h a q =
      let g = arrangement_in nodes edges source marks star in
      let lab = entry_of table in
      let e₁ : next' ≡ relinked lab (noted lab (active_star g n) upcoming) (active_star g n) next =
      e ∙ ap (λ s. relinked lab (noted lab s upcoming) s next) (group_active nodes edges source marks star offsets grouped groups sane n l) in
      ap (λ z. get_or z h 0) e₁ ∙ by_eq (g.origin (twin h)) n
      (λ d. subst (λ z. get_or (relinked lab (noted lab (active_star g z) upcoming) (active_star g z) next) h 0 ≡ split_successor g h) d
      (split-here nodes edges source marks star offsets grouped table groups sane same upcoming next low room h a))
      (λ d. split-there nodes edges source marks star offsets grouped table groups sane same (noted lab (active_star g n) upcoming) next n l h d
      ∙ r source star groups sane same h a (omega arith))

  -- after the last star all have theirs
  pub split-all : (next : List ℕ) (n : ℕ) → n ≡ nodes → SplitBelow nodes edges offsets grouped marks table n next → Split nodes edges offsets grouped marks table next
  split-all next n e r source star groups sane same h a =
      r source star groups sane same h a (omega (arith, ends (arrangement_in nodes edges source marks star) sane h a.0))

-- ---- for callers: what splitting asks holds of grouped stars and their labels

-- no label is above the number of half-edges
pub label-low : (g : Arrangement) → Sane g → (h : ℕ) → h < halves g → label g h ≤ halves g
label-low g sane h l =
    let n : ℕ = halves g in
    let f = successor g in
    rw (label_is g h) (by_test (g.active h)
    (λ a. omega (
      arith,
      label_le f n g.active (successor-permutes g sane) h (l, a),
      length-map (starts f n g.active) (cycle f n),
      below_le (is_start f n g.active) n,
    ))
    (λ a. omega (arith, label_inactive f n g.active h a)))

-- the record that `split_rings` asks for
pub splittable : (l : Limits) (nodes edges : ℕ) (source : List ℕ) (marks : List Bool) (star offsets grouped table next : List ℕ) → edges ≤ l.edges
    → Grouped nodes source (take (2 * edges) star) offsets grouped → Sane (arrangement_in nodes edges source marks star)
    → ((h : ℕ) → h < 2 * edges → get_or table h 0 ≡ label (arrangement_in nodes edges source marks star) h)
    → 2 * edges ≤ length marks → 2 * edges ≤ length table → 2 * edges ≤ length next
    → Splittable l nodes edges offsets grouped marks table next
splittable l nodes edges source marks star offsets grouped table next few groups sane same a b c = record {
  few = few;
  groups = groups-within nodes edges source marks star offsets grouped groups sane;
  in_marks = a;
  in_labels = b;
  in_next = c;
  low = λ h k. omega (arith, same h k, label-low (arrangement_in nodes edges source marks star) sane h k);
}
