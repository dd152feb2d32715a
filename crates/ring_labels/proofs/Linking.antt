-- Linking the stars one after another writes the successors.
use Prim.Native.Nat.{ℕ, zero, suc, ◌+◌, ◌-◌, ◌*◌, ◌<◌, ◌≤◌}
use native.Mathlib.Omega.{arith}
use mathlib.Core.Path.{◌≡◌, refl, sym, ap, ◌∙◌, subst}
use mathlib.Core.Bool.{Bool, true, false, cond}
use mathlib.Core.List.{List, [], ◌∷◌, ◌++◌, append-nil}
use lib.ListN.{length, get_or, set, take, drop, length-set, length-drop}
use lib.Seq.{get_or-set_same, get_or-set_other, get_or-drop, take-suc}
use borrow.Author.Tests.{eq-eqb, ne_eqb}
use Rattle.lists.specs.Lists.{pick, last_of, before, count_of, In, Distinct}
use Rattle.lists.proofs.Counts.{by_test, by_eq, bit-same}
use Rattle.lists.proofs.Members.{in_other, pick_in, pick-append, distinct-out, distinct-rest}
use Rattle.rules.specs.HalfEdge.{twin}
use Rattle.rules.specs.Cycles.{Arrangement, halves, active_star, successor}
use Rattle.rules.specs.Sane.{Sane, Live}
use Rattle.rules.specs.State.{arrangement_in}
use Rattle.rules.proofs.Scans.{last_any}
use Rattle.rules.proofs.Twin.{twin-twin, twin_injective}
use Rattle.rules.proofs.Successor.{successor-is, onward_in, ends}
use Rattle.stars.specs.Grouped.{Grouped}
use Rattle.stars.specs.Groups.{unmarked, part, group_of}
use Rattle.ring_labels.specs.Links.{link_from, link_star_lem, Linked}
use Rattle.stars.proofs.Groups.{part-cons, group_active}

-- ---- the last active half-edge of a star, from its end

-- a part and the entry behind it
part-behind : (from i j : ℕ) (l : List ℕ) → suc i ≡ j → from ≤ i → j ≤ length l → part from j l ≡ part from i l ++ (get_or l i 0 ∷ [])
part-behind from i j l s h k =
    let e : j - from ≡ suc (i - from) = omega arith in
    let f : from + (i - from) ≡ i = omega arith in
    ap (λ n. take n (drop from l)) e
    ∙ take-suc (drop from l) (i - from) 0 (omega (arith, length-drop from l))
    ∙ ap (λ x. part from i l ++ (x ∷ [])) (get_or-drop from l (i - from) 0 ∙ ap (λ n. get_or l n 0) f)

-- what stands behind a list is last
last-behind : (d x : ℕ) (s : List ℕ) → last_of d (s ++ (x ∷ [])) ≡ x
last-behind d x [] = refl
last-behind d x (y ∷ s) = last-behind y x s

module _ (p : ℕ → Bool) (from i j : ℕ) (l : List ℕ) (s : suc i ≡ j) (h : from ≤ i) (k : j ≤ length l) where
  -- an entry that passes is the last
  pub last_yes : (d : ℕ) → p (get_or l i 0) ≡ true → last_of d (pick p (part from j l)) ≡ get_or l i 0
  last_yes d e =
      ap (λ r. last_of d (pick p r)) (part-behind from i j l s h k)
      ∙ ap (last_of d) (pick-append p (part from i l) (get_or l i 0 ∷ []))
      ∙ rw e (last-behind d (get_or l i 0) (pick p (part from i l)))

  -- one that does not is passed over
  pub last_no : p (get_or l i 0) ≡ false → pick p (part from j l) ≡ pick p (part from i l)
  last_no e =
      ap (pick p) (part-behind from i j l s h k)
      ∙ pick-append p (part from i l) (get_or l i 0 ∷ [])
      ∙ rw e (append-nil (pick p (part from i l)))

-- ---- one turn of the loop over a star

-- a half-edge's twin is linked, and the half-edge is the next one's where it is active
pub link-step : (p : ℕ → Bool) (i to : ℕ) (l : List ℕ) → i < to → to ≤ length l → (previous : ℕ) (next : List ℕ)
    → link_from p (cond (p (get_or l i 0)) (get_or l i 0) previous) (part (i + 1) to l) (set next (twin (get_or l i 0)) previous) ≡ link_from p previous (part i to l) next
link-step p i to l h k previous next = sym (ap (λ s. link_from p previous s next) (part-cons i to l h k))

-- ---- what linking a star leaves

module _ (active : ℕ → Bool) where
  -- linking keeps the length
  pub length-link : (previous : ℕ) (s next : List ℕ) → length (link_from active previous s next) ≡ length next
  length-link previous [] next = refl
  length-link previous (x ∷ s) next = length-link (cond (active x) x previous) s (set next (twin x) previous) ∙ length-set next (twin x) previous

  -- only twins of the star's half-edges are written
  pub link-out : (previous : ℕ) (s next : List ℕ) (h : ℕ) → count_of h s ≡ 0 → get_or (link_from active previous s next) (twin h) 0 ≡ get_or next (twin h) 0
  link-out previous [] next h e = refl
  link-out previous (x ∷ s) next h e =
      link-out (cond (active x) x previous) s (set next (twin x) previous) h (omega arith)
      ∙ get_or-set_other next (twin x) (twin h) previous 0 (λ z. omega (arith, bit-same h x (twin_injective h x z)))

  -- an active half-edge's twin gets the active one before it
  pub link_at : (previous : ℕ) (s next : List ℕ) (h : ℕ) → Distinct s → In h s → active h ≡ true → twin h < length next
      → get_or (link_from active previous s next) (twin h) 0 ≡ before previous h (pick active s)
  link_at previous [] next h d m a l = absurd (omega arith)
  link_at previous (x ∷ s) next h d m a l = by_eq x h
      (λ e.
      let first : active x ≡ true = ap active e ∙ a in
      rw (first, eq-eqb x h e) (link-out x s (set next (twin x) previous) h
      (by_eq (count_of h s) 0 (λ z. z) (λ z. absurd (distinct-out x s d (subst (λ y. In y s) (sym e) (omega arith)))))
      ∙ subst (λ y. get_or (set next (twin x) previous) (twin y) 0 ≡ previous) e (get_or-set_same next (twin x) previous 0 (subst (λ y. twin y < length next) (sym e) l))))
      (λ n.
      let rest : (b : ℕ) → get_or (link_from active b s (set next (twin x) previous)) (twin h) 0 ≡ before b h (pick active s) =
      λ b. link_at b s (set next (twin x) previous) h (distinct-rest x s d) (in_other h x s n m) a (omega (arith, length-set next (twin x) previous)) in
      by_test (active x) (λ t. rw (t, ne_eqb x h n) (rest x)) (λ t. rw t (rest previous)))

-- ---- star by star

-- the stars of the first n nodes in turn
abbrev pub link_nodes : (ℕ → Bool) → List ℕ → List ℕ → ℕ → List ℕ → List ℕ
link_nodes active offsets grouped zero next = next
link_nodes active offsets grouped (suc n) next = link_star_lem active (group_of offsets grouped n) (link_nodes active offsets grouped n next)

-- the length stays
pub length-nodes : (active : ℕ → Bool) (offsets grouped : List ℕ) (n : ℕ) (next : List ℕ) → length (link_nodes active offsets grouped n next) ≡ length next
length-nodes active offsets grouped zero next = refl
length-nodes active offsets grouped (suc n) next =
    let s = group_of offsets grouped n in
    length-link active (last_of 0 (pick active s)) s (link_nodes active offsets grouped n next) ∙ length-nodes active offsets grouped n next

module _ (nodes edges : ℕ) (source : List ℕ) (marks : List Bool) (star offsets grouped : List ℕ)
    (groups : Grouped nodes source (take (2 * edges) star) offsets grouped) (sane : Sane (arrangement_in nodes edges source marks star)) where
  -- the arrangement of the tables
  abbrev held : Arrangement
  held = arrangement_in nodes edges source marks star

  module _ (next : List ℕ) (room : 2 * edges ≤ length next) where
    -- once its end's star is linked, a half-edge has its successor
    linked_after : (n : ℕ) → n ≤ nodes → (h : ℕ) → Live (halves held) held.active h → held.origin (twin h) < n
        → get_or (link_nodes (unmarked marks) offsets grouped n next) h 0 ≡ successor held h
    linked_after zero l h a q = absurd (omega arith)
    linked_after (suc n) l h a q =
        let p = unmarked marks in
        let whole = group_of offsets grouped n in
        let s = pick p whole in
        let t = link_nodes p offsets grouped n next in
        let same : s ≡ active_star held n = group_active nodes edges source marks star offsets grouped groups sane n l in
        let m : In (twin h) (active_star held (held.origin (twin h))) = onward_in held sane h a.0 a.1 in
        by_eq (held.origin (twin h)) n
        (λ e.
        let k : In (twin h) s = subst (λ r. In (twin h) r) (sym same) (subst (λ z. In (twin h) (active_star held z)) e m) in
        let there = pick_in p (twin h) whole k in
        let low : twin (twin h) < length t = rw (twin-twin h, length-nodes p offsets grouped n next) (omega (arith, a.0)) in
        ap (λ z. get_or (link_from p (last_of 0 s) whole t) z 0) (sym (twin-twin h))
        ∙ link_at p (last_of 0 s) whole t (twin h) (subst (λ r. Distinct r) (sym (groups.stars n l)) (sane.once n l)) there.0 there.1 low
        ∙ ap (λ r. before r (twin h) s) (last_any 0 (twin h) (twin h) s k)
        ∙ ap (λ r. before (last_of (twin h) r) (twin h) r) (same ∙ ap (active_star held) (sym e))
        ∙ sym (successor-is held h))
        (λ d.
        ap (λ z. get_or (link_from p (last_of 0 s) whole t) z 0) (sym (twin-twin h))
        ∙ link-out p (last_of 0 s) whole t (twin h) (by_eq (count_of (twin h) whole) 0 (λ z. z) (λ z.
        absurd (d (sane.only n (twin h) l (subst (λ r. In (twin h) r) (groups.stars n l) (omega arith))).1)))
        ∙ ap (λ z. get_or t z 0) (twin-twin h)
        ∙ linked_after n (omega arith) h a (omega arith))

-- all stars linked: every successor is there
pub linked : (nodes edges : ℕ) (marks : List Bool) (offsets grouped next : List ℕ) → 2 * edges ≤ length next
    → Linked nodes edges marks offsets grouped (link_nodes (unmarked marks) offsets grouped nodes next)
linked nodes edges marks offsets grouped next room source star groups sane h a =
    linked_after nodes edges source marks star offsets grouped groups sane next room nodes (omega arith) h a
    (ends (arrangement_in nodes edges source marks star) sane h a.0)
