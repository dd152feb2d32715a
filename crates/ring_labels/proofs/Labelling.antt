-- Labelling by a walk from each half-edge that has no label yet: one walk, and one turn of the loop over the half-edges.
use Prim.Native.Nat.{ℕ, suc, ◌+◌, ◌*◌, ◌<◌, ◌≤◌}
use native.Mathlib.Omega.{arith}
use native.Mathlib.Numerals.{add-one}
use mathlib.Core.Path.{◌≡◌, refl, sym, ap, ◌∙◌}
use mathlib.Core.Bool.{Bool, true, false}
use mathlib.Core.List.{List, [], ◌∷◌, ◌++◌}
use lib.ListN.{length, get_or, set, drop, replicate, length-set, length-replicate, get_or-append}
use lib.Seq.{set-append_left, drop_at}
use Rattle.lists.specs.Lists.{In, over}
use Rattle.lists.proofs.Counts.{in_head, in_tail}
use Rattle.rules.specs.Cycles.{cycle}
use Rattle.rules.specs.Sane.{Permutes}
use Rattle.rules.proofs.CycleLaws.{cycle-live}
use Rattle.rules.proofs.Marking.{mark, stamp}
use Rattle.rules.proofs.Sweep.{cycle_stamp}
use Rattle.rules.proofs.Naming.{Named, name, name_given, name_new, name_inactive, name_has, name_label, name_used}
use Rattle.stars.specs.Groups.{unmarked}
use Rattle.ring_labels.specs.Labels.{entry_of, written, Labelled}

-- ---- one walk

-- written is marked
pub mark_written : (l : List ℕ) (a : ℕ) (table : List ℕ) → mark l a table ≡ written l a table
mark_written [] a table = refl
mark_written (h ∷ l) a table = mark_written l a (set table h a)

-- the length stays
pub length-written : (l : List ℕ) (a : ℕ) (table : List ℕ) → length (written l a table) ≡ length table
length-written [] a table = refl
length-written (h ∷ l) a table = length-written l a (set table h a) ∙ length-set table h a

-- places in the front are written there
pub written-front : (l : List ℕ) (a : ℕ) (front rest : List ℕ) → ((h : ℕ) → In h l → h < length front)
    → written l a (front ++ rest) ≡ written l a front ++ rest
written-front [] a front rest low = refl
written-front (h ∷ l) a front rest low =
    ap (written l a) (set-append_left front rest h a (low h (in_head h h l refl)))
    ∙ written-front l a (set front h a) rest (λ x m. rw (length-set front h a) (low x (in_tail x h l m)))

-- ---- the loop over the half-edges

module _ (edges : ℕ) (next : List ℕ) (marks : List Bool) (labels₀ : List ℕ) (t : Permutes (entry_of next) (2 * edges) (unmarked marks)) where
  -- what the procedure has after k half-edges
  abbrev pub after : ℕ → Named
  after k = name (entry_of next) (2 * edges) (unmarked marks) k

  -- what holds after k half-edges
  pub record Held (labels : List ℕ) (used k : ℕ) : Type 0 where
    pub inside : k ≤ 2 * edges
    pub number : used ≡ (after k).used
    pub all : labels ≡ (after k).labels ++ drop (2 * edges) labels₀

  -- a label for each half-edge
  size : (k : ℕ) → k ≤ 2 * edges → length (after k).labels ≡ 2 * edges
  size k h = (name_given (entry_of next) (2 * edges) (unmarked marks) t k h).size

  -- a label that was read is the procedure's
  held_at : (labels : List ℕ) (used k : ℕ) → k < 2 * edges → Held labels used k → get_or labels k 0 ≡ get_or (after k).labels k 0
  held_at labels used k h r =
      ap (λ l. get_or l k 0) r.all ∙ get_or-append (after k).labels (drop (2 * edges) labels₀) 0 k (omega (arith, size k (omega arith)))

  -- at first there are no labels
  pub held_first : (old : List ℕ) → labels₀ ≡ over (replicate (2 * edges) 0) old → Held labels₀ 0 0
  held_first old e =
      let n : ℕ = 2 * edges in
      let front : labels₀ ≡ replicate n 0 ++ drop n old = e ∙ ap (λ k. replicate n 0 ++ drop k old) (length-replicate {A = ℕ} n 0) in
      record {
        inside = omega arith;
        number = refl;
        all = front ∙ ap (λ r. replicate n 0 ++ r) (sym (ap (drop n) front ∙ drop_at (replicate n 0) (drop n old) n (length-replicate {A = ℕ} n 0)));
      }

  -- an active half-edge with no label: its cycle gets the next one
  pub held_new : (labels labels' : List ℕ) (used used' k : ℕ) → k < 2 * edges → unmarked marks k ≡ true → get_or labels k 0 ≡ 0
      → labels' ≡ written (cycle (entry_of next) (2 * edges) k) (used + 1) labels → used' ≡ used + 1 → Held labels used k → Held labels' used' (k + 1)
  held_new labels labels' used used' k h a e l u r =
      let f = entry_of next in
      let n : ℕ = 2 * edges in
      let ring = cycle f n k in
      let old = (after k).labels in
      let s : after (suc k) ≡ record { used = suc (after k).used; labels = stamp f (suc (after k).used) n k k old } =
      name_new f n (unmarked marks) k a (sym (held_at labels used k h r) ∙ e) in
      let v : used + 1 ≡ suc (after k).used = add-one used ∙ ap suc r.number in
      record {
        inside = omega arith;
        number = rw (add-one k, s) (u ∙ v);
        all = rw (add-one k, s) (l ∙ ap (λ z. written ring z labels) v ∙ ap (written ring (suc (after k).used)) r.all
            ∙ written-front ring (suc (after k).used) old (drop n labels₀)
            (λ x m. rw (size k (omega arith)) (cycle-live f n (unmarked marks) t k x (h, a) m).0)
            ∙ ap (λ z. z ++ drop n labels₀) (sym (cycle_stamp f n (suc (after k).used) k old ∙ mark_written ring (suc (after k).used) old)));
      }

  -- nothing changes
  held_same : (labels labels' : List ℕ) (used used' k : ℕ) → k < 2 * edges → after (suc k) ≡ after k
      → labels' ≡ labels → used' ≡ used → Held labels used k → Held labels' used' (k + 1)
  held_same labels labels' used used' k h s l u r = record {
    inside = omega arith;
    number = rw (add-one k, s) (u ∙ r.number);
    all = rw (add-one k, s) (l ∙ r.all);
  }

  -- a marked half-edge gets none
  pub held-marked : (labels labels' : List ℕ) (used used' k : ℕ) → k < 2 * edges → unmarked marks k ≡ false
      → labels' ≡ labels → used' ≡ used → Held labels used k → Held labels' used' (k + 1)
  held-marked labels labels' used used' k h a = held_same labels labels' used used' k h (name_inactive (entry_of next) (2 * edges) (unmarked marks) k a)

  -- one that has its label keeps it
  pub held-has : (labels labels' : List ℕ) (used used' k : ℕ) → k < 2 * edges → unmarked marks k ≡ true → (get_or labels k 0 ≡ 0 → ⊥)
      → labels' ≡ labels → used' ≡ used → Held labels used k → Held labels' used' (k + 1)
  held-has labels labels' used used' k h a d l u r =
      held_same labels labels' used used' k h (name_has (entry_of next) (2 * edges) (unmarked marks) k a (λ z. d (held_at labels used k h r ∙ z))) l u r

  -- at the end all are labelled
  pub held_all : (labels : List ℕ) (used k : ℕ) → k ≡ 2 * edges → Held labels used k → Labelled edges next marks labels used
  held_all labels used k e r =
      let f = entry_of next in
      let n : ℕ = 2 * edges in
      record {
        each = λ h l.
            ap (λ z. get_or z h 0) (r.all ∙ ap (λ i. (after i).labels ++ drop n labels₀) e)
            ∙ get_or-append (after n).labels (drop n labels₀) 0 h (omega (arith, size n (omega arith)))
            ∙ name_label f n (unmarked marks) t h l;
        number = r.number ∙ ap (λ i. (after i).used) e ∙ name_used f n (unmarked marks) t;
      }
