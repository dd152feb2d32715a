-- Cutting edge by edge: the test of an edge, and one turn of the loop.
use Prim.Native.Nat.{ℕ, suc, ◌+◌, ◌*◌, ◌<◌, ◌≤◌}
use native.Mathlib.Omega.{arith}
use native.Mathlib.Numerals.{add-one}
use mathlib.Core.Path.{◌≡◌, refl, sym, ap, ap₂, ◌∙◌}
use mathlib.Core.Bool.{Bool, true, false, not, ◌&&◌}
use mathlib.Core.List.{List, [], ◌∷◌, ◌++◌}
use lib.Dec.{eqb}
use lib.ListN.{length, get_or, set}
use lib.Seq.{get_or-set_other}
use Rattle.lists.specs.Lists.{below, bit, In, over}
use Rattle.lists.proofs.Counts.{by_test, in_head, in_tail, below_yes, below_no, below_le, length-below}
use Rattle.lists.proofs.Members.{below_in}
use Rattle.rules.specs.Stages.{mark_edges}
use Rattle.stars.specs.Groups.{unmarked}
use Rattle.cycles.specs.Cuts.{cut_by, cuts_by}
use Rattle.ring_labels.proofs.Entries.{over-set}

-- ---- the test of an edge

module _ (marks : List Bool) (labels : List ℕ) (k : ℕ) where
  -- the first half is marked
  pub cut-first : get_or marks (2 * k) true ≡ true → cut_by marks labels k ≡ false
  cut-first e = rw e

  -- the second half is marked
  pub cut-second : get_or marks (2 * k + 1) true ≡ true → cut_by marks labels k ≡ false
  cut-second e = rw e (by_test (get_or marks (2 * k) true) (λ q. rw q) (λ q. rw q))

  -- neither is: their labels decide
  pub cut_labels : get_or marks (2 * k) true ≡ false → get_or marks (2 * k + 1) true ≡ false
      → cut_by marks labels k ≡ eqb (get_or labels (2 * k) 0) (get_or labels (2 * k + 1) 0)
  cut_labels e f = rw (e, f)

-- ---- marks of edges

-- one edge more
mark_more : (ks : List ℕ) (k : ℕ) (marks : List Bool) → mark_edges (ks ++ (k ∷ [])) marks ≡ set (set (mark_edges ks marks) (2 * k) true) (2 * k + 1) true
mark_more [] k marks = refl
mark_more (x ∷ ks) k marks = mark_more ks k (set (set marks (2 * x) true) (2 * x + 1) true)

-- marks of edges below k change none from edge k on
mark_past : (ks : List ℕ) (marks : List Bool) (k h : ℕ) → ((x : ℕ) → In x ks → x < k) → 2 * k ≤ h → get_or (mark_edges ks marks) h true ≡ get_or marks h true
mark_past [] marks k h low l = refl
mark_past (x ∷ ks) marks k h low l =
    let q : x < k = low x (in_head x x ks refl) in
    let a : h ≡ 2 * x + 1 → ⊥ = λ e. omega arith in
    let b : h ≡ 2 * x → ⊥ = λ e. omega arith in
    mark_past ks (set (set marks (2 * x) true) (2 * x + 1) true) k h (λ y m. low y (in_tail y x ks m)) l
    ∙ get_or-set_other (set marks (2 * x) true) (2 * x + 1) h true true a
    ∙ get_or-set_other marks (2 * x) h true true b

-- ---- the loop over the edges

module _ (labels : List ℕ) (marks₀ : List Bool) (out₀ : List ℕ) where
  -- what holds after k edges: those among them that pass the test at first are marked, listed and counted
  pub record Passed (marks : List Bool) (out : List ℕ) (count k : ℕ) : Type 0 where
    pub number : count ≡ length (cuts_by k marks₀ labels)
    pub marked : marks ≡ mark_edges (cuts_by k marks₀ labels) marks₀
    pub listed : out ≡ over (cuts_by k marks₀ labels) out₀

  -- the next edge has the marks that it had at first
  pub passed_test : (marks : List Bool) (out : List ℕ) (count k : ℕ) → Passed marks out count k → cut_by marks labels k ≡ cut_by marks₀ labels k
  passed_test marks out count k r =
      let low : (x : ℕ) → In x (cuts_by k marks₀ labels) → x < k = λ x m. (below_in (cut_by marks₀ labels) k x m).0 in
      let at : (h : ℕ) → 2 * k ≤ h → unmarked marks h ≡ unmarked marks₀ h =
      λ h l. ap (λ z. not (get_or z h true)) r.marked ∙ ap not (mark_past (cuts_by k marks₀ labels) marks₀ k h low l) in
      ap₂ (λ a b. a && (b && eqb (get_or labels (2 * k) 0) (get_or labels (2 * k + 1) 0))) (at (2 * k) (omega arith)) (at (2 * k + 1) (omega arith))

  -- an edge that passes is marked and listed
  pub passed_yes : (marks marks' : List Bool) (out out' : List ℕ) (count count' k : ℕ) → k < length out₀ → cut_by marks labels k ≡ true
      → marks' ≡ set (set marks (2 * k) true) (2 * k + 1) true → out' ≡ set out count k → count' ≡ count + 1
      → Passed marks out count k → Passed marks' out' count' (k + 1)
  passed_yes marks marks' out out' count count' k h e m o u r =
      let t = cut_by marks₀ labels in
      let s : below t (suc k) ≡ below t k ++ (k ∷ []) = below_yes t k (sym (passed_test marks out count k r) ∙ e) in
      rw (add-one k) (record {
        number = omega (arith, u, r.number, length-below t k, ap bit (sym (passed_test marks out count k r) ∙ e));
        marked = rw s (m ∙ ap (λ z. set (set z (2 * k) true) (2 * k + 1) true) r.marked ∙ sym (mark_more (below t k) k marks₀));
        listed = rw s (o ∙ ap₂ (λ a b. set a b k) r.listed r.number ∙ over-set (below t k) out₀ k (omega (arith, below_le t k)));
      })

  -- any other is passed over
  pub passed_no : (marks marks' : List Bool) (out out' : List ℕ) (count count' k : ℕ) → cut_by marks labels k ≡ false
      → marks' ≡ marks → out' ≡ out → count' ≡ count → Passed marks out count k → Passed marks' out' count' (k + 1)
  passed_no marks marks' out out' count count' k e m o u r =
      let t = cut_by marks₀ labels in
      let s : below t (suc k) ≡ below t k = below_no t k (sym (passed_test marks out count k r) ∙ e) in
      rw (add-one k) (record {
        number = u ∙ r.number ∙ ap length (sym s);
        marked = rw s (m ∙ r.marked);
        listed = rw s (o ∙ r.listed);
      })
