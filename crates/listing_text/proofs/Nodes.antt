-- The starting nodes of a ring, one after another.
use mathlib.Core.Path.{◌≡◌, sym, ap, ◌∙◌, subst}
use mathlib.Core.List.{List, [], ◌∷◌, ◌++◌}
use Prim.Native.Nat.{ℕ, suc, ◌+◌, ◌<◌, ◌≤◌}
use native.Mathlib.Omega.{arith}
use native.Mathlib.Numerals.{add-one}
use lib.ListN.{length, get_or, take, drop, length-drop, drop_of_length-le}
use lib.Seq.{drop-cons, get_or-take, get_or-drop, length-take-le}
use Rattle.file_rules.specs.Lines.{labelled, spaced, starting_nodes}
use Rattle.lists.proofs.Buffers.{Left}

module _ (source edges : List ℕ) (first size : ℕ) (inside : first + size ≤ length edges) where
  -- a ring has as many half-edges as it says
  pub ring-length : length (take size (drop first edges)) ≡ size
  ring-length =
      let h : size ≤ length (drop first edges) = rw length-drop (omega arith) in
      length-take-le size (drop first edges) h

  -- the node of the next half-edge, and the rest
  nodes-next : (i : ℕ) → i < size
      → starting_nodes source (drop i (take size (drop first edges))) ≡ get_or source (get_or edges (first + i) 0) 0 ∷ starting_nodes source (drop (suc i) (take size (drop first edges)))
  nodes-next i h =
      let l : i < length (take size (drop first edges)) = rw ring-length h in
      ap (starting_nodes source) (drop-cons (take size (drop first edges)) i 0 l)
      ∙ ap (λ (e : ℕ). get_or source e 0 ∷ starting_nodes source (drop (suc i) (take size (drop first edges))))
      (get_or-take size (drop first edges) i 0 h ∙ get_or-drop first edges i 0)

  -- after the last none is left
  pub nodes-end : spaced (starting_nodes source (drop size (take size (drop first edges)))) ≡ []
  nodes-end =
      let l : length (take size (drop first edges)) ≤ size = rw ring-length (omega arith) in
      ap (λ (l : List ℕ). spaced (starting_nodes source l)) (drop_of_length-le (take size (drop first edges)) l)

  -- what is left, with the next node in front
  pub left-node : {at : ℕ} {text old : List ℕ} {place : ℕ} {new : List ℕ} (i node : ℕ) → i < size → node ≡ get_or source (get_or edges (first + i) 0) 0
      → Left at text old place (spaced (starting_nodes source (drop i (take size (drop first edges))))) new
      → Left at text old place (labelled (32 ∷ []) node ++ spaced (starting_nodes source (drop (i + 1) (take size (drop first edges))))) new
  left-node {at} {text} {old} {place} {new} i node h e l =
      let s : spaced (starting_nodes source (drop i (take size (drop first edges)))) ≡ labelled (32 ∷ []) node ++ spaced (starting_nodes source (drop (i + 1) (take size (drop first edges)))) =
      ap spaced (nodes-next i h)
      ∙ ap (λ (n : ℕ). labelled (32 ∷ []) n ++ spaced (starting_nodes source (drop (suc i) (take size (drop first edges))))) (sym e)
      ∙ ap (λ (k : ℕ). labelled (32 ∷ []) node ++ spaced (starting_nodes source (drop k (take size (drop first edges))))) (sym (add-one i))
      in
      subst (λ (r : List ℕ). Left at text old place r new) s l
