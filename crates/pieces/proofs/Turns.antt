-- One turn of a fill: the node at the top of the stack is taken, and its neighbours are reached.
use Prim.Native.Nat.{ℕ, suc, ◌+◌, ◌-◌, ◌*◌, ◌<◌, ◌≤◌}
use native.Mathlib.Omega.{arith}
use mathlib.Core.Path.{◌≡◌, refl, sym, ap, ◌∙◌, subst}
use mathlib.Core.Logic.{⊎_elim}
use mathlib.Core.Bool.{Bool}
use mathlib.Core.List.{List, [], ◌∷◌, ◌++◌}
use lib.ListN.{length, get_or, take}
use lib.Seq.{take-suc}
use Rattle.lists.specs.Lists.{In}
use Rattle.lists.proofs.Counts.{in_head}
use Rattle.rules.specs.Sane.{Sane}
use Rattle.rules.specs.State.{arrangement_in}
use Rattle.rules.proofs.Roots.{near}
use Rattle.stars.specs.Grouped.{Grouped}
use Rattle.stars.specs.Groups.{group_of}
use Rattle.seeds.specs.Reach.{reach_all, reach_new, ends_of_lem, Reached, Spreadable, Takeable}
use Rattle.seeds.proofs.Reaching.{free, new_in, free_reach}
use Rattle.pieces.proofs.Filling.{Below, Filling, fill_step, in_either, in_first_lem, in_second}
use Rattle.seeds.proofs.Stars.{ends_low, ends_near}

module _ (source : List ℕ) (marks : List Bool) (offsets grouped : List ℕ) (piece : ℕ) (some : 0 < piece) (pieces stack : List ℕ) (top : ℕ) (any : 0 < top)
    (fits : top + free pieces ≤ length pieces) (deep : length pieces ≤ length stack) where
  -- the node at the top
  abbrev node : ℕ
  node = get_or stack (top - 1) 0

  -- its neighbours
  abbrev beside : List ℕ
  beside = ends_of_lem source marks (group_of offsets grouped node)

  -- the stack is what is left of it with the node on top
  pub stack-split : take top stack ≡ take (top - 1) stack ++ (node ∷ [])
  stack-split =
      let e : top ≡ suc (top - 1) = omega arith in
      ap (λ k. take k stack) e ∙ take-suc stack (top - 1) 0 (omega arith)

  -- what stands at the top is a node
  pub top_node : (nodes : ℕ) → Below nodes (take top stack) → node < nodes
  top_node nodes low = low node (subst (λ l. In node l) (sym stack-split) (in_second node (take (top - 1) stack) (node ∷ []) (in_head node node [] refl)))

  -- nodes are stacked
  pub turn_below : (nodes edges : ℕ) → Spreadable nodes edges source marks offsets grouped → Below nodes (take top stack)
      → (pieces' stack' : List ℕ) (top' : ℕ) → Reached piece beside pieces stack pieces' stack' (top - 1) top' → Below nodes (take top' stack')
  turn_below nodes edges s low pieces' stack' top' r x m = ⊎_elim
      (λ k. low x (subst (λ l. In x l) (sym stack-split) (in_first_lem x (take (top - 1) stack) (node ∷ []) k)))
      (λ k. ends_low nodes edges source marks offsets grouped s node (top_node nodes low) x (new_in piece beside pieces x k))
      (in_either x (take (top - 1) stack) (reach_new piece beside pieces) (subst (λ l. In x l) r.pushed m))

  module _ (nodes edges : ℕ) (s : Spreadable nodes edges source marks offsets grouped) (room : nodes ≤ length pieces) (low : Below nodes (take top stack)) where
    -- its neighbours are in the table
    inside : (y : ℕ) → In y beside → y < length pieces
    inside y m = omega (arith, ends_low nodes edges source marks offsets grouped s node (top_node nodes low) y m)

    -- it can be taken
    pub takes : Takeable source marks offsets grouped piece pieces stack (top - 1)
    takes = record {
      nodes = nodes;
      edges = edges;
      spreads = s;
      in_pieces = room;
      in_stack = omega arith;
      node = top_node nodes low;
      room = omega (arith, free_reach piece beside pieces inside some);
    }

    -- the stack and the nodes that have no number get fewer
    pub turn_less : (pieces' stack' : List ℕ) (top' : ℕ) → Reached piece beside pieces stack pieces' stack' (top - 1) top' → top' + free pieces' < top + free pieces
    turn_less pieces' stack' top' r = omega (arith, r.height, ap free r.numbers, free_reach piece beside pieces inside some)

  -- the fill goes on
  pub turn_fills : (nodes edges : ℕ) (star : List ℕ) → Grouped nodes source (take (2 * edges) star) offsets grouped
      → (sane : Sane (arrangement_in nodes edges source marks star)) → nodes ≤ length pieces → (old : List ℕ) (seed : ℕ)
      → (pieces' stack' : List ℕ) (top' : ℕ) → Reached piece beside pieces stack pieces' stack' (top - 1) top'
      → Filling (arrangement_in nodes edges source marks star) sane old seed piece pieces (take top stack)
      → Filling (arrangement_in nodes edges source marks star) sane old seed piece pieces' (take top' stack')
  turn_fills nodes edges star groups sane room old seed pieces' stack' top' r f =
      let g = arrangement_in nodes edges source marks star in
      let l : node < nodes = top_node nodes (λ x m. (f.stacked x m).0) in
      let e : beside ≡ near g node = ends_near nodes edges source marks offsets grouped star groups sane node l in
      let k = fill_step g sane old seed piece pieces (take (top - 1) stack) node some room (subst (Filling g sane old seed piece pieces) stack-split f) in
      subst (Filling g sane old seed piece pieces') (sym (r.pushed ∙ ap (λ b. take (top - 1) stack ++ reach_new piece b pieces) e))
      (subst (λ p. Filling g sane old seed piece p (take (top - 1) stack ++ reach_new piece (near g node) pieces))
      (sym (r.numbers ∙ ap (λ b. reach_all piece b pieces) e)) k)
