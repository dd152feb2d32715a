-- A fill from a seed gives its number to the nodes of the seed's piece and to no other.
use Prim.Native.Nat.{ℕ, ◌<◌, ◌≤◌}
use native.Mathlib.Omega.{arith}
use mathlib.Core.Path.{◌≡◌, refl, sym, ap, ◌∙◌, subst}
use mathlib.Core.Logic.{◌⊎◌, inl, inr, ⊎_elim}
use mathlib.Core.Bool.{cond}
use mathlib.Core.List.{List, [], ◌∷◌, ◌++◌}
use lib.Dec.{eqb}
use lib.ListN.{length, get_or, set}
use lib.Seq.{get_or-set_same, get_or-set_other}
use borrow.Author.Tests.{eq-eqb, ne_eqb}
use Rattle.lists.specs.Lists.{count_of, In}
use Rattle.lists.proofs.Counts.{by_eq, bit_true, count-append, in_head}
use Rattle.rules.specs.HalfEdge.{twin}
use Rattle.rules.specs.Cycles.{Arrangement, active_star}
use Rattle.rules.specs.Paths.{Path}
use Rattle.rules.specs.Sane.{Sane}
use Rattle.rules.proofs.Values.{map_in}
use Rattle.rules.proofs.Successor.{Leaves, star-leaves, ends}
use Rattle.rules.proofs.Roots.{near, leaves_near, root_of, path-here, path-step, path-keeps, path_root, root_joins}
use Rattle.seeds.specs.Reach.{reach_all, reach_new}
use Rattle.seeds.proofs.Reaching.{reach_keeps, new_in, reach_change, reach_some}

-- a member of two lists together is one of either
pub in_either : (x : ℕ) (l m : List ℕ) → In x (l ++ m) → In x l ⊎ In x m
in_either x l m h = by_eq (count_of x l) 0 (λ e. inr (omega (arith, count-append x l m))) (λ d. inl (omega arith))

-- a member of the first is one of both together
pub in_first_lem : (x : ℕ) (l m : List ℕ) → In x l → In x (l ++ m)
in_first_lem x l m h = omega (arith, count-append x l m)

-- so is one of the second
pub in_second : (x : ℕ) (l m : List ℕ) → In x m → In x (l ++ m)
in_second x l m h = omega (arith, count-append x l m)

-- all are nodes
abbrev pub Below : ℕ → List ℕ → Type 0
Below nodes l = (x : ℕ) → In x l → x < nodes

module _ (g : Arrangement) (sane : Sane g) where
  -- a neighbour is a node of the same piece
  pub near_same : (n y : ℕ) → n < g.nodes → In y (near g n) → (y < g.nodes) × (root_of g y ≡ root_of g n)
  near_same n y l m =
      let r = map_in (λ h. g.origin (twin h)) (active_star g n) y m in
      let v : Leaves g n r.0 = star-leaves g sane n r.0 l r.1 in
      let end = g.origin (twin r.0) in
      let p : Path g n y = path-step g n r.0 y v (subst (λ z. Path g end z) r.2 (path-here g end)) in
      (subst (λ z. z < g.nodes) r.2 (ends g sane r.0 v.below), sym (path_root g sane n y p))

  module _ (old : List ℕ) (seed piece : ℕ) where
    -- What holds during a fill: only nodes of the piece have changed, to its number, and those that are not on the stack any
    -- more have given it to all their neighbours.
    pub record Filling (pieces stack : List ℕ) : Type 0 where
      pub other : (n : ℕ) → n < g.nodes → (root_of g n ≡ root_of g seed → ⊥) → get_or pieces n 0 ≡ get_or old n 0
      pub own : (n : ℕ) → n < g.nodes → root_of g n ≡ root_of g seed → (get_or pieces n 0 ≡ 0) ⊎ (get_or pieces n 0 ≡ piece)
      pub begun : get_or pieces seed 0 ≡ piece
      pub done : (n : ℕ) → n < g.nodes → get_or pieces n 0 ≡ piece → root_of g n ≡ root_of g seed
          → In n stack ⊎ ((y : ℕ) → In y (near g n) → get_or pieces y 0 ≡ piece)
      pub stacked : (n : ℕ) → In n stack → (n < g.nodes) × (root_of g n ≡ root_of g seed)

    -- a node that has the number keeps it
    has : (ns pieces : List ℕ) (x : ℕ) → 0 < piece → get_or pieces x 0 ≡ piece → get_or (reach_all piece ns pieces) x 0 ≡ piece
    has ns pieces x some e = reach_keeps piece ns pieces x (λ z. omega (arith, e, z)) ∙ e

    module _ (pieces rest : List ℕ) (n : ℕ) (some : 0 < piece) (room : g.nodes ≤ length pieces) (f : Filling pieces (rest ++ (n ∷ []))) where
      -- the node that is taken from the stack
      taken : (n < g.nodes) × (root_of g n ≡ root_of g seed)
      taken = f.stacked n (in_second n rest (n ∷ []) (in_head n n [] refl))

      -- its neighbours are nodes of the piece
      beside : (y : ℕ) → In y (near g n) → (y < g.nodes) × (root_of g y ≡ root_of g seed)
      beside y m = let r = near_same n y taken.0 m in (r.0, r.1 ∙ taken.1)

      -- they are in the table
      inside : (y : ℕ) → In y (near g n) → y < length pieces
      inside y m = omega (arith, (beside y m).0)

      -- what each node has then
      change : (x : ℕ) → (get_or (reach_all piece (near g n) pieces) x 0 ≡ get_or pieces x 0)
          ⊎ (In x (reach_new piece (near g n) pieces) × (get_or (reach_all piece (near g n) pieces) x 0 ≡ piece))
      change x = reach_change piece (near g n) pieces inside some x

      -- zero or the number
      own_then : (x : ℕ) → x < g.nodes → root_of g x ≡ root_of g seed
          → (get_or (reach_all piece (near g n) pieces) x 0 ≡ 0) ⊎ (get_or (reach_all piece (near g n) pieces) x 0 ≡ piece)
      own_then x l e = ⊎_elim
          (λ k. ⊎_elim (λ z. inl (k ∙ z)) (λ z. inr (k ∙ z)) (f.own x l e))
          (λ k. inr k.1)
          (change x)

      -- the neighbours have the number then
      reached : (y : ℕ) → In y (near g n) → get_or (reach_all piece (near g n) pieces) y 0 ≡ piece
      reached y m = ⊎_elim
          (λ z. absurd (reach_some piece (near g n) pieces inside some y m z))
          (λ z. z)
          (own_then y (beside y m).0 (beside y m).1)

      -- a node with the number is still stacked, or done
      done_then : (x : ℕ) → x < g.nodes → get_or pieces x 0 ≡ piece → root_of g x ≡ root_of g seed
          → In x (rest ++ reach_new piece (near g n) pieces) ⊎ ((y : ℕ) → In y (near g x) → get_or (reach_all piece (near g n) pieces) y 0 ≡ piece)
      done_then x l e r = ⊎_elim
          (λ m. ⊎_elim
          (λ k. inl (in_first_lem x rest (reach_new piece (near g n) pieces) k))
          (λ k. inr (λ y j. reached y (subst (λ z. In y (near g z)) (bit_true x n (omega arith)) j)))
          (in_either x rest (n ∷ []) m))
          (λ q. inr (λ y j. has (near g n) pieces y some (q y j)))
          (f.done x l e r)

      -- a node is taken, and its neighbours are reached
      pub fill_step : Filling (reach_all piece (near g n) pieces) (rest ++ reach_new piece (near g n) pieces)
      fill_step = record {
        other = λ x l d. ⊎_elim
            (λ k. k ∙ f.other x l d)
            (λ k. absurd (d (beside x (new_in piece (near g n) pieces x k.0)).1))
            (change x);
        own = own_then;
        begun = has (near g n) pieces seed some f.begun;
        done = λ x l e r. ⊎_elim
            (λ k. done_then x l (sym k ∙ e) r)
            (λ k. inl (in_second x rest (reach_new piece (near g n) pieces) k.0))
            (change x);
        stacked = λ x m. ⊎_elim
            (λ k. f.stacked x (in_first_lem x rest (n ∷ []) k))
            (λ k. beside x (new_in piece (near g n) pieces x k))
            (in_either x rest (reach_new piece (near g n) pieces) m);
      }

    -- with nothing on the stack every node of the piece has its number
    all_done : (pieces : List ℕ) → seed < g.nodes → Filling pieces [] → (n : ℕ) → n < g.nodes → root_of g n ≡ root_of g seed → get_or pieces n 0 ≡ piece
    all_done pieces l f n k e =
        (path-keeps g sane (λ x. (x < g.nodes) × (root_of g x ≡ root_of g seed) × (get_or pieces x 0 ≡ piece))
        (λ x h v q.
        let m = leaves_near g sane x h v in
        let r = near_same x (g.origin (twin h)) q.0 m in
        (r.0, r.1 ∙ q.1, ⊎_elim (λ z. absurd (omega arith)) (λ z. z (g.origin (twin h)) m) (f.done x q.0 q.2 q.1)))
        seed n (root_joins g sane seed n l k (sym e)) (l, refl, f.begun)).2

    -- and no other node has changed
    pub fill_end : (pieces : List ℕ) → seed < g.nodes → Filling pieces [] → (n : ℕ) → n < g.nodes
        → get_or pieces n 0 ≡ cond (eqb (root_of g n) (root_of g seed)) piece (get_or old n 0)
    fill_end pieces l f n k = by_eq (root_of g n) (root_of g seed)
        (λ e. rw (eq-eqb (root_of g n) (root_of g seed) e) (all_done pieces l f n k e))
        (λ d. rw (ne_eqb (root_of g n) (root_of g seed) d) (f.other n k d))

  -- the seed has its number, and is on the stack
  pub fill_begin : (first : List ℕ) (seed piece : ℕ) → 0 < piece → seed < g.nodes → g.nodes ≤ length first
      → ((n : ℕ) → n < g.nodes → root_of g n ≡ root_of g seed → get_or first n 0 ≡ 0)
      → Filling (set first seed piece) seed piece (set first seed piece) (seed ∷ [])
  fill_begin first seed piece some l room clear =
      let start : get_or (set first seed piece) seed 0 ≡ piece = get_or-set_same first seed piece 0 (omega arith) in
      record {
        other = λ n k d. refl;
        own = λ n k e. by_eq n seed
            (λ q. inr (ap (λ x. get_or (set first seed piece) x 0) q ∙ start))
            (λ d. inl (get_or-set_other first seed n piece 0 d ∙ clear n k e));
        begun = start;
        done = λ n k e r. by_eq n seed
            (λ q. inl (in_head n seed [] q))
            (λ d. absurd (omega (arith, some, e, get_or-set_other first seed n piece 0 d ∙ clear n k r)));
        stacked = λ n m. let e : n ≡ seed = bit_true n seed (omega arith) in (subst (λ x. x < g.nodes) (sym e) l, ap (root_of g) e);
      }

  -- the same, by what the nodes had before the seed got its number
  pub fill_whole : (first : List ℕ) (seed piece : ℕ) (pieces : List ℕ) → seed < g.nodes
      → Filling (set first seed piece) seed piece pieces [] → (n : ℕ) → n < g.nodes
      → get_or pieces n 0 ≡ cond (eqb (root_of g n) (root_of g seed)) piece (get_or first n 0)
  fill_whole first seed piece pieces l f n k =
      fill_end (set first seed piece) seed piece pieces l f n k
      ∙ by_eq (root_of g n) (root_of g seed)
      (λ e. rw (eq-eqb (root_of g n) (root_of g seed) e))
      (λ d. rw (ne_eqb (root_of g n) (root_of g seed) d) (get_or-set_other first seed n piece 0 (λ q. d (ap (root_of g) q))))
