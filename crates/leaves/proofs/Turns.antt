-- One turn: what it reads and writes is there, and what it leaves is the rule's.
use Prim.Native.Nat.{ℕ, suc, ◌+◌, ◌-◌, ◌<◌, ◌≤◌}
use native.Mathlib.Numerals.{add-one}
use native.Mathlib.Omega.{arith}
use mathlib.Core.Path.{◌≡◌, sym, ap, subst, ◌∙◌}
use mathlib.Core.Bool.{Bool, true}
use mathlib.Core.List.{List, ◌∷◌}
use lib.ListN.{length, get_or, set, length-set}
use lib.Seq.{drop-set-lt}
use Rattle.lists.specs.Lists.{In}
use Rattle.rules.specs.HalfEdge.{twin, edge_of}
use Rattle.rules.specs.Prune.{first_active_lem, push, take_node_lem, take_from}
use Rattle.rules.specs.Counted.{Counted}
use Rattle.rules.proofs.Dangles.{dangle, other-some}
use Rattle.rules.proofs.PruneEnds.{turn-takes, turn-leaves}
use Rattle.stars.specs.Groups.{part, group_of}
use Rattle.stars.proofs.Groups.{group_part}
use Rattle.leaves.specs.declared.Progress.{Progress}
use Rattle.leaves.specs.Given.{origin_in, Starred}
use Rattle.leaves.specs.Steps.{leaf, latest, tables_at, Reached, Takeable, top_of}
use Rattle.leaves.proofs.Latest.{latest_more, latest-set}

-- the counts with one node less on the stack
abbrev pub lower : Progress → Progress
lower at = record { stacked = at.stacked - 1; found = at.found }

module _ (nodes edges : ℕ) (offsets grouped source ds : List ℕ) (nm hm : List Bool) (s : Starred nodes edges offsets grouped source)
    (c : Counted nodes edges (group_of offsets grouped) ds nm hm) (t : ℕ) (lt : t < nodes) where
  -- its half-edges have marks
  pub part_low : (from to : ℕ) → from ≡ get_or offsets t 0 → to ≡ get_or offsets (t + 1) 0
      → (to ≤ length grouped) × ((h : ℕ) → In h (part from to grouped) → h < length hm)
  part_low from to a b = (
    omega (arith, s.ends t lt, ap (λ k. get_or offsets k 0) (add-one t)),
    λ h m. omega (arith, c.half_room, (s.stars.only t h lt (subst (λ l. In h l) (group_part offsets grouped t from to a b) m)).0),
  )

  -- node t can be taken with its first active half-edge
  pub takeable : (h : ℕ) (stack out : List ℕ) (at : Progress) → get_or ds t 0 ≡ 1 → h ≡ first_active_lem hm 0 (group_of offsets grouped t)
      → at.stacked < length stack → at.found < length out → Takeable t h source ds nm hm stack out at
  takeable h stack out at one e stack_room list_room =
      let star = group_of offsets grouped in
      let d = dangle nodes edges star (origin_in source) s.stars ds nm hm c t lt one in
      subst (λ x. Takeable t x source ds nm hm stack out at) (sym e)
      (record {
        node = omega (arith, c.degree_room);
        node_mark = omega (arith, c.node_room);
        half = omega (arith, c.half_room, d.low);
        twin_half = omega (arith, c.half_room, d.twin_low);
        twin_start = omega (arith, s.source_room, d.twin_low);
        other = omega (arith, c.degree_room, d.node);
        other_mark = omega (arith, c.node_room, d.node);
        some = other-some nodes edges star (origin_in source) s.stars ds nm hm c t lt one;
        stack_room = stack_room;
        list_room = list_room;
      })

-- the node stacked last stands before the others
pub stack_is : (stack : List ℕ) (at : Progress) → 0 < at.stacked → at.stacked ≤ length stack → latest at.stacked stack ≡ top_of stack at ∷ latest (at.stacked - 1) stack
stack_is stack at some room =
    let e : at.stacked ≡ suc (at.stacked - 1) = omega arith in
    ap (λ k. latest k stack) e ∙ latest_more (at.stacked - 1) stack (omega arith)

module _ (star : ℕ → List ℕ) (origin : ℕ → ℕ) (ds : List ℕ) (nm hm : List Bool) (stack out : List ℕ) (at : Progress)
    (some : 0 < at.stacked) (room : at.stacked ≤ length stack) where
  -- a node whose degree is no longer 1 only leaves the stack
  pub leaves : (get_or ds (top_of stack at) 0 ≡ 1 → ⊥)
      → tables_at ds nm hm stack out (lower at) ≡ take_from star origin (latest at.stacked stack) (tables_at ds nm hm stack out at)
  leaves d = sym (
      ap (λ l. take_from star origin l (tables_at ds nm hm stack out at)) (stack_is stack at some room)
      ∙ turn-leaves star origin (top_of stack at) (latest (at.stacked - 1) stack) (tables_at ds nm hm stack out at) d
      )

  -- any other is taken
  pub takes : (h : ℕ) → get_or ds (top_of stack at) 0 ≡ 1 → h ≡ first_active_lem hm 0 (star (top_of stack at))
      → take_node_lem (top_of stack at) h (origin (twin h)) (tables_at ds nm hm stack out (lower at)) ≡ take_from star origin (latest at.stacked stack) (tables_at ds nm hm stack out at)
  takes h one f = sym (
      ap (λ l. take_from star origin l (tables_at ds nm hm stack out at)) (stack_is stack at some room)
      ∙ turn-takes star origin (top_of stack at) (latest (at.stacked - 1) stack) (tables_at ds nm hm stack out at) one
      ∙ ap (λ x. take_node_lem (top_of stack at) x (origin (twin x)) (tables_at ds nm hm stack out (lower at))) (sym f)
      )

-- the tables that taking a node writes
pub taken : (n h m k : ℕ) (ds : List ℕ) (nm hm : List Bool) (stack after out : List ℕ) (at : Progress) → at.found < length out
    → latest k after ≡ push (leaf (set (set ds n 0) m (get_or ds m 0 - 1)) (set nm n true) m) m (latest at.stacked stack)
    → tables_at (set (set ds n 0) m (get_or ds m 0 - 1)) (set nm n true) (set (set hm h true) (twin h) true) after (set out at.found (edge_of h)) (record { stacked = k; found = at.found + 1 })
    ≡ take_node_lem n h m (tables_at ds nm hm stack out at)
taken n h m k ds nm hm stack after out at room e = λ i. record {
  degrees = set (set ds n 0) m (get_or ds m 0 - 1);
  node_marks = set nm n true;
  half_marks = set (set hm h true) (twin h) true;
  stack = e i;
  found = latest-set at.found (edge_of h) out room i;
}

-- how far taking a node comes
pub taken-reached : (k v : ℕ) (out after : List ℕ) (at : Progress) → at.found < length out → k ≤ length after
    → Reached at.found out (set out at.found v) after (record { stacked = k; found = at.found + 1 })
taken-reached k v out after at room few = record {
  rises = omega arith;
  stack_room = few;
  list_room = omega (arith, length-set out at.found v);
  rest = drop-set-lt (at.found + 1) out at.found v (omega arith);
}
