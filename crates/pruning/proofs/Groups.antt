-- Pruning reads only the stars of nodes: where these agree, so does what it makes of the tables.
use Prim.Native.Nat.{ℕ, zero, suc, ◌+◌, ◌<◌, ◌≤◌}
use mathlib.Core.Path.{◌≡◌, refl, sym, ap, subst, ◌∙◌}
use mathlib.Core.Bool.{Bool, true, false}
use mathlib.Core.List.{List, [], ◌∷◌}
use lib.Dec.{eqb}
use lib.ListN.{length, get_or}
use Rattle.lists.specs.Lists.{count_of, pick, In}
use Rattle.lists.proofs.Counts.{in_head}
use Rattle.rules.specs.HalfEdge.{twin}
use Rattle.rules.specs.Prune.{Pruning, first_active_lem, take_node_lem, pop, take_if, take_from, turns, prune}
use Rattle.rules.specs.Counted.{unmarked, Stars, Counted}
use Rattle.rules.proofs.Pruning.{start, prune-is}
use Rattle.rules.proofs.Dangles.{Kept, kept-turn}
use Rattle.rules.proofs.PruneEnds.{kept-start}

module _ (n e : ℕ) (star other : ℕ → List ℕ) (origin : ℕ → ℕ) (same : (i : ℕ) → i < n → star i ≡ other i) (g : Stars n e star origin) where
  -- the other stars list the half-edges as well
  pub stars_agree : Stars n e other origin
  stars_agree = record {
    begins = g.begins;
    has = λ h q. subst (λ z. In h z) (same (origin h) (g.begins h q)) (g.has h q);
    only = λ i h q m. g.only i h q (subst (λ z. In h z) (sym (same i q)) m);
    once = λ i q x. subst (λ z. count_of x z ≤ 1) (same i q) (g.once i q x);
  }

  -- the tables count right by them
  pub counted_agree : (ds : List ℕ) (nm hm : List Bool) → Counted n e star ds nm hm → Counted n e other ds nm hm
  counted_agree ds nm hm c = record {
    degree_room = c.degree_room;
    node_room = c.node_room;
    half_room = c.half_room;
    counts = λ i q. c.counts i q ∙ ap (λ z. length (pick (unmarked hm) z)) (same i q);
    idle = c.idle;
    twins = c.twins;
  }

  -- a node taken or not
  if_agree : (b : Bool) (t : ℕ) (p : Pruning) → t < n → take_if star origin b t p ≡ take_if other origin b t p
  if_agree false t p q = refl
  if_agree true t p q = ap (λ s. let h = first_active_lem p.half_marks 0 s in take_node_lem t h (origin (twin h)) p) (same t q)

  -- one turn
  from_agree : (l : List ℕ) (p : Pruning) → ((x : ℕ) → In x l → x < n) → take_from star origin l p ≡ take_from other origin l p
  from_agree [] p low = refl
  from_agree (t ∷ ns) p low = if_agree (eqb (get_or p.degrees t 0) 1) t (pop p ns) (low t (in_head t t ns refl))

  -- k turns
  turns_agree : (old : List Bool) (k : ℕ) (p : Pruning) → Kept n e star old p → turns star origin k p ≡ turns other origin k p
  turns_agree old zero p q = refl
  turns_agree old (suc k) p q =
      turns_agree old k (take_from star origin p.stack p) (kept-turn n e star origin g old p q)
      ∙ ap (turns other origin k) (from_agree p.stack p q.waiting.nodes)

  -- the whole of pruning
  pub prune_agree : (ds : List ℕ) (nm hm : List Bool) → Counted n e star ds nm hm → prune star origin n e ds nm hm ≡ prune other origin n e ds nm hm
  prune_agree ds nm hm c =
      prune-is star origin n e ds nm hm
      ∙ turns_agree hm (n + e) (start n ds nm hm) (kept-start n e star origin g ds nm hm c)
      ∙ sym (prune-is other origin n e ds nm hm)
