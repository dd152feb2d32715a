-- What pruning leaves of sound tables and of a sketch does not depend on the order, and the edges replied are those it marked.
use Prim.Native.Nat.{ℕ, ◌+◌, ◌*◌, ◌<◌, ◌≤◌}
use native.Mathlib.Omega.{arith}
use mathlib.Core.Path.{◌≡◌, refl, sym, ap, subst, ◌∙◌}
use mathlib.Core.Bool.{not}
use mathlib.Core.List.{List, reverse}
use lib.Dec.{leb}
use lib.ListN.{length, get_or, take, drop}
use lib.Seq.{take_at}
use borrow.Author.Tests.{not-true, not-false}
use Rattle.lists.specs.Lists.{In, over}
use Rattle.geometry.specs.Reply.{success}
use Rattle.rules.specs.HalfEdge.{edge_of}
use Rattle.map_laws.specs.AnyOrder.{PrunedAnyhow, ListsMarked}
use Rattle.rules.specs.Limits.{Limits}
use Rattle.rules.specs.State.{State, star_of, arrangement}
use Rattle.rules.specs.Adding.{Outcome, demand}
use Rattle.rules.specs.Stages.{step, pruned, prune_step}
use Rattle.lists.proofs.Counts.{count-reverse, in_reverse}
use Rattle.rules.proofs.Twin.{edge-first}
use Rattle.rules.proofs.Soundness.{Roomy, Sound, is-roomy, is-sound}
use Rattle.rules.proofs.Replies.{demand-passed, step-passed}
use Rattle.rules.proofs.Pruning.{pruned-is}
use Rattle.rules.proofs.PrunedTables.{pruned_state, sound-stars, sound-counted, pruned-leaves}
use Rattle.map_laws.proofs.PruneOrder.{prune_any_order}

-- ---- tables

module _ (l : Limits) (s : State) (ok : Sound l s) where
  -- no edge of a sound state ends where it starts
  loopless : (k : ℕ) → k < s.edges → get_or s.source (2 * k) 0 ≡ get_or s.source (2 * k + 1) 0 → ⊥
  loopless k q e = (ok.ends k q).different (e ∙ (ok.ends k q).twin_from)

  -- the active edges that pruning leaves of a sound state in stage 0 or 1
  pub sound_any_order : Roomy l s → s.stage ≤ 1 → PrunedAnyhow (arrangement s) (arrangement (pruned_state s))
  unfolding arrangement
  sound_any_order room young =
      rw (pruned-is s)
      (prune_any_order s.nodes s.edges (star_of s) (λ h. get_or s.source h 0) (sound-stars l s ok) loopless
      s.degree s.node_mark s.half_mark (sound-counted l s room ok young))

  -- the edges found are those marked
  found-marked : Roomy l s → s.stage ≡ 1 → ListsMarked (arrangement s) (arrangement (pruned_state s)) (reverse (pruned s).found)
  unfolding arrangement
  found-marked room stage =
      let r = pruned-leaves l s room ok stage in
      let f = r.listed in
      λ k. (
        λ m.
            let i = in_reverse k (pruned s).found m in
            let low = f.edges k i in
            let here : In (edge_of (2 * k)) (pruned s).found = rw (edge-first k) i in
            (low, ap not (f.before (2 * k) (omega arith) here), ap not (f.now (2 * k) (omega arith) here)),
        λ t. omega (arith, count-reverse k (pruned s).found, r.marked k t.0 (not-true _ t.1) (not-false _ t.2)),
      )

-- what a pruning answers and leaves
abbrev outcome : State → List ℕ → Outcome ℕ (List ℕ)
outcome s out = let found = reverse (pruned s).found in record { reply = success (length found); state = pruned_state s; lists = over found out }

-- pruning is its tests and then that
step_is : (l : Limits) (s : State) (out : List ℕ) → prune_step l s out ≡ step l 1 s out (demand (leb s.edges (length out)) 8 s out (outcome s out))
unfolding prune_step
step_is l s out = refl

-- a pruning that succeeds left what every order leaves, and lists what it marked
pub any_order : (l : Limits) (s : State) (out : List ℕ) (count : ℕ) → (prune_step l s out).reply ≡ success count
    → let after = arrangement (prune_step l s out).state in
    PrunedAnyhow (arrangement s) after × ListsMarked (arrangement s) after (take count (prune_step l s out).lists)
any_order l s out count e =
    let last = demand (leb s.edges (length out)) 8 s out (outcome s out) in
    let p = step-passed l 1 s out last count (ap (λ o. o.reply) (sym (step_is l s out)) ∙ e) in
    let q = demand-passed (leb s.edges (length out)) 8 s out (outcome s out) count (ap (λ o. o.reply) (sym (step_is l s out ∙ p.gives)) ∙ e) in
    let gives : prune_step l s out ≡ outcome s out = step_is l s out ∙ p.gives ∙ q.1 in
    let found = reverse (pruned s).found in
    let size : length found ≡ count = cc (ap (λ o. o.reply) gives) in
    let room = is-roomy l s p.room in
    let ok = is-sound l s p.sense in
    subst (λ o. PrunedAnyhow (arrangement s) (arrangement o.state) × ListsMarked (arrangement s) (arrangement o.state) (take count o.lists)) (sym gives) (
      sound_any_order l s ok room (omega (arith, p.before)),
      subst (ListsMarked (arrangement s) (arrangement (pruned_state s))) (sym (take_at found (drop (length found) out) count size)) (found-marked l s ok room p.before),
    )
