-- Naming makes few comparisons: a ring of n half-edges takes at most 3 n - 3, so a ring extraction at most 3 for each half-edge replied,
-- less 3 for each ring of two or more.
use Prim.Native.Nat.{ℕ, ◌+◌, ◌*◌, ◌≤◌}
use native.Mathlib.Omega.{arith}
use mathlib.Core.Path.{◌≡◌, refl, sym, ap, subst, ◌∙◌}
use mathlib.Core.List.{List, [], ◌∷◌, map}
use lib.Dec.{leb}
use lib.ListN.{length, length-append, length-map}
use borrow.Author.Tests.{le-leb, lt-leb}
use Rattle.lists.specs.Lists.{bit, upto, flatten}
use Rattle.lists.proofs.Counts.{by_lt}
use Rattle.geometry.specs.Reply.{success}
use Rattle.rotation.specs.Rotation.{Key}
use Rattle.rotation.specs.Steps.{comparisons}
use Rattle.rotation.proofs.Steps.{few-comparisons, no_comparisons}
use Rattle.rules.specs.Cycles.{Arrangement}
use Rattle.rules.specs.Split.{minimal_rings}
use Rattle.rules.specs.Face.{ring_keys_lem}
use Rattle.rules.specs.Naming.{naming_comparisons, FewComparisons}
use Rattle.rules.specs.Limits.{Limits}
use Rattle.rules.specs.State.{State, arrangement, node_key}
use Rattle.rules.specs.Ringing.{RingLists, Ringing, rings_of, ringed, ring_step}
use Rattle.rules.specs.Extraction.{Lent, RingAnswer, extract}
use Rattle.rules.specs.Claim.{rings_from}
use Rattle.rules.proofs.Replies.{rings_of-halves, ring_step-passed}
use Rattle.rules.proofs.ExtractionLaws.{extraction_rules, extract-rings}

-- of one ring
few-once : (ks : List Key) → comparisons ks + 3 * bit (leb 2 (length ks)) ≤ 3 * length ks
few-once ks = by_lt (length ks) 2
    (λ h. rw (lt-leb 2 (length ks) h) (omega (arith, no_comparisons ks h)))
    (λ h. rw (le-leb 2 (length ks) h) (omega (arith, few-comparisons ks h)))

-- a ring more
naming_more : (key : ℕ → Key) (g : Arrangement) (r : List ℕ) (rs : List (List ℕ))
    → naming_comparisons key g (r ∷ rs) ≡ comparisons (ring_keys_lem key g r) + naming_comparisons key g rs
unfolding naming_comparisons
naming_more key g r rs = refl

-- of none
naming_none : (key : ℕ → Key) (g : Arrangement) → naming_comparisons key g [] ≡ 0
unfolding naming_comparisons
naming_none key g = refl

-- of all rings
pub naming_few : (key : ℕ → Key) (g : Arrangement) (rings : List (List ℕ)) → FewComparisons rings (naming_comparisons key g rings)
naming_few key g [] = omega (arith, naming_none key g)
naming_few key g (r ∷ rs) =
    let n : length (ring_keys_lem key g r) ≡ length r = length-map r (λ h. key (g.origin h)) in
    let one : comparisons (ring_keys_lem key g r) + 3 * bit (leb 2 (length r)) ≤ 3 * length r =
    subst (λ k. comparisons (ring_keys_lem key g r) + 3 * bit (leb 2 k) ≤ 3 * k) n (few-once (ring_keys_lem key g r)) in
    omega (arith, naming_more key g r rs, naming_few key g rs, length-append r (flatten rs))

-- the figure replied
ringed-comparisons : (s : State) (out : RingLists) (r : Ringing) → (ringed s out).reply ≡ success r
    → r.comparisons ≡ naming_comparisons (node_key s) (arrangement s) (map (λ q. q.half_edges_lem) (rings_of s))
unfolding ringed
ringed-comparisons s out r e = cc

-- of every step that finds the rings and succeeds
step-comparisons : (l : Limits) (s : State) (out : RingLists) (r : Ringing) → (ring_step l s out).reply ≡ success r
    → r.comparisons ≡ naming_comparisons (node_key s) (arrangement s) (minimal_rings (arrangement s))
step-comparisons l s out r e =
    let gives = (ring_step-passed l s out r e).gives in
    ringed-comparisons s out r (ap (λ o. o.reply) (sym gives) ∙ e) ∙ ap (naming_comparisons (node_key s) (arrangement s)) (rings_of-halves s)

-- of every ring extraction that succeeds, by the rings as they stand in the replied lists
pub replied-few : (l : Limits) (s : State) (out : Lent) (r : RingAnswer) → (extract l s out).reply ≡ success r
    → FewComparisons (rings_from (extract l s out).lists.rings (upto r.ringing.count)) r.ringing.comparisons
replied-few l s out r e =
    let made = step-comparisons l s out.rings r.ringing (ap (λ o. o.reply) (extraction_rules l s out r e).before) in
    rw (extract-rings l s out r e, made) (naming_few (node_key s) (arrangement s) (minimal_rings (arrangement s)))
