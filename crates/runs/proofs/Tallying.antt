-- The tallies of the rings add up to the half-edges replied.
use Prim.Native.Nat.{ℕ}
use native.Mathlib.Omega.{arith}
use mathlib.Core.Path.{◌≡◌, refl, sym, ap, ◌∙◌}
use mathlib.Core.List.{List, [], ◌∷◌, map}
use lib.ListN.{length, take, length-append, length-map}
use Rattle.geometry.specs.Reply.{success}
use Rattle.lists.specs.Lists.{flatten, over, sum}
use Rattle.rules.specs.Limits.{Limits}
use Rattle.rules.specs.Split.{minimal_rings}
use Rattle.rules.specs.Euler.{census}
use Rattle.rules.specs.State.{State, arrangement}
use Rattle.rules.specs.Ringing.{RingLists, Ringing, rings_of, ring_replies_lem, ringed}
use Rattle.rules.proofs.Replies.{ring_step-passed, ring_step-rings}
use Rattle.rings.specs.Listing.{size_of}
use Rattle.rings.proofs.Meaning.{sizes-replied}
use Rattle.lists.proofs.Entries.{front_cut}
use Rattle.runs.specs.Tallying.{TalliesAdd}
use Rattle.extracting.proofs.Outcome.{total-is, rings-many}

-- the lengths of rows add up to the length of all in a row
sizes-sum : (rs : List (List ℕ)) → sum (map size_of rs) ≡ length (flatten rs)
sizes-sum [] = refl
sizes-sum (r ∷ rs) = omega (arith, sizes-sum rs, length-append r (flatten rs))

-- the lengths that are written
ringed_lengths : (s : State) (out : RingLists) → (ringed s out).lists.length ≡ over (map (λ w. w.length) (ring_replies_lem s (rings_of s) 0 (rings_of s))) out.length
unfolding ringed
ringed_lengths s out = refl

-- how many rings are replied, and the census
ringed-count : (s : State) (out : RingLists) (r : Ringing) → (ringed s out).reply ≡ success r → (r.count ≡ length (rings_of s)) × (r.census ≡ census (arrangement s))
unfolding ringed
ringed-count s out r e = (cc, cc)

pub tallies_add : (l : Limits) → TalliesAdd l
unfolding TalliesAdd
tallies_add l s out r e =
    let rings = minimal_rings (arrangement s) in
    let p = ring_step-passed l s out r e in
    let q = ringed-count s out r (ap (λ o. o.reply) (sym p.gives) ∙ e) in
    let many : r.count ≡ length (map size_of rings) = q.0 ∙ sym (rings-many s) ∙ sym (length-map rings size_of) in
    let lengths = ap (λ o. o.lists.length) p.gives ∙ ringed_lengths s out ∙ ap (λ row. over row out.length) (sym (sizes-replied s)) in
    let added = ap (λ z. sum (take r.count z)) lengths ∙ ap sum (front_cut (map size_of rings) out.length r.count many) ∙ sizes-sum rings in
    record {
      written = added ∙ ap (λ rs. length (flatten rs)) (sym (ring_step-rings l s out r e));
      replied = added ∙ sym (total-is l s p.sense r.census q.1);
    }
