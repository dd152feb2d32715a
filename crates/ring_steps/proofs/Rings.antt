-- The rings of a sound graph, as its ring file wants them.
use Prim.Native.Nat.{ℕ, ◌*◌, ◌<◌}
use native.Mathlib.Omega.{arith}
use mathlib.Core.Path.{◌≡◌, sym, ap, ◌∙◌}
use mathlib.Core.Bool.{Bool}
use mathlib.Core.List.{[]}
use lib.ListN.{length, get_or, length-map, get_or-map}
use Rattle.rules.specs.Face.{Ring}
use Rattle.rules.specs.Limits.{limits}
use Rattle.rules.specs.State.{State, arrangement}
use Rattle.rules.specs.Split.{minimal_rings}
use Rattle.rules.specs.Going.{Held}
use Rattle.rules.specs.Listing.{no_ring}
use Rattle.rules.specs.Ringing.{rings_of, RingLists}
use Rattle.rules.proofs.Replies.{rings_of-halves}
use Rattle.rules.proofs.Going.{held_stays}
use Rattle.rules.proofs.Tables.{sound-sane}
use Rattle.extracting.proofs.Starts.{ring-some}
use Rattle.map_steps.specs.Rings.{Rung}
use Rattle.ring_records.specs.Given.{Listed}

-- none is empty
rings-some : (s : State) → Held limits s → (k : ℕ) → k < length (rings_of s) → 0 < length (get_or (rings_of s) k no_ring).half_edges_lem
rings-some s held k h =
    let hs = minimal_rings (arrangement s) in
    let e : get_or hs k [] ≡ (get_or (rings_of s) k no_ring).half_edges_lem = ap (λ l. get_or l k []) (sym (rings_of-halves s)) ∙ get_or-map (λ (r : Ring). r.half_edges_lem) (rings_of s) k no_ring in
    let low : k < length hs = omega (arith, ap (λ l. length l) (rings_of-halves s), length-map (rings_of s) (λ (r : Ring). r.half_edges_lem)) in
    omega (arith, ap (λ l. length l) e, ring-some (arrangement s) (sound-sane limits s (held_stays limits s held).sense) k low)

-- so the lists that ring extraction wrote can be written from
pub rung_listed : (s : State) (out : RingLists) (count : ℕ) (verdict : Bool) → Held limits s → Rung s out count verdict
    → length out.half_edges_lem ≡ 2 * limits.edges → length out.first ≡ 2 * limits.edges → length out.length ≡ 2 * limits.edges
    → Listed (rings_of s) out.half_edges_lem out.first out.length out.face out.area
rung_listed s out count verdict held r a b c = record { shown = r.shown; some = rings-some s held; wide_halves = a; wide_first = b; wide_size = c }
