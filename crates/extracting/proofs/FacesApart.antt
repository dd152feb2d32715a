-- No two rings of a sound state have one face number, since no two begin with the same half-edge.
use Prim.Native.Nat.{ℕ, ◌<◌}
use native.Mathlib.Omega.{arith}
use mathlib.Core.Path.{◌≡◌, sym, ap, ◌∙◌}
use mathlib.Core.Bool.{true}
use mathlib.Core.List.{[]}
use lib.ListN.{length, get_or, get_or-map}
use Rattle.rules.specs.Limits.{Limits}
use Rattle.rules.specs.Split.{minimal_rings}
use Rattle.rules.specs.Face.{Ring, face_number_lem}
use Rattle.rules.specs.State.{State, arrangement, sound}
use Rattle.rules.specs.Ringing.{rings_of}
use Rattle.rules.specs.Holes.{ring_at}
use Rattle.rules.proofs.Soundness.{is-sound}
use Rattle.rules.proofs.Tables.{sound-sane}
use Rattle.rules.proofs.Replies.{rings_of-halves}
use Rattle.faces.proofs.FacesApart.{numbers_apart}
use Rattle.extracting.proofs.Starts.{begins-apart}
use Rattle.extracting.proofs.Outcome.{rings-many}

-- ring i has the half-edges of the rules' ring i
pub ring-halves : (s : State) (i : ℕ) → (ring_at (rings_of s) i).half_edges_lem ≡ get_or (minimal_rings (arrangement s)) i []
ring-halves s i = sym (get_or-map (λ (r : Ring). r.half_edges_lem) (rings_of s) i _) ∙ ap (λ l. get_or l i []) (rings_of-halves s)

-- two with one face number are one ring
pub faces-apart : (l : Limits) (s : State) → sound l s ≡ true
    → (i j : ℕ) → i < length (rings_of s) → j < length (rings_of s) → face_number_lem (rings_of s) (ring_at (rings_of s) i) ≡ face_number_lem (rings_of s) (ring_at (rings_of s) j) → i ≡ j
faces-apart l s sense = numbers_apart (rings_of s) (λ i j p q e.
    begins-apart (arrangement s) (sound-sane l s (is-sound l s sense)) i j (omega (arith, rings-many s)) (omega (arith, rings-many s))
    (ap (λ r. get_or r 0 0) (sym (ring-halves s i)) ∙ e ∙ ap (λ r. get_or r 0 0) (ring-halves s j)))
