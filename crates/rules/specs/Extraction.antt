-- Ring extraction with the hole list (§2): what it answers and leaves.
use Rattle.std.specs.Prelude.{ℕ, ◌*◌, ◌≡◌, List, map, length, take, leb}
use Rattle.lists.specs.Lists.{flatten, over}
use Rattle.geometry.specs.Reply.{Reply, refused, success}
use Rattle.rules.specs.Limits.{Limits}
use Rattle.rules.specs.State.{State, arrangement, point_of, roomy, sound}
use Rattle.rules.specs.Adding.{Outcome, demand}
use Rattle.rules.specs.Stages.{step}
use Rattle.rules.specs.Ringing.{Ringing, RingLists, rings_of, long_enough, ringed, ring_step}
use Rattle.rules.specs.Holes.{Hole, holes_of}

-- the holes of a state's rings
unfoldable pub holes_in : State → List Hole
unfolding rings_of holes_of arrangement point_of
holes_in s = holes_of (point_of s) (arrangement s) (rings_of s)

-- the lent ring lists and the lent hole list
pub record Lent : Type 0 where
  pub rings : RingLists
  pub holes : List Hole

-- what ring extraction answers: what is said of the rings, and how many entries of each lent output were written. Their count is that of
-- every ring list but the half-edges'.
pub record RingAnswer : Type 0 where
  pub ringing : Ringing
  pub half_edges_lem : ℕ
  pub holes : ℕ

-- a success with more values; a refusal stays
abbrev pub with_reply : {A B : Type 0} → (A → B) → Reply A → Reply B
with_reply f (refused n) = refused n
with_reply f (success a) = success (f a)

-- what ring extraction answers and leaves where it is not refused: the rings, and the holes
unfoldable pub extracted : State → Lent → Outcome RingAnswer Lent
unfolding rings_of holes_in ringed
extracted s out =
    let o = ringed s out.rings in
    let hs = holes_in s in
    let passed = flatten (map (λ g. g.half_edges_lem) (rings_of s)) in
    record {
      reply = with_reply (λ r. record { ringing = r; half_edges_lem = length passed; holes = length hs }) o.reply;
      state = o.state;
      lists = record { rings = o.lists; holes = over hs out.holes };
    }

-- ring extraction: 6, 7, 5, 8, then 13 where the hole list has fewer records than there are open rings
unfoldable pub extract : Limits → State → Lent → Outcome RingAnswer Lent
unfolding roomy sound holes_in extracted
extract l s out =
    step l 3 s out
    (demand (long_enough (2 * s.edges) out.rings) 8 s out
    (demand (leb (length (holes_in s)) (length out.holes)) 13 s out (extracted s out)))

-- what holds of one that succeeds
pub record ExtractionRules (l : Limits) (s : State) (out : Lent) (r : RingAnswer) : Type 0 where
  -- of rings it answers and leaves what the step without holes does
  pub before : ring_step l s out.rings ≡ record { reply = success r.ringing; state = (extract l s out).state; lists = (extract l s out).lists.rings }
  -- it writes the holes of the state's rings, and says how many they are and how many half-edges the rings have
  pub holes : take r.holes (extract l s out).lists.holes ≡ holes_in s
  pub hole_count : r.holes ≡ length (holes_in s)
  pub half_edge_count : r.half_edges_lem ≡ length (flatten (map (λ g. g.half_edges_lem) (rings_of s)))
