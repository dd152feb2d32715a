-- A run: calls from a newly created graph, each of which meets the clause that its entry ensures and takes up what the last one left.
-- Demand 3 is one theorem about runs.
use Rattle.std.specs.Prelude.{ℕ, ◌*◌, ◌≤◌, ◌≡◌, List, [], ◌∷◌}
use Rattle.lists.specs.Lists.{upto}
use Rattle.geometry.specs.Reply.{Reply, success}
use Rattle.geometry.specs.declared.Line3D.{Line3D}
use Rattle.rules.specs.State.{State, arrangement, point_of}
use Rattle.rules.specs.Euler.{census}
use Rattle.rules.specs.Adding.{Nothing, Added}
use Rattle.rules.specs.Stages.{Cutting}
use Rattle.rules.specs.Extraction.{Lent, RingAnswer, holes_in}
use Rattle.rules.specs.Filing.{file_segments, segments_among, feed_file}
use Rattle.rules.specs.Sketch.{Sketch, point_at_lem, sketched, feed, adding, sorting, pruning, cutting, ringing, resetting}
use Rattle.rules.specs.SketchRings.{sketch_holes}
use Rattle.rules.specs.Claim.{is_refused, empty_sketch, rings_from, RingRules, SideRules, TableRules, WrittenRules}
use Rattle.rules.specs.Naming.{FewComparisons}
use Rattle.create_entry.specs.Clause.{Creates}
use Rattle.add_entry.specs.Clause.{Adds}
use Rattle.file_taking.specs.FileAdding.{Records, taken_of}
use Rattle.file_entry.specs.Clause.{AddsRecords}
use Rattle.sort_entry.specs.Clause.{Sorts}
use Rattle.prune_entry.specs.Clause.{Prunes}
use Rattle.cut_entry.specs.Clause.{Cuts}
use Rattle.runs.specs.Tallying.{Adding}
use Rattle.hole_checks.specs.Clause.{Extracts}
use Rattle.reset_entry.specs.Clause.{Resets}

-- a call of a run, with what came out of it
pub data Step : Type 0 where
  added : Line3D → Reply Added → State → Step
  filed : List ℕ → Reply Records → State → Step
  sorted : Reply Nothing → State → Step
  pruned : List ℕ → Reply ℕ → State → List ℕ → Step
  cut : List ℕ → Reply Cutting → State → List ℕ → Step
  extracted : Lent → Reply RingAnswer → State → Lent → Step
  reset : Reply Nothing → State → Step

-- the state that it left
abbrev pub after : Step → State
after (added line reply s) = s
after (filed bytes reply s) = s
after (sorted reply s) = s
after (pruned out reply s written) = s
after (cut out reply s written) = s
after (extracted out reply s written) = s
after (reset reply s) = s

-- it met its entry's clause on the state before it
abbrev pub Meets : State → Step → Type 0
Meets s (added line reply t) = Adds line s reply t
Meets s (filed bytes reply t) = AddsRecords bytes s reply t
Meets s (sorted reply t) = Sorts s reply t
Meets s (pruned out reply t written) = Prunes s out reply t written
Meets s (cut out reply t written) = Cuts s out reply t written
Meets s (extracted out reply t written) = Extracts s out reply t written
Meets s (reset reply t) = Resets s reply t

-- each step takes up the state that the last one left
abbrev pub Run : State → List Step → Type 0
Run s [] = Unit {0}
Run s (x ∷ xs) = Meets s x × Run (after x) xs

-- the state after a run
abbrev pub ends : State → List Step → State
ends s [] = s
ends s (x ∷ xs) = ends (after x) xs

-- What the sketch is fed of a step: the call's kind, an addition's segment, and whether the call was refused. Of a file it is fed the segments
-- one by one, in order, as additions: those among the records that the reply says were taken as accepted ones, and the one after them as a refused
-- one. Records passed over are counted in the reply and feed nothing.
abbrev pub feed_step : Step → Sketch → Sketch
feed_step (added line reply s) k = feed (is_refused reply) (adding line) k
feed_step (filed bytes reply s) k = feed_file (file_segments bytes) (segments_among bytes (taken_of reply)) k
feed_step (sorted reply s) k = feed (is_refused reply) sorting k
feed_step (pruned out reply s written) k = feed (is_refused reply) (pruning out) k
feed_step (cut out reply s written) k = feed (is_refused reply) (cutting out) k
feed_step (extracted out reply s written) k = feed (is_refused reply) (ringing out) k
feed_step (reset reply s) k = feed (is_refused reply) resetting k

-- the sketch of a run, from a sketch on
abbrev pub sketch_from : Sketch → List Step → Sketch
sketch_from k [] = k
sketch_from k (x ∷ xs) = sketch_from (feed_step x k) xs

-- Demand 3. The tables held anything when the graph was created; then came any calls, files and refused ones included. A ring extraction
-- that succeeds gives exactly the rings of the sketch of the calls before it, in the same order; their doubled areas sum to zero; each
-- unmarked half-edge is passed once, a marked one never; rings join and stay in their maximal ring; sides and areas are exact. The counts
-- replied are the sketch's, and the tables hold its points, lines and marks. The hole list written is that of the sketch's rings
-- (request §2), as long as replied.
unfoldable pub Demand3 : Type 0
Demand3 =
    (tables : State) (new : State) (none : Nothing) → Creates tables (success none) new
    → (steps : List Step) → Run new steps
    → (out written : Lent) (last : State) (r : RingAnswer) → Extracts (ends new steps) out (success r) last written
    → let k = sketch_from empty_sketch steps in
    let rings = rings_from written.rings (upto r.ringing.count) in
    RingRules (sketched k) (point_at_lem k) rings
    × SideRules (sketched k) (point_at_lem k) rings written.rings
    × TableRules k last r.ringing
    × WrittenRules rings (sketch_holes k) written r

-- The same of every sound state, by its own edges and marks.
unfoldable pub Demand3Sound : Type 0
Demand3Sound =
    (s last : State) (out written : Lent) (r : RingAnswer) → Extracts s out (success r) last written
    → let rings = rings_from written.rings (upto r.ringing.count) in
    RingRules (arrangement s) (point_of s) rings
    × SideRules (arrangement s) (point_of s) rings written.rings
    × (r.ringing.census ≡ census (arrangement s))
    × WrittenRules rings (holes_in s) written r

-- Naming takes no more than 3 n - 3 comparisons for each ring of n half-edges that is replied, n at least 2, and none for the others.
unfoldable pub NamingIsShort : Type 0
NamingIsShort =
    (s last : State) (out written : Lent) (r : RingAnswer) → Extracts s out (success r) last written
    → FewComparisons (rings_from written.rings (upto r.ringing.count)) r.ringing.comparisons

-- The tallies of the walks that list the rings add up to the half-edges that are replied (request §3).
unfoldable pub TalliesAddUp : Type 0
TalliesAddUp =
    (s last : State) (out written : Lent) (r : RingAnswer) → Extracts s out (success r) last written → Adding written.rings r.ringing

-- How much ring extraction writes (request §2): two half-edges for each edge of the census, and no more holes than there are edges.
unfoldable pub LittleIsWritten : Type 0
LittleIsWritten =
    (s last : State) (out written : Lent) (r : RingAnswer) → Extracts s out (success r) last written
    → (r.half_edges_lem ≡ 2 * r.ringing.census.edges) × (r.holes ≤ s.edges)
