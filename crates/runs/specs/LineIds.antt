-- The line ids behind each edge (request §1), said of runs by the entries' clauses: they are those of the accepted additions that made or
-- found the edge, files' records included.
use Rattle.std.specs.Prelude.{ℕ, ◌<◌, ◌≡◌, true, List, [], ◌∷◌, ◌++◌, length}
use Rattle.geometry.specs.Reply.{Reply, refused, success}
use Rattle.geometry.specs.declared.Line3D.{Line3D}
use Rattle.rules.specs.Limits.{limits}
use Rattle.rules.specs.LineIds.{used_places}
use Rattle.rules.specs.State.{State}
use Rattle.rules.specs.Adding.{Nothing, Added}
use Rattle.rules.specs.Claim.{empty_sketch}
use Rattle.rules.specs.Filing.{filed, file_segments}
use Rattle.rules.specs.Traced.{Pass, pass_of, passed, needs_pair, different, Traced}
use Rattle.create_entry.specs.Clause.{Creates}
use Rattle.add_entry.specs.Clause.{Adds}
use Rattle.runs.specs.Runs as runs
use Rattle.runs.specs.Runs.{Step, after, Run, ends}

-- the accepted additions of a step on top of earlier ones, the last first: that of an addition by its reply, those of a file's records by the
-- replies that each gets
abbrev pub passes_of : State → Step → List Pass → List Pass
passes_of s (runs.added line reply t) log = pass_of line.line_id reply ++ log
passes_of s (runs.filed bytes reply t) log = passed limits (filed limits (file_segments bytes) s).calls (record { state = s; sketch = empty_sketch }) log
passes_of s (runs.sorted reply t) log = log
passes_of s (runs.pruned out reply t written) log = log
passes_of s (runs.cut out reply t written) log = log
passes_of s (runs.extracted out reply t written) log = log
passes_of s (runs.reset reply t) log = log

-- those of a run
abbrev pub passes_from : State → List Step → List Pass → List Pass
passes_from s [] log = log
passes_from s (x ∷ xs) log = passes_from (after x) xs (passes_of s x log)

-- The tables held anything when the graph was created; then came any calls, files and refused ones included. Each edge has the ids of
-- exactly the accepted additions that made or found it, rising and without repeats, and its own line id is the lowest; as many pairs are in
-- use as there are different pairs of an edge and an id.
unfoldable pub LineIdsBehind : Type 0
LineIdsBehind =
    (tables : State) (new : State) (none : Nothing) → Creates tables (success none) new
    → (steps : List Step) → Run new steps
    → let s = ends new steps in
    let log = passes_from new steps [] in
    ((k : ℕ) → k < s.edges → Traced limits s log k) × (length (used_places limits.pairs s.tracings s.edges) ≡ different log)

-- 12 comes only where a pair is needed and all are in use; and where that is so, no other reply than a refusal comes, and 12 if no other
-- number is due
unfoldable pub TwelveMeansFull : Type 0
TwelveMeansFull =
    (line : Line3D) (s t : State) →
    (Adds line s (refused 12) t → (needs_pair limits line s ≡ true) × (length (used_places limits.pairs s.tracings s.edges) ≡ limits.pairs))
    × (needs_pair limits line s ≡ true → length (used_places limits.pairs s.tracings s.edges) ≡ limits.pairs
    → (reply : Reply Added) → Adds line s reply t → ((n : ℕ) → reply ≡ refused n → n ≡ 12) → reply ≡ refused 12)
