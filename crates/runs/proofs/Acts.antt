-- The steps of a run are calls and files of the rules, since each meets its clause.
use mathlib.Core.Path.{◌≡◌, refl, sym, ap, ◌∙◌}
use mathlib.Core.Bool.{true}
use mathlib.Core.List.{List, [], ◌∷◌}
use Rattle.geometry.specs.Reply.{Reply, success}
use Rattle.rules.specs.Limits.{limits}
use Rattle.rules.specs.State.{State, roomy}
use Rattle.rules.specs.Adding.{Outcome, Nothing, add}
use Rattle.rules.specs.Stages.{create, created, sort, prune_step, cut_step, reset}
use Rattle.rules.specs.Extraction.{extract}
use Rattle.rules.specs.Sketch.{Sketch, Call, feed, adding, sorting, pruning, cutting, ringing, resetting}
use Rattle.rules.specs.Claim.{is_refused, World, call}
use Rattle.rules.specs.Filing.{Act, single, file, act, acts, file_segments, segments_among, feed_file, AllGiven}
use Rattle.rules.proofs.Replies.{demand-passed}
use Rattle.rules.proofs.FileFloats.{file-given}
use Rattle.calls.specs.Replies.{left_with}
use Rattle.create_entry.specs.Clause.{Creates}
use Rattle.file_taking.specs.FileAdding.{taken_of}
use Rattle.file_taking.proofs.Segments.{records-filed}
use Rattle.runs.specs.Runs as runs
use Rattle.runs.specs.Runs.{Step, after, Meets, Run, ends, feed_step, sketch_from}

-- ---- its steps

-- a call, or the segments of a file
abbrev pub act_of : Step → Act
act_of (runs.added line reply s) = single (adding line)
act_of (runs.filed bytes reply s) = file (file_segments bytes)
act_of (runs.sorted reply s) = single sorting
act_of (runs.pruned out reply s written) = single (pruning out)
act_of (runs.cut out reply s written) = single (cutting out)
act_of (runs.extracted out reply s written) = single (ringing out)
act_of (runs.reset reply s) = single resetting

-- those of a run
abbrev pub acts_of : List Step → List Act
acts_of [] = []
acts_of (x ∷ xs) = act_of x ∷ acts_of xs

-- tables and sketch after a call, from the equation that gives its outcome
turned : {A L : Type 0} (c : Call) (k : Sketch) (reply : Reply A) (t : State) (lists : L) (o : Outcome A L) → left_with reply t lists ≡ o
    → ◌≡◌ {A = World} (record { state = o.state; sketch = feed (is_refused o.reply) c k }) (record { state = t; sketch = feed (is_refused reply) c k })
turned c k reply t lists o e = λ i. record { state = (sym e i).state; sketch = feed (is_refused (sym e i).reply) c k }

-- a step does to tables and sketch what its act does
step-turns : (s : State) (k : Sketch) (x : Step) → Meets s x
    → act limits (act_of x) (record { state = s; sketch = k }) ≡ record { state = after x; sketch = feed_step x k }
unfolding call
step-turns s k (runs.added line reply t) m = turned (adding line) k reply t (record {}) (add limits line s) m.outcome
step-turns s k (runs.filed bytes reply t) m =
    let f = records-filed limits bytes s in
    let left = sym (ap (λ o. o.state) m ∙ f.state) in
    let taken = sym (ap (λ o. segments_among bytes (taken_of o.reply)) m ∙ f.accepted) in
    λ i. record { state = left i; sketch = feed_file (file_segments bytes) (taken i) k }
step-turns s k (runs.sorted reply t) m = turned sorting k reply t (record {}) (sort limits s) m
step-turns s k (runs.pruned out reply t written) m = turned (pruning out) k reply t written (prune_step limits s out) m
step-turns s k (runs.cut out reply t written) m = turned (cutting out) k reply t written (cut_step limits s out) m
step-turns s k (runs.extracted out reply t written) m = turned (ringing out) k reply t written (extract limits s out) m
step-turns s k (runs.reset reply t) m = turned resetting k reply t (record {}) (reset limits s) m

-- so a run does what its acts do
pub run_acts : (s : State) (k : Sketch) (xs : List Step) → Run s xs
    → acts limits (acts_of xs) (record { state = s; sketch = k }) ≡ record { state = ends s xs; sketch = sketch_from k xs }
unfolding acts
run_acts s k [] r = refl
run_acts s k (x ∷ xs) r = ap (acts limits (acts_of xs)) (step-turns s k x r.0) ∙ run_acts (after x) (feed_step x k) xs r.1

-- a run's segments hold 64-bit floats
pub run_given : (s : State) (xs : List Step) → Run s xs → AllGiven (acts_of xs)
run_given s [] r = tt
run_given s (runs.added line reply t ∷ xs) r = (r.0.floats, run_given t xs r.1)
run_given s (runs.filed bytes reply t ∷ xs) r = (file-given bytes, run_given t xs r.1)
run_given s (runs.sorted reply t ∷ xs) r = (tt, run_given t xs r.1)
run_given s (runs.pruned out reply t written ∷ xs) r = (tt, run_given t xs r.1)
run_given s (runs.cut out reply t written ∷ xs) r = (tt, run_given t xs r.1)
run_given s (runs.extracted out reply t written ∷ xs) r = (tt, run_given t xs r.1)
run_given s (runs.reset reply t ∷ xs) r = (tt, run_given t xs r.1)

-- ---- its start

-- the room of a created graph is that of its tables
created-room : (tables : State) → roomy limits (created tables) ≡ roomy limits tables
unfolding roomy
created-room tables = refl

-- a graph that was created is empty, in stage 0, and its tables have room
pub created-new : (tables new : State) (none : Nothing) → Creates tables (success none) new
    → (new.nodes ≡ 0) × (new.edges ≡ 0) × (new.stage ≡ 0) × (roomy limits new ≡ true)
unfolding create
created-new tables new none e =
    let p = demand-passed (roomy limits tables) 6 tables (record {}) (record { reply = success (record {}); state = created tables; lists = record {} }) none (ap (λ z. z.reply) (sym e)) in
    let empty = ap (λ z. z.state) (e ∙ p.1) in
    (ap (λ z. z.nodes) empty, ap (λ z. z.edges) empty, ap (λ z. z.stage) empty, ap (roomy limits) empty ∙ created-room tables ∙ p.0)
