-- The line ids behind each edge, of every run: each step keeps the claim of the rules.
use mathlib.Core.Path.{◌≡◌, sym, ap, subst, ◌∙◌}
use mathlib.Core.List.{List, [], ◌∷◌, ◌++◌}
use native.Mathlib.Omega.{arith}
use Prim.Native.Nat.{◌≤◌}
use Rattle.rules.specs.Limits.{limits}
use Rattle.rules.specs.LineIds.{list_end}
use Rattle.rules.specs.State.{State}
use Rattle.rules.specs.Adding.{Outcome, Added, add}
use Rattle.rules.specs.Stages.{sort, prune_step, cut_step, reset}
use Rattle.rules.specs.Extraction.{extract}
use Rattle.rules.specs.Sketch.{adding, sorting, pruning, cutting, ringing, resetting}
use Rattle.rules.specs.Claim.{World, call, empty_sketch}
use Rattle.rules.specs.Filing.{filed, file_segments}
use Rattle.rules.specs.Traced.{Pass, pass_of, passes, passed}
use Rattle.rules.proofs.Filing.{file_feeds}
use Rattle.rules.proofs.TracedAdding.{Kept}
use Rattle.rules.proofs.TracedCalls.{call_kept, history-kept, start-kept}
use Rattle.rules.proofs.FullTable.{twelve_means, twelve-due}
use Rattle.file_taking.proofs.Segments.{records-filed}
use Rattle.runs.specs.Runs as runs
use Rattle.runs.specs.Runs.{Step, after, Meets, Run, ends}
use Rattle.runs.specs.LineIds.{passes_of, passes_from, LineIdsBehind, TwelveMeansFull}
use Rattle.runs.proofs.Acts.{created-new}

-- no place of the table ends a list
small : limits.pairs ≤ list_end
small = omega arith

-- the world of a state
abbrev at : State → World
at s = record { state = s; sketch = empty_sketch }

-- a call other than an addition, by the equation that gives its outcome
other : {A L : Type 0} (t : State) (log : List Pass) (o : Outcome A L) → t ≡ o.state → Kept limits o.state log → Kept limits t log
other t log o e r = subst (λ z. Kept limits z log) (sym e) r

-- a step keeps the claim
step_kept : (s : State) (x : Step) (log : List Pass) → Meets s x → Kept limits s log → Kept limits (after x) (passes_of s x log)
unfolding call passes
step_kept s (runs.added line reply t) log m r =
    subst (λ (o : Outcome Added _). Kept limits o.state (pass_of line.line_id o.reply ++ log)) (sym m.outcome)
    (call_kept limits small (adding line) (at s) log r)
step_kept s (runs.filed bytes reply t) log m r =
    let gs = file_segments bytes in
    let left : t ≡ (filed limits gs s).state = ap (λ o. o.state) m ∙ (records-filed limits bytes s).state in
    subst (λ z. Kept limits z (passed limits (filed limits gs s).calls (at s) log)) (ap (λ w. w.state) (file_feeds limits gs s empty_sketch) ∙ sym left)
    (history-kept limits small (filed limits gs s).calls (at s) log r)
step_kept s (runs.sorted reply t) log m r = other t log (sort limits s) (ap (λ o. o.state) m) (call_kept limits small sorting (at s) log r)
step_kept s (runs.pruned out reply t written) log m r = other t log (prune_step limits s out) (ap (λ o. o.state) m) (call_kept limits small (pruning out) (at s) log r)
step_kept s (runs.cut out reply t written) log m r = other t log (cut_step limits s out) (ap (λ o. o.state) m) (call_kept limits small (cutting out) (at s) log r)
step_kept s (runs.extracted out reply t written) log m r = other t log (extract limits s out) (ap (λ o. o.state) m) (call_kept limits small (ringing out) (at s) log r)
step_kept s (runs.reset reply t) log m r = other t log (reset limits s) (ap (λ o. o.state) m) (call_kept limits small resetting (at s) log r)

-- so does a run
run_kept : (s : State) (xs : List Step) (log : List Pass) → Run s xs → Kept limits s log → Kept limits (ends s xs) (passes_from s xs log)
run_kept s [] log r k = k
run_kept s (x ∷ xs) log r k = run_kept (after x) xs (passes_of s x log) r.1 (step_kept s x log r.0 k)

pub line_ids-behind : LineIdsBehind
unfolding LineIdsBehind
line_ids-behind tables new none c steps run =
    let k = run_kept new steps [] run (start-kept limits small new (created-new tables new none c).1) in
    (k.traced, k.used)

-- ---- number 12

pub twelve_means_full : TwelveMeansFull
unfolding TwelveMeansFull
twelve_means_full line s t = (
  λ m. twelve_means limits line s (ap (λ o. o.reply) (sym m.outcome)),
  λ need full reply m other.
      let said : reply ≡ (add limits line s).reply = ap (λ o. o.reply) m.outcome in
      said ∙ twelve-due limits line s need full (λ n e. other n (said ∙ e)),
)
