-- No tracing can stop a consultation (demand 1), said of runs by the entries' clauses: whatever was called before and refused, files
-- included, the steps that follow succeed.
use Rattle.std.specs.Prelude.{ℕ, ◌*◌, ◌≤◌, ◌≡◌, true, false, List, length}
use Rattle.geometry.specs.Reply.{Reply, refused, success}
use Rattle.rules.specs.State.{State}
use Rattle.rules.specs.Adding.{Nothing}
use Rattle.rules.specs.Stages.{Cutting}
use Rattle.rules.specs.Ringing.{long_enough}
use Rattle.rules.specs.Extraction.{Lent, RingAnswer}
use Rattle.rules.specs.Claim.{is_refused}
use Rattle.create_entry.specs.Clause.{Creates}
use Rattle.sort_entry.specs.Clause.{Sorts}
use Rattle.prune_entry.specs.Clause.{Prunes}
use Rattle.cut_entry.specs.Clause.{Cuts}
use Rattle.hole_checks.specs.Clause.{Extracts}
use Rattle.reset_entry.specs.Clause.{Resets}
use Rattle.runs.specs.Runs.{Step, added, filed, sorted, pruned, cut, extracted, reset, Meets, Run, ends}

-- a call that succeeds and leads to a stage
abbrev pub Leads : {A : Type 0} → ℕ → Reply A → State → Type 0
Leads stage reply after = (is_refused reply ≡ false) × (after.stage ≡ stage)

-- a reply that is neither 6 nor 7
abbrev pub Spares : {A : Type 0} → Reply A → Type 0
Spares reply = (reply ≡ refused 6 → ⊥) × (reply ≡ refused 7 → ⊥)

-- the reply of a step
abbrev pub SparesStep : Step → Type 0
SparesStep (added line reply s) = Spares reply
SparesStep (filed bytes reply s) = Spares reply
SparesStep (sorted reply s) = Spares reply
SparesStep (pruned out reply s written) = Spares reply
SparesStep (cut out reply s written) = Spares reply
SparesStep (extracted out reply s written) = Spares reply
SparesStep (reset reply s) = Spares reply

-- what may follow a state
pub record GoesOn (s : State) : Type 0 where
  -- in stage 0: sorting, pruning, cutting and ring extraction in a row, which succeed if the lists lent to them are long enough
  pub traces : s.stage ≡ 0
      → (dangles edges : List ℕ) (out : Lent)
      → s.edges ≤ length dangles → s.edges ≤ length edges → long_enough (2 * s.edges) out.rings ≡ true → s.edges ≤ length out.holes
      → (r₁ : Reply Nothing) (s₁ : State) → Sorts s r₁ s₁
      → (r₂ : Reply ℕ) (s₂ : State) (found : List ℕ) → Prunes s₁ dangles r₂ s₂ found
      → (r₃ : Reply Cutting) (s₃ : State) (removed : List ℕ) → Cuts s₂ edges r₃ s₃ removed
      → (r₄ : Reply RingAnswer) (s₄ : State) (written : Lent) → Extracts s₃ out r₄ s₄ written
      → Leads 1 r₁ s₁ × Leads 2 r₂ s₂ × Leads 3 r₃ s₃ × Leads 4 r₄ s₄
  -- in every stage, so after these four too: resetting, which succeeds and leads back to stage 0
  pub resets : (r : Reply Nothing) (t : State) → Resets s r t → Leads 0 r t
  -- any call: none replies 6 or 7
  pub spared : (x : Step) → Meets s x → SparesStep x

-- after every run
unfoldable pub NoTracingStops : Type 0
NoTracingStops =
    (tables : State) (new : State) (none : Nothing) → Creates tables (success none) new
    → (steps : List Step) → Run new steps → GoesOn (ends new steps)
