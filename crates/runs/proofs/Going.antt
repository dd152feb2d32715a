-- No tracing can stop a consultation: the law of the rules, of what the entries' clauses give.
use Prim.Native.Nat.{ℕ}
use native.Mathlib.Omega.{arith}
use mathlib.Core.Path.{◌≡◌, refl, sym, ap, subst, ◌∙◌}
use mathlib.Core.List.{List}
use Rattle.geometry.specs.Reply.{Reply}
use Rattle.rules.specs.Limits.{limits}
use Rattle.rules.specs.State.{State}
use Rattle.rules.specs.Adding.{Outcome}
use Rattle.rules.specs.Stages.{prune_step, cut_step}
use Rattle.rules.specs.Extraction.{extract}
use Rattle.rules.specs.Sketch.{adding, sorting, pruning, cutting, ringing, resetting}
use Rattle.rules.specs.Claim.{is_refused, empty_sketch}
use Rattle.rules.specs.Going.{Spared, Goes, Going}
use Rattle.rules.specs.Filing.{NoFileStops}
use Rattle.rules.proofs.Sparing.{success-spared, step-spared}
use Rattle.rules.proofs.Filing.{no_file_stops}
use Rattle.calls.specs.Replies.{left_with}
use Rattle.file_taking.specs.FileAdding.{add_records_lem}
use Rattle.runs.specs.Runs as runs
use Rattle.runs.specs.Runs.{Step, Meets, ends}
use Rattle.runs.specs.Going.{Leads, Spares, SparesStep, GoesOn, NoTracingStops}
use Rattle.runs.proofs.Acts.{acts_of, run_acts, created-new}

-- ---- from an outcome of the rules to what came out of a call

module _ {A L : Type 0} (reply : Reply A) (t : State) (lists : L) (o : Outcome A L) (e : left_with reply t lists ≡ o) where
  -- it leads to the outcome's stage
  leads : (stage : ℕ) → Goes stage o → Leads stage reply t
  leads stage g = (ap (λ z. is_refused z.reply) e ∙ g.succeeds, ap (λ z. z.state.stage) e ∙ g.leads)

  -- and is spared as the outcome is
  spares : Spared o → Spares reply
  spares p = (λ z. p.six (ap (λ q. q.reply) (sym e) ∙ z), λ z. p.seven (ap (λ q. q.reply) (sym e) ∙ z))

-- ---- from a state of which the rules' law holds

module _ (s : State) (g : Going limits s) where
  -- 6 and 7 are not replied to a file
  file-spared : (bytes : List ℕ) → Spared (add_records_lem limits bytes s)
  unfolding add_records_lem
  file-spared bytes = step-spared limits 0 s (record {}) _ g.held (success-spared _ _ refl)

  -- nor to any call
  step_spares : (x : Step) → Meets s x → SparesStep x
  step_spares (runs.added line reply t) m = spares reply t (record {}) _ m.outcome (g.spared (adding line))
  step_spares (runs.filed bytes reply t) m = spares reply t (record {}) _ m (file-spared bytes)
  step_spares (runs.sorted reply t) m = spares reply t (record {}) _ m (g.spared sorting)
  step_spares (runs.pruned out reply t written) m = spares reply t written _ m (g.spared (pruning out))
  step_spares (runs.cut out reply t written) m = spares reply t written _ m (g.spared (cutting out))
  step_spares (runs.extracted out reply t written) m = spares reply t written _ m (g.spared (ringing out))
  step_spares (runs.reset reply t) m = spares reply t (record {}) _ m (g.spared resetting)

-- what may follow such a state
going_on : (s : State) → Going limits s → GoesOn s
going_on s g = record {
  traces = λ z dangles edges out a b c d r₁ s₁ e₁ r₂ s₂ found e₂ r₃ s₃ removed e₃ r₄ s₄ written e₄.
      let t = g.traces z dangles edges out a b c d in
      let p₁ = ap (λ o. o.state) e₁ in
      let p₂ = ap (λ o. o.state) e₂ ∙ ap (λ u. (prune_step limits u dangles).state) p₁ in
      let p₃ = ap (λ o. o.state) e₃ ∙ ap (λ u. (cut_step limits u edges).state) p₂ in (
        leads r₁ s₁ (record {}) _ e₁ 1 t.sorts,
        leads r₂ s₂ found _ (e₂ ∙ ap (λ u. prune_step limits u dangles) p₁) 2 t.prunes,
        leads r₃ s₃ removed _ (e₃ ∙ ap (λ u. cut_step limits u edges) p₂) 3 t.cuts,
        leads r₄ s₄ written _ (e₄ ∙ ap (λ u. extract limits u out) p₃) 4 t.extracts,
      );
  resets = λ r t e. leads r t (record {}) _ e 0 g.resets;
  spared = step_spares s g;
}

-- after every run the rules' law holds
pub no_tracing_stops : NoTracingStops
unfolding NoTracingStops NoFileStops
no_tracing_stops tables new none c steps run =
    let n = created-new tables new none c in
    going_on (ends new steps)
    (subst (λ w. Going limits w.state) (run_acts new empty_sketch steps run) (no_file_stops limits (omega arith) new n.0 n.1 n.2 n.3 (acts_of steps)))
