-- Every call keeps tables long enough and sound, so no tracing can stop a consultation (demand 1). The number that ends a list of ids
-- must be no place: with more pairs than that an addition could leave a list of ids unsound.
use Prim.Native.Nat.{ℕ, ◌*◌, ◌≤◌}
use native.Mathlib.Omega.{arith}
use mathlib.Core.Path.{◌≡◌, refl, sym, subst, ◌∙◌}
use mathlib.Core.Bool.{Bool, true, false}
use mathlib.Core.List.{List, [], ◌∷◌}
use lib.Dec.{eqb, leb}
use lib.ListN.{length}
use borrow.Author.Tests.{eqb-true, eq-eqb, le-leb}
use Rattle.geometry.specs.declared.Line3D.{Line3D}
use Rattle.geometry.specs.Reply.{success}
use Rattle.lists.specs.Lists.{over}
use Rattle.rules.specs.Limits.{Limits, limits}
use Rattle.rules.specs.LineIds.{list_end, used_places}
use Rattle.rules.specs.State.{State, arrangement, roomy, sound}
use Rattle.rules.specs.Adding.{Outcome, demand, add}
use Rattle.rules.specs.Euler.{census}
use Rattle.rules.specs.Stages.{step, sorted_state, sort, dangles_of, pruned_state, prune_step, cuts_of, cut_state, cut_step, reset}
use Rattle.rules.specs.Ringing.{RingLists, long_enough, ringed, ring_step}
use Rattle.rules.specs.Extraction.{Lent, holes_in, extracted, extract}
use Rattle.rules.specs.Sketch.{Call, adding, sorting, pruning, cutting, ringing, resetting}
use Rattle.rules.specs.Claim.{call, World, turn_world, history, empty_sketch}
use Rattle.rules.specs.Going.{Held, Goes, after_sort, after_prune, after_cut, Tracing, Going, NoTracingStops, SoundGoes}
use Rattle.lists.specs.Lists.{Distinct}
use Rattle.lists.proofs.Counts.{by_eq, true_is_false}
use Rattle.rules.proofs.Soundness.{is-roomy, is-sound}
use Rattle.rules.proofs.Sounding.{roomy_true, sound_true}
use Rattle.rules.proofs.AddingSound.{add_steady}
use Rattle.rules.proofs.PrunedTables.{pruned-roomy, pruned-sound}
use Rattle.rules.proofs.ExtractionLaws.{ring_step-gives}
use Rattle.rules.proofs.ShapedRings.{few-holes}
use Rattle.rules.proofs.Sparing.{call-spared}
use Rattle.rules.proofs.Staying.{Stays, sorted-stays, cut-stays, ring-stays, reset-stays}

-- ---- each call keeps the tables

-- a refusal leaves the state as it was
demand-stays : {A L : Type 0} (l : Limits) (b : Bool) (n : ℕ) (s : State) (lists : L) (o : Outcome A L) → Stays l s → (b ≡ true → Stays l o.state)
    → Stays l (demand b n s lists o).state
demand-stays l true n s lists o t h = h refl
demand-stays l false n s lists o t h = t

-- so does one by the tests of a stage step
step_stays : {A L : Type 0} (l : Limits) (stage : ℕ) (s : State) (lists : L) (o : Outcome A L) → Stays l s → (s.stage ≡ stage → Stays l o.state)
    → Stays l (step l stage s lists o).state
step_stays l stage s lists o t h =
    demand-stays l (roomy l s) 6 s lists _ t (λ e6.
    demand-stays l (sound l s) 7 s lists _ t (λ e7.
    demand-stays l (eqb s.stage stage) 5 s lists _ t (λ e5. h (eqb-true s.stage stage e5))))

-- in another stage than 0 an addition is refused
late_add : (l : Limits) (g : Line3D) (s : State) → Stays l s → (s.stage ≡ 0 → ⊥) → Stays l (add l g s).state
unfolding add
late_add l g s t d = step_stays l 0 s (record {}) _ t (λ z. absurd (d z))

-- adding
add-stays : (l : Limits) → l.pairs ≤ list_end → (g : Line3D) (s : State) → Stays l s → Stays l (add l g s).state
add-stays l small g s t = by_eq s.stage 0
    (λ z. let r = add_steady l small g s (record { room = t.room; sense = t.sense; young = z }) in record { room = r.room; sense = r.sense })
    (λ d. late_add l g s t d)

-- sorting
pub sort-stays : (l : Limits) (s : State) → Stays l s → Stays l (sort l s).state
unfolding sort
sort-stays l s t = step_stays l 0 s (record {}) _ t (λ z. sorted-stays l s t z)

-- pruning
pub prune-stays : (l : Limits) (s : State) (out : List ℕ) → Stays l s → Stays l (prune_step l s out).state
unfolding prune_step
prune-stays l s out t = step_stays l 1 s out _ t (λ z.
    demand-stays l (leb s.edges (length out)) 8 s out _ t (λ e8.
    record { room = pruned-roomy l s t.room t.sense z; sense = pruned-sound l s t.room t.sense z }))

-- cutting
pub cut_step-stays : (l : Limits) (s : State) (out : List ℕ) → Stays l s → Stays l (cut_step l s out).state
unfolding cut_step
cut_step-stays l s out t = step_stays l 2 s out _ t (λ z. demand-stays l (leb s.edges (length out)) 8 s out _ t (λ e8. cut-stays l s t))

-- any call
pub call_stays : (l : Limits) → l.pairs ≤ list_end → (c : Call) (s : State) → Stays l s → Stays l (call l c s).state
unfolding call
call_stays l small (adding g) s t = add-stays l small g s t
call_stays l small sorting s t = sort-stays l s t
call_stays l small (pruning out) s t = prune-stays l s out t
call_stays l small (cutting out) s t = cut_step-stays l s out t
call_stays l small (ringing out) s t = step_stays l 3 s out _ t (λ z.
    demand-stays l (long_enough (2 * s.edges) out.rings) 8 s out _ t (λ e8.
    demand-stays l (leb (length (holes_in s)) (length out.holes)) 13 s out _ t (λ e13. ring-stays l s t)))
call_stays l small resetting s t =
    demand-stays l (roomy l s) 6 s (record {}) _ t (λ e6. demand-stays l (sound l s) 7 s (record {}) _ t (λ e7. reset-stays l s t))

-- any list of calls
pub history-stays : (l : Limits) → l.pairs ≤ list_end → (cs : List Call) (w : World) → Stays l w.state → Stays l (history l cs w).state
unfolding history
history-stays l small [] w t = t
history-stays l small (c ∷ cs) w t = history-stays l small cs (turn_world l c w) (call_stays l small c w.state t)

-- a new graph is sound
pub new-stays : (l : Limits) (s : State) → s.nodes ≡ 0 → s.edges ≡ 0 → s.stage ≡ 0 → roomy l s ≡ true → Stays l s
unfolding used_places
new-stays l s n e z r = record {
  room = is-roomy l s r;
  sense = record {
    nodes = omega arith;
    edges = omega arith;
    stage = omega arith;
    ends = λ k q. absurd (omega arith);
    twins = λ k q. absurd (omega arith);
    stars = λ h q. absurd (omega arith);
    coordinates = λ m q. absurd (omega arith);
    lists = record { each = λ k q. absurd (omega arith); apart = subst (λ m. Distinct (used_places l.pairs s.tracings m)) (sym e) (λ x. omega arith) };
    new = λ h. record { unmarked = λ m q. absurd (omega arith); degrees = λ m q. absurd (omega arith); halves = λ h q. absurd (omega arith) };
  };
}

-- the facts are the tests
pub stays-held : (l : Limits) (s : State) → Stays l s → Held l s
stays-held l s t = record { room = roomy_true l s t.room; sense = sound_true l s t.sense }

pub held_stays : (l : Limits) (s : State) → Held l s → Stays l s
held_stays l s h = record { room = is-roomy l s h.room; sense = is-sound l s h.sense }

-- a graph in its stage is held after the step too
pub sorted-held : (l : Limits) (s : State) → Held l s → s.stage ≡ 0 → Held l (sorted_state s)
sorted-held l s h z = stays-held l (sorted_state s) (sorted-stays l s (held_stays l s h) z)

pub pruned-held : (l : Limits) (s : State) → Held l s → s.stage ≡ 1 → Held l (pruned_state s)
pruned-held l s h z =
    let t = held_stays l s h in
    stays-held l (pruned_state s) (record { room = pruned-roomy l s t.room t.sense z; sense = pruned-sound l s t.room t.sense z })

pub cut-held : (l : Limits) (s : State) → Held l s → Held l (cut_state s)
cut-held l s h = stays-held l (cut_state s) (cut-stays l s (held_stays l s h))

-- ---- one stage after another

-- a success that leads to a stage and keeps the number of edges
pub record Went {A L : Type 0} (s : State) (stage : ℕ) (o : Outcome A L) : Type 0 where
  pub goes : Goes stage o
  pub edges : o.state.edges ≡ s.edges

-- a test that passes
pub demand-is : {A L : Type 0} (b : Bool) (n : ℕ) (s : State) (lists : L) (o : Outcome A L) → b ≡ true → demand b n s lists o ≡ o
demand-is true n s lists o e = refl
demand-is false n s lists o e = absurd (true_is_false (sym e))

module _ (l : Limits) (s : State) (h : Held l s) where
  -- a stage step whose tests pass
  step_is : {A L : Type 0} (stage : ℕ) (lists : L) (o : Outcome A L) → s.stage ≡ stage → step l stage s lists o ≡ o
  step_is stage lists o z =
      demand-is (roomy l s) 6 s lists _ h.room ∙ demand-is (sound l s) 7 s lists _ h.sense
      ∙ demand-is (eqb s.stage stage) 5 s lists o (eq-eqb s.stage stage z)

  -- and whose lists are long enough
  room-is : {A L : Type 0} (stage : ℕ) (b : Bool) (lists : L) (o : Outcome A L) → s.stage ≡ stage → b ≡ true → step l stage s lists (demand b 8 s lists o) ≡ o
  room-is stage b lists o z e = step_is stage lists (demand b 8 s lists o) z ∙ demand-is b 8 s lists o e

  -- sorting
  pub sort-is : s.stage ≡ 0 → sort l s ≡ record { reply = success (record {}); state = sorted_state s; lists = record {} }
  unfolding sort
  sort-is z = step_is 0 (record {}) _ z

  pub sort_went : s.stage ≡ 0 → Went s 1 (sort l s)
  sort_went z = subst (Went s 1) (sym (sort-is z)) (record { goes = record { succeeds = refl; leads = refl }; edges = refl })

  -- pruning
  pub prune-is : (out : List ℕ) → s.stage ≡ 1 → s.edges ≤ length out
      → prune_step l s out ≡ record { reply = success (length (dangles_of s)); state = pruned_state s; lists = over (dangles_of s) out }
  unfolding prune_step
  prune-is out z q = room-is 1 _ out _ z (le-leb _ _ q)

  pub prune_went : (out : List ℕ) → s.stage ≡ 1 → s.edges ≤ length out → Went s 2 (prune_step l s out)
  prune_went out z q = subst (Went s 2) (sym (prune-is out z q)) (record { goes = record { succeeds = refl; leads = refl }; edges = refl })

  -- cutting
  pub cut-is : (out : List ℕ) → s.stage ≡ 2 → s.edges ≤ length out
      → cut_step l s out ≡ record { reply = success (record { count = length (cuts_of s); census = census (arrangement s) }); state = cut_state s; lists = over (cuts_of s) out }
  unfolding cut_step
  cut-is out z q = room-is 2 _ out _ z (le-leb _ _ q)

  pub cut_went : (out : List ℕ) → s.stage ≡ 2 → s.edges ≤ length out → Went s 3 (cut_step l s out)
  cut_went out z q = subst (Went s 3) (sym (cut-is out z q)) (record { goes = record { succeeds = refl; leads = refl }; edges = refl })

  -- what the step that finds the rings gives
  ringed_went : (out : RingLists) → Went s 4 (ringed s out)
  unfolding ringed
  ringed_went out = record { goes = record { succeeds = refl; leads = refl }; edges = refl }

  pub ring_went : (out : RingLists) → s.stage ≡ 3 → long_enough (2 * s.edges) out ≡ true → Went s 4 (ring_step l s out)
  ring_went out z q = subst (Went s 4) (sym (ring_step-gives l s out h.room h.sense z q)) (ringed_went out)

  -- what ring extraction gives
  extracted_went : (out : Lent) → Went s 4 (extracted s out)
  unfolding extracted
  extracted_went out = record { goes = record { succeeds = refl; leads = refl }; edges = refl }

  -- ring extraction, into a hole list with a record for each edge
  pub extract-is : (out : Lent) → s.stage ≡ 3 → long_enough (2 * s.edges) out.rings ≡ true → s.edges ≤ length out.holes → extract l s out ≡ extracted s out
  unfolding extract
  extract-is out z q n =
      let few = le-leb (length (holes_in s)) (length out.holes) (omega (arith, few-holes l s h.sense)) in
      room-is 3 (long_enough (2 * s.edges) out.rings) out _ z q
      ∙ demand-is (leb (length (holes_in s)) (length out.holes)) 13 s out (extracted s out) few

  pub extract_went : (out : Lent) → s.stage ≡ 3 → long_enough (2 * s.edges) out.rings ≡ true → s.edges ≤ length out.holes → Went s 4 (extract l s out)
  extract_went out z q n = subst (Went s 4) (sym (extract-is out z q n)) (extracted_went out)

  -- resetting, in every stage
  pub reset_goes : Goes 0 (reset l s)
  unfolding reset
  reset_goes = subst (Goes 0) (sym (demand-is (roomy l s) 6 s (record {}) _ h.room ∙ demand-is (sound l s) 7 s (record {}) _ h.sense))
      (record { succeeds = refl; leads = refl })

-- ---- the law

-- the steps one after another
tracing : (l : Limits) (s : State) → Stays l s → s.stage ≡ 0 → (dangles edges : List ℕ) (out : Lent)
    → s.edges ≤ length dangles → s.edges ≤ length edges → long_enough (2 * s.edges) out.rings ≡ true → s.edges ≤ length out.holes
    → Tracing l s dangles edges out
tracing l s t z dangles edges out a b c d =
    let t₁ = sort-stays l s t in
    let t₂ = prune-stays l (after_sort l s) dangles t₁ in
    let t₃ = cut_step-stays l (after_prune l s dangles) edges t₂ in
    let w₁ = sort_went l s (stays-held l s t) z in
    let w₂ = prune_went l (after_sort l s) (stays-held l _ t₁) dangles w₁.goes.leads (omega (arith, w₁.edges)) in
    let w₃ = cut_went l (after_prune l s dangles) (stays-held l _ t₂) edges w₂.goes.leads (omega (arith, w₁.edges, w₂.edges)) in
    let e : s.edges ≡ (after_cut l s dangles edges).edges = sym (w₃.edges ∙ w₂.edges ∙ w₁.edges) in
    let w₄ = extract_went l (after_cut l s dangles edges) (stays-held l _ t₃) out w₃.goes.leads (subst (λ n. long_enough (2 * n) out.rings ≡ true) e c)
    (omega (arith, e)) in
    record { sorts = w₁.goes; prunes = w₂.goes; cuts = w₃.goes; extracts = w₄.goes }

-- from tables that are long enough and sound it goes on
stays_going : (l : Limits) → l.pairs ≤ list_end → (s : State) → Stays l s → Going l s
stays_going l small s t =
    let h = stays-held l s t in
    record {
      held = h;
      keeps = λ c. stays-held l (call l c s).state (call_stays l small c s t);
      spared = call-spared l s h;
      resets = reset_goes l s h;
      traces = tracing l s t;
    }

-- for every such state
pub sound_goes : (l : Limits) → l.pairs ≤ list_end → SoundGoes l
unfolding SoundGoes
sound_goes l small s h = stays_going l small s (held_stays l s h)

-- NO TRACING STOPS A CONSULTATION: after every list of calls from a new graph
pub no_tracing_stops : (l : Limits) → l.pairs ≤ list_end → NoTracingStops l
unfolding NoTracingStops
no_tracing_stops l small s n e z r calls =
    stays_going l small (history l calls (record { state = s; sketch = empty_sketch })).state
    (history-stays l small calls (record { state = s; sketch = empty_sketch }) (new-stays l s n e z r))

-- on this library's limits
pub demand_1 : NoTracingStops limits
demand_1 = no_tracing_stops limits (omega arith)
