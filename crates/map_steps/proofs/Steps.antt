-- The steps from a built graph to its rings: each succeeds where it is due, and after it the next one is.
use Prim.Native.Nat.{ℕ, ◌*◌, ◌≤◌}
use native.Mathlib.Omega.{arith}
use mathlib.Core.Path.{◌≡◌, refl, sym, ap, ◌∙◌}
use mathlib.Core.Bool.{true, false}
use lib.ListN.{length, replicate, length-replicate}
use borrow.Author.Tests.{le-leb}
use Rattle.geometry.specs.Reply.{Reply, refused, success}
use Rattle.lists.proofs.Counts.{true_is_false}
use Rattle.rules.specs.Limits.{limits}
use Rattle.rules.specs.State.{State}
use Rattle.rules.specs.Adding.{Outcome}
use Rattle.rules.specs.Stages.{sorted_state, pruned_state, cut_state}
use Rattle.rules.specs.Ringing.{RingLists, long_enough}
use Rattle.rules.specs.Claim.{is_refused}
use Rattle.rules.specs.Going.{Held}
use Rattle.rules.proofs.Going.{held_stays, sorted-held, pruned-held, cut-held}
use Rattle.calls.specs.Replies.{left_with}
use Rattle.map_steps.specs.Stands.{Stands}
use Rattle.map_steps.specs.Maps.{cut_map_lem}
use Rattle.map_steps.specs.Rings.{Wide}

-- ---- an answer, and the rules' outcome of the step

-- a success is no refusal
pub unrefused : {A L : Type 0} (r : Reply A) (after : State) (lists : L) (o : Outcome A L) → left_with r after lists ≡ o → is_refused o.reply ≡ false → (n : ℕ) → r ≡ refused n → ⊥
unrefused r after lists o e goes n q = true_is_false (ap is_refused (sym q) ∙ ap (λ p. is_refused p.reply) e ∙ goes)

-- what was answered is the rules' answer
pub answered : {A L : Type 0} (r : Reply A) (after : State) (lists : L) (o p : Outcome A L) (a b : A) → left_with r after lists ≡ o → o ≡ p → p.reply ≡ success b → r ≡ success a → a ≡ b
answered r after lists o p a b e is there q =
    let z : success a ≡ success b = sym q ∙ ap (λ x. x.reply) (e ∙ is) ∙ there in
    cc

-- what is left is what the rules leave
pub leaves : {A L : Type 0} (r : Reply A) (after : State) (lists : L) (o p : Outcome A L) → left_with r after lists ≡ o → o ≡ p → after ≡ p.state
leaves r after lists o p e is = ap (λ x. x.state) (e ∙ is)

-- ---- lists that are long enough

-- a sound graph has no more edges than the limits allow
few : (s : State) → Held limits s → s.edges ≤ limits.edges
few s h = (held_stays limits s h).sense.edges

pub edge-room : (s : State) → Held limits s → s.edges ≤ length {A = ℕ} (replicate limits.edges 0)
edge-room s h = omega (arith, few s h, length-replicate {A = ℕ} limits.edges 0)

pub ring-room : (s : State) (out : RingLists) → Held limits s → Wide out → long_enough (2 * s.edges) out ≡ true
ring-room s out h w =
    let m = few s h in
    rw (
      le-leb (2 * s.edges) (length out.half_edges_lem) (omega (arith, m, w.half_edges_lem)),
      le-leb (2 * s.edges) (length out.first) (omega (arith, m, w.first)),
      le-leb (2 * s.edges) (length out.length) (omega (arith, m, w.size)),
      le-leb (2 * s.edges) (length out.face) (omega (arith, m, w.face)),
      le-leb (2 * s.edges) (length out.side) (omega (arith, m, w.side)),
      le-leb (2 * s.edges) (length out.area) (omega (arith, m, w.area)),
    ) refl

-- ---- what is due next

module _ (s : State) where
  pub sorted-stands : Stands 0 s → Stands 1 (sorted_state s)
  sorted-stands d = record { held = sorted-held limits s d.held d.here; here = refl }

  pub pruned-stands : Stands 1 s → Stands 2 (pruned_state s)
  pruned-stands d = record { held = pruned-held limits s d.held d.here; here = refl }

  pub cut_stands : Stands 2 s → Stands 3 (cut_state s)
  cut_stands d = record { held = cut-held limits s d.held; here = refl }

-- after all of them ring extraction is due
pub mapped_stands : (s : State) → Stands 0 s → Stands 3 (cut_map_lem s).state
mapped_stands s d = cut_stands _ (pruned-stands _ (sorted-stands s d))
