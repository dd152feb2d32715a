-- Records one after another: the first and then the rest, without fuel, and what one turn of the loop shows.
use Prim.Native.Nat.{ℕ, zero, suc, ◌+◌, ◌<◌, ◌≤◌}
use native.Mathlib.Omega.{arith}
use mathlib.Core.Path.{◌≡◌, refl, sym, ap, subst, ◌∙◌}
use mathlib.Core.List.{List}
use lib.ListN.{length, drop, length-drop}
use lib.Seq.{drop-drop}
use Rattle.geometry.specs.Reply.{Reply}
use Rattle.geometry.specs.declared.Line3D.{Line3D}
use Rattle.rules.specs.Limits.{Limits, limits}
use Rattle.rules.specs.State.{State}
use Rattle.rules.specs.Adding.{Nothing}
use Rattle.file_rules.specs.Records.{Found}
use Rattle.file_rules.specs.SegmentFile.{segment_next}
use Rattle.adding.specs.Outcomes.{Ready}
use Rattle.taking.specs.Taking.{Rest, onward, ended, Turned, take_record_lem, Taking, halted, behind, follow, take_on, take_file_lem}
use Rattle.taking.proofs.Records.{record_ready, Further, record_further}

-- ---- more fuel than bytes takes the same

follow-same : (bytes : List ℕ) (r : Rest) (s : State) (P Q : ℕ → State → Taking) → Further bytes r
    → ((size : ℕ) → 6 ≤ size → size ≤ length bytes → P size s ≡ Q size s) → follow r s P ≡ follow r s Q
follow-same bytes (onward size) s P Q h same = ap (behind 1 size) (same size h.0 h.1)
follow-same bytes (ended r) s P Q h same = refl

fuel_same : (l : Limits) (f g : ℕ) (bytes : List ℕ) (s : State) → length bytes < f → length bytes < g → take_on l f bytes s ≡ take_on l g bytes s
unfolding take_on
fuel_same l zero g bytes s p q = absurd (omega arith)
fuel_same l (suc f) zero bytes s p q = absurd (omega arith)
fuel_same l (suc f) (suc g) bytes s p q =
    let t = take_record_lem l (segment_next bytes) s in
    follow-same bytes t.rest t.state _ _ (record_further l bytes s)
    (λ size h k. fuel_same l f g (drop size bytes) t.state (omega (arith, length-drop size bytes)) (omega (arith, length-drop size bytes)))

-- A FILE IS ITS FIRST RECORD AND WHAT FOLLOWS
pub file-step : (l : Limits) (bytes : List ℕ) (s : State)
    → let t = take_record_lem l (segment_next bytes) s in
    take_file_lem l bytes s ≡ follow t.rest t.state (λ size u. take_file_lem l (drop size bytes) u)
unfolding take_on
file-step l bytes s =
    let t = take_record_lem l (segment_next bytes) s in
    follow-same bytes t.rest t.state _ _ (record_further l bytes s)
    (λ size h k. fuel_same l (length bytes) (suc (length (drop size bytes))) (drop size bytes) t.state (omega (arith, length-drop size bytes)) (omega arith))

-- what is found ends it at once
pub file_halts : (l : Limits) (bytes : List ℕ) (s : State) (f : Found Line3D) (r : Reply Nothing) → f ≡ segment_next bytes → take_record_lem l f s ≡ record { rest = ended r; state = s }
    → take_file_lem l bytes s ≡ halted r s
file_halts l bytes s f r e t =
    file-step l bytes s
    ∙ ap (λ z. let u = take_record_lem l z s in follow u.rest u.state (λ size v. take_file_lem l (drop size bytes) v)) (sym e)
    ∙ ap (λ u. follow u.rest u.state (λ size v. take_file_lem l (drop size bytes) v)) t

-- ---- counts in front

-- none
pub behind-none : (t : Taking) → behind 0 0 t ≡ t
behind-none t =
    let c : 0 + t.count ≡ t.count = omega arith in
    let b : 0 + t.bytes ≡ t.bytes = omega arith in
    λ i. record { reply = t.reply; count = c i; bytes = b i; state = t.state }

-- some and then more
pub behind_more : (c d a b : ℕ) (t : Taking) → behind (c + d) (a + b) t ≡ behind c a (behind d b t)
behind_more c d a b t =
    let e : c + d + t.count ≡ c + (d + t.count) = omega arith in
    let f : a + b + t.bytes ≡ a + (b + t.bytes) = omega arith in
    λ i. record { reply = t.reply; count = e i; bytes = f i; state = t.state }

-- ---- a turn of the loop

module _ (l : Limits) (bytes : List ℕ) (count at : ℕ) (s : State) (o : Turned) (e : o ≡ take_record_lem l (segment_next (drop at bytes)) s) where
  turn : take_file_lem l (drop at bytes) s ≡ follow o.rest o.state (λ size u. take_file_lem l (drop size (drop at bytes)) u)
  turn = file-step l (drop at bytes) s ∙ ap (λ p. follow p.rest p.state (λ size u. take_file_lem l (drop size (drop at bytes)) u)) (sym e)

  -- it ends the taking
  pub turn-ends : (r : Reply Nothing) → o.rest ≡ ended r → record { reply = r; count = count; bytes = at; state = o.state } ≡ behind count at (take_file_lem l (drop at bytes) s)
  turn-ends r d =
      let c : count ≡ count + 0 = omega arith in
      let b : at ≡ at + 0 = omega arith in
      (λ i. record { reply = r; count = c i; bytes = b i; state = o.state })
      ∙ ap (λ z. behind count at (follow z o.state (λ size u. take_file_lem l (drop size (drop at bytes)) u))) (sym d)
      ∙ ap (behind count at) (sym turn)

  -- the next record follows
  pub turn_goes : (size : ℕ) → o.rest ≡ onward size → behind (count + 1) (at + size) (take_file_lem l (drop (at + size) bytes) o.state) ≡ behind count at (take_file_lem l (drop at bytes) s)
  turn_goes size d =
      ap (λ z. behind (count + 1) (at + size) (take_file_lem l z o.state)) (sym (drop-drop size at bytes))
      ∙ behind_more count 1 at size (take_file_lem l (drop size (drop at bytes)) o.state)
      ∙ ap (λ z. behind count at (follow z o.state (λ size u. take_file_lem l (drop size (drop at bytes)) u))) (sym d)
      ∙ ap (behind count at) (sym turn)

  -- further on, within the bytes
  pub turn_further : at ≤ length bytes → (size : ℕ) → o.rest ≡ onward size → (at < at + size) × (at + size ≤ length bytes)
  turn_further here size d =
      let h = subst (Further (drop at bytes)) (ap (λ p. p.rest) (sym e) ∙ d) (record_further l (drop at bytes) s) in
      (omega (arith, h.0), omega (arith, h.1, length-drop at bytes))

-- a turn leaves the graph ready for the next one
pub turn_ready : (bytes : List ℕ) (at : ℕ) (s : State) (o : Turned) → o ≡ take_record_lem limits (segment_next (drop at bytes)) s → Ready limits s → Ready limits o.state
turn_ready bytes at s o e ready = subst (λ p. Ready limits p.state) (sym e) (record_ready (segment_next (drop at bytes)) s ready)
