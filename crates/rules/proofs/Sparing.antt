-- Where the tables are long enough and sound, no call is refused with 6 or 7.
use Prim.Native.Nat.{ℕ, ◌+◌, ◌*◌}
use native.Mathlib.Omega.{arith}
use mathlib.Core.Path.{◌≡◌, refl, sym}
use mathlib.Core.Bool.{Bool, true, false, cond, ◌&&◌, ◌||◌, not}
use lib.Dec.{eqb, ltb, leb}
use lib.ListN.{length}
use Rattle.geometry.specs.Angle.{planar}
use Rattle.geometry.specs.Reply.{refused, success}
use Rattle.geometry.specs.declared.Line3D.{Line3D}
use Rattle.rotation.specs.Rotation.{key_same}
use Rattle.rules.specs.Keys.{key_of}
use Rattle.rules.specs.Limits.{Limits}
use Rattle.rules.specs.LineIds.{lowest_free}
use Rattle.rules.specs.State.{State, roomy, sound}
use Rattle.rules.specs.Adding.{Outcome, demand, Nothing, add}
use Rattle.rules.specs.Stages.{step, sort, prune_step, cut_step, reset}
use Rattle.rules.specs.Ringing.{long_enough}
use Rattle.rules.specs.Extraction.{Lent, holes_in, extracted, extract}
use Rattle.rules.specs.Sketch.{Call, adding, sorting, pruning, cutting, ringing, resetting}
use Rattle.rules.specs.Going.{Held, Spared, SparedCall}
use Rattle.lists.proofs.Counts.{true_is_false}
use Rattle.rules.proofs.AddCases.{nu, nv, half, used, known}

-- a success is
pub success-spared : {A L : Type 0} (o : Outcome A L) (a : A) → o.reply ≡ success a → Spared o
success-spared o a e = record {
  six = λ z. let f : ◌≡◌ {A = ℕ} 0 1 = cc in absurd (omega arith);
  seven = λ z. let f : ◌≡◌ {A = ℕ} 0 1 = cc in absurd (omega arith);
}

-- another refusal is
refused-spared : {A L : Type 0} (n : ℕ) (s : State) (lists : L) → (n ≡ 6 → ⊥) → (n ≡ 7 → ⊥) → Spared {A = A} {L = L} (record { reply = refused n; state = s; lists = lists })
refused-spared n s lists p q = record { six = λ z. p (cc); seven = λ z. q (cc) }

-- a test that passes
passed-spared : {A L : Type 0} (b : Bool) (n : ℕ) (s : State) (lists : L) (o : Outcome A L) → b ≡ true → Spared o → Spared (demand b n s lists o)
passed-spared true n s lists o e p = p
passed-spared false n s lists o e p = absurd (true_is_false (sym e))

-- a test with another number
other-spared : {A L : Type 0} (b : Bool) (n : ℕ) (s : State) (lists : L) (o : Outcome A L) → (n ≡ 6 → ⊥) → (n ≡ 7 → ⊥) → Spared o → Spared (demand b n s lists o)
other-spared true n s lists o p q r = r
other-spared false n s lists o p q r = refused-spared n s lists p q

-- either way of a test
cond-spared : {A L : Type 0} (b : Bool) (x y : Outcome A L) → Spared x → Spared y → Spared (cond b x y)
cond-spared true x y p q = p
cond-spared false x y p q = q

-- a stage step
pub step-spared : {A L : Type 0} (l : Limits) (stage : ℕ) (s : State) (lists : L) (o : Outcome A L) → Held l s → Spared o → Spared (step l stage s lists o)
step-spared l stage s lists o h p =
    passed-spared (roomy l s) 6 s lists _ h.room
    (passed-spared (sound l s) 7 s lists _ h.sense (other-spared (eqb s.stage stage) 5 s lists o (λ e. omega arith) (λ e. omega arith) p))

-- with the test of its lists
room-spared : {A L : Type 0} (l : Limits) (stage : ℕ) (s : State) (b : Bool) (lists : L) (o : Outcome A L) → Held l s → Spared o
    → Spared (step l stage s lists (demand b 8 s lists o))
room-spared l stage s b lists o h p = step-spared l stage s lists _ h (other-spared b 8 s lists o (λ e. omega arith) (λ e. omega arith) p)

-- an addition
add-spared : (l : Limits) (g : Line3D) (s : State) → Held l s → Spared (add l g s)
unfolding add
add-spared l g s h =
    let none : Nothing = record {} in
    let some = ltb (lowest_free (used l g s)) l.pairs in
    step-spared l 0 s none _ h
    (other-spared (planar l.bound g.start && planar l.bound g.end) 1 s none _ (λ e. omega arith) (λ e. omega arith)
    (other-spared (not (key_same (key_of g.start.x g.start.y) (key_of g.end.x g.end.y))) 2 s none _ (λ e. omega arith) (λ e. omega arith)
    (cond-spared (ltb (half g s) (2 * s.edges)) _ _
    (other-spared (known l g s || some) 12 s none _ (λ e. omega arith) (λ e. omega arith) (success-spared _ _ refl))
    (other-spared (leb (s.nodes + (cond (nu g s) 1 0 + cond (nv g s) 1 0)) l.nodes) 3 s none _ (λ e. omega arith) (λ e. omega arith)
    (other-spared (ltb s.edges l.edges) 4 s none _ (λ e. omega arith) (λ e. omega arith)
    (other-spared some 12 s none _ (λ e. omega arith) (λ e. omega arith) (success-spared _ _ refl)))))))

-- what ring extraction gives
extracted-spared : (s : State) (out : Lent) → Spared (extracted s out)
unfolding extracted
extracted-spared s out = success-spared _ _ refl

-- any call
pub call-spared : (l : Limits) (s : State) → Held l s → (c : Call) → SparedCall l s c
unfolding sort prune_step cut_step extract reset
call-spared l s h (adding g) = add-spared l g s h
call-spared l s h sorting = step-spared l 0 s (record {}) _ h (success-spared _ _ refl)
call-spared l s h (pruning out) = room-spared l 1 s (leb s.edges (length out)) out _ h (success-spared _ _ refl)
call-spared l s h (cutting out) = room-spared l 2 s (leb s.edges (length out)) out _ h (success-spared _ _ refl)
call-spared l s h (ringing out) = room-spared l 3 s (long_enough (2 * s.edges) out.rings) out _ h
    (other-spared (leb (length (holes_in s)) (length out.holes)) 13 s out (extracted s out) (λ e. omega arith) (λ e. omega arith) (extracted-spared s out))
call-spared l s h resetting =
    passed-spared (roomy l s) 6 s (record {}) _ h.room (passed-spared (sound l s) 7 s (record {}) _ h.sense (success-spared _ _ refl))
