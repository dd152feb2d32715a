-- Takings of both stations side by side: how the older one's ends, what goes before, and what a record in front changes.
use Prim.Native.Nat.{ℕ, suc, ◌+◌, ◌<◌, ◌≤◌}
use native.Mathlib.Omega.{arith}
use mathlib.Core.Path.{◌≡◌, sym, ap, subst, ◌∙◌}
use lib.ListN.{length}
use Rattle.geometry.specs.Reply.{Reply, refused, success}
use Rattle.rules.specs.Limits.{Limits}
use Rattle.rules.specs.State.{State}
use Rattle.rules.specs.Adding.{Nothing}
use Rattle.rules.specs.Sketch.{Sketch}
use Rattle.taking.specs.Taking.{Taking, halted, behind}
use Rattle.taking.proofs.Turns.{behind-none, behind_more}
use Rattle.older_station.specs.Drawing.{Within}

-- how the older station's taking o ends, beside the newer one's n: `at c` is what the first c records draw, `all` what all of them do
pub data Ends (old : Limits) (at : ℕ → Sketch) (all : Sketch) (o n : Taking) : Type 0 where
  whole : o.reply ≡ success (record {}) → n ≡ o → Within old all → Ends old at all o n
  twelve : o.reply ≡ refused 12 → n ≡ o → Within old (at (suc o.count)) → Ends old at all o n
  three : o.reply ≡ refused 3 → old.nodes < length (at (suc o.count)).points → Ends old at all o n
  four : o.reply ≡ refused 4 → length (at (suc o.count)).points ≤ old.nodes → old.edges < length (at (suc o.count)).lines → Ends old at all o n

-- and what goes before: `left b u` is the newer station's taking of what is left behind b bytes
pub record Walk (old : Limits) (at : ℕ → Sketch) (all : Sketch) (left : ℕ → State → Taking) (o n : Taking) : Type 0 where
  pub alike : n ≡ behind o.count o.bytes (left o.bytes o.state)
  pub before : Within old (at o.count)
  pub ends : Ends old at all o n

-- ---- a record that both take

module _ (old : Limits) (at rest : ℕ → Sketch) (all : Sketch) (size : ℕ) (same : (c : ℕ) → at (suc c) ≡ rest c) where
  -- behind it there is one record more
  one_more : (c : ℕ) → rest c ≡ at (1 + c)
  one_more c = let e : suc c ≡ 1 + c = omega arith in sym (same c) ∙ ap at e

  -- and one more with the next
  two_more : (c : ℕ) → rest (suc c) ≡ at (suc (1 + c))
  two_more c = let e : suc c ≡ 1 + c = omega arith in ap rest e ∙ sym (same (1 + c))

  ends-behind : (o n : Taking) → Ends old rest all o n → Ends old at all (behind 1 size o) (behind 1 size n)
  ends-behind o n (whole e z w) = whole e (ap (behind 1 size) z) w
  ends-behind o n (twelve e z w) = twelve e (ap (behind 1 size) z) (subst (Within old) (two_more o.count) w)
  ends-behind o n (three e p) = three e (subst (λ k. old.nodes < length k.points) (two_more o.count) p)
  ends-behind o n (four e p q) =
      four e (subst (λ k. length k.points ≤ old.nodes) (two_more o.count) p) (subst (λ k. old.edges < length k.lines) (two_more o.count) q)

  -- what is left behind more bytes
  pub walk-behind : (left more : ℕ → State → Taking) → ((b : ℕ) (u : State) → more b u ≡ left (size + b) u) → (o n : Taking)
      → Walk old rest all more o n → Walk old at all left (behind 1 size o) (behind 1 size n)
  walk-behind left more further o n w = record {
    alike = ap (behind 1 size) (w.alike ∙ ap (behind o.count o.bytes) (further o.bytes o.state)) ∙ sym (behind_more 1 o.count size o.bytes _);
    before = subst (Within old) (one_more o.count) w.before;
    ends = ends-behind o n w.ends;
  }

-- ---- a record that ends the older station's taking

-- nothing is taken
pub walk-halted : (old : Limits) (at : ℕ → Sketch) (all : Sketch) (left : ℕ → State → Taking) (r : Reply Nothing) (s : State) (n : Taking)
    → n ≡ left 0 s → Within old (at 0) → Ends old at all (halted r s) n → Walk old at all left (halted r s) n
walk-halted old at all left r s n e w z = record { alike = e ∙ sym (behind-none (left 0 s)); before = w; ends = z }
