-- What the end of the older station's taking says, number by number.
use Prim.Native.Nat.{ℕ, suc, ◌<◌, ◌≤◌}
use native.Mathlib.Omega.{arith}
use mathlib.Core.Path.{◌≡◌, sym, ap, ◌∙◌}
use mathlib.Core.Logic.{◌⊎◌, inl, inr}
use lib.ListN.{length}
use Rattle.geometry.specs.Reply.{Reply, refused, success}
use Rattle.lists.proofs.Counts.{true_is_false}
use Rattle.rules.specs.Limits.{Limits}
use Rattle.rules.specs.Adding.{Nothing}
use Rattle.rules.specs.Sketch.{Sketch}
use Rattle.rules.specs.Claim.{is_refused}
use Rattle.taking.specs.Taking.{Taking}
use Rattle.file_taking.specs.FileAdding.{end_number_lem}
use Rattle.older_station.specs.Drawing.{Within}
use Rattle.older_station.proofs.Growing.{Grown, grown_within}
use Rattle.older_station.proofs.Walks.{Ends, whole, twelve, three, four}

-- two numbers are not one
clash : (r : Reply Nothing) (i j : ℕ) → (i ≡ j → ⊥) → r ≡ refused i → r ≡ refused j → ⊥
clash r i j d e f = d (ap end_number_lem (sym e ∙ f))

-- a refusal is no success
broken : (r : Reply Nothing) (i : ℕ) → r ≡ refused i → r ≡ success (record {}) → ⊥
broken r i e f = true_is_false (ap is_refused (sym e ∙ f))

module _ (old : Limits) (at : ℕ → Sketch) (all : Sketch) (o n : Taking) where
  -- the whole file
  pub ends-takes : Ends old at all o n → o.reply ≡ success (record {}) → (n ≡ o) × Within old all
  ends-takes (whole e z w) r = (z, w)
  ends-takes (twelve e z w) r = absurd (broken o.reply 12 e r)
  ends-takes (three e p) r = absurd (broken o.reply 3 e r)
  ends-takes (four e p q) r = absurd (broken o.reply 4 e r)

  -- exactly if the newer station takes it, and it is within the older limits
  pub ends-taken : ((c : ℕ) → Grown (at c) all) → Ends old at all o n → n.reply ≡ success (record {}) → Within old all → o.reply ≡ success (record {})
  ends-taken grown (whole e z w) r v = e
  ends-taken grown (twelve e z w) r v = absurd (broken o.reply 12 e (ap (λ t. t.reply) (sym z) ∙ r))
  ends-taken grown (three e p) r v = absurd (omega (arith, p, (grown (suc o.count)).points, v.0))
  ends-taken grown (four e p q) r v = absurd (omega (arith, q, (grown (suc o.count)).lines, v.1))

  -- the numbers
  pub ends-numbers : Ends old at all o n → (i : ℕ) → o.reply ≡ refused i → (i ≡ 3) ⊎ ((i ≡ 4) ⊎ (i ≡ 12))
  ends-numbers (whole e z w) i r = absurd (broken o.reply i r e)
  ends-numbers (twelve e z w) i r = inr (inr (ap end_number_lem (sym r ∙ e)))
  ends-numbers (three e p) i r = inl (ap end_number_lem (sym r ∙ e))
  ends-numbers (four e p q) i r = inr (inl (ap end_number_lem (sym r ∙ e)))

  -- 3
  pub ends-three : Ends old at all o n → o.reply ≡ refused 3 → old.nodes < length (at (suc o.count)).points
  ends-three (whole e z w) r = absurd (broken o.reply 3 r e)
  ends-three (twelve e z w) r = absurd (clash o.reply 12 3 (λ d. omega arith) e r)
  ends-three (three e p) r = p
  ends-three (four e p q) r = absurd (clash o.reply 4 3 (λ d. omega arith) e r)

  -- 4
  pub ends-four : Ends old at all o n → o.reply ≡ refused 4 → (length (at (suc o.count)).points ≤ old.nodes) × (old.edges < length (at (suc o.count)).lines)
  ends-four (whole e z w) r = absurd (broken o.reply 4 r e)
  ends-four (twelve e z w) r = absurd (clash o.reply 12 4 (λ d. omega arith) e r)
  ends-four (three e p) r = absurd (clash o.reply 3 4 (λ d. omega arith) e r)
  ends-four (four e p q) r = (p, q)

  -- 12
  pub ends-twelve : Ends old at all o n → o.reply ≡ refused 12 → (n ≡ o) × Within old (at (suc o.count))
  ends-twelve (whole e z w) r = absurd (broken o.reply 12 r e)
  ends-twelve (twelve e z w) r = (z, w)
  ends-twelve (three e p) r = absurd (clash o.reply 3 12 (λ d. omega arith) e r)
  ends-twelve (four e p q) r = absurd (clash o.reply 4 12 (λ d. omega arith) e r)

  -- a record past the older limits that the newer station comes to
  pub ends-due : ((c : ℕ) → Grown (at c) all) → ((c d : ℕ) → c ≤ d → Grown (at c) (at d)) → Ends old at all o n
      → (k : ℕ) → k ≤ n.count → (Within old (at (suc k)) → ⊥) → (o.reply ≡ refused 3) ⊎ (o.reply ≡ refused 4)
  ends-due grown first (whole e z w) k h over = absurd (over (grown_within old (at (suc k)) all (grown (suc k)) w))
  ends-due grown first (twelve e z w) k h over =
      let so : suc k ≤ suc o.count = omega (arith, ap (λ t. t.count) z) in
      absurd (over (grown_within old (at (suc k)) (at (suc o.count)) (first (suc k) (suc o.count) so) w))
  ends-due grown first (three e p) k h over = inl e
  ends-due grown first (four e p q) k h over = inr e

  -- a file past the older limits
  pub ends-past : Ends old at all o n → (Within old all → ⊥) → (o.reply ≡ refused 3) ⊎ ((o.reply ≡ refused 4) ⊎ (o.reply ≡ refused 12))
  ends-past (whole e z w) over = absurd (over w)
  ends-past (twelve e z w) over = inr (inr e)
  ends-past (three e p) over = inl e
  ends-past (four e p q) over = inr (inl e)
