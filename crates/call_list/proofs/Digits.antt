-- One digit more.
use Rattle.std.proofs.Common.{◌≡◌, ℕ, suc, ◌+◌, ◌-◌, ◌*◌, ◌<◌, ◌≤◌, List, get_or, sym, ap, ◌∙◌, subst, arith, below_more}
use Rattle.call_list.specs.Digits.{digit_of, value_of, Written}

module _ (base : ℕ) (text : List ℕ) (at : ℕ) where
  pub written_none : Written base text at at 0
  unfolding value_of
  written_none = record {
    digits = λ k l. absurd (omega arith);
    value = sym (ap (value_of base text at) (let e : at - at ≡ 0 = omega arith in e));
  }

  pub written_more : (i n d : ℕ) → at ≤ i → d ≡ digit_of (get_or text i 0) → d < base → Written base text at i n → Written base text at (i + 1) (n * base + d)
  unfolding value_of
  written_more i n d h e l w =
      let more : i + 1 - at ≡ i - at + 1 = omega arith in
      let same : at + (i - at) ≡ i = omega arith in
      let grown : i + 1 - at ≡ suc (i - at) = omega arith in
      let digit : d ≡ digit_of (get_or text (at + (i - at)) 0) = e ∙ sym (ap (λ (k : ℕ). digit_of (get_or text k 0)) same) in
      record {
        digits = λ k m. below_more (λ (k : ℕ). digit_of (get_or text (at + k) 0) < base) (i - at) w.digits (subst (λ (x : ℕ). x < base) digit l) k (omega arith);
        value = (λ i. w.value i * base + digit i) ∙ sym (ap (value_of base text at) grown);
      }
