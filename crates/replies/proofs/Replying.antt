-- What an answer writes, by whether it is a refusal or a success.
use Prim.Native.Nat.{ℕ, ◌<◌}
use mathlib.Core.Path.{◌≡◌, sym, ap, ◌∙◌, subst}
use mathlib.Core.List.{List}
use Rattle.geometry.specs.Reply.{Reply, refused, success}
use Rattle.tables.specs.declared.PlanarGraph.{PlanarGraph}
use Rattle.replies.specs.Lent.{numbers_of, number_of, after, Fits, Answered}

module _ {A : Type 0} {values : A → List ℕ} {reply : Reply A} {g : PlanarGraph} {small out : List ℕ} where
  -- a refusal tells its number and writes nothing
  pub answer-refused : {number n : ℕ} → reply ≡ refused n → number ≡ n → Answered values reply g small out number small out
  answer-refused e told = record {
    told = told ∙ sym (ap number_of e);
    counted = sym (ap (λ z. after (λ a. numbers_of g) z small) e);
    fits = subst (λ z. Fits z g) (sym e) tt;
    written = sym (ap (λ z. after values z out) e);
  }

  -- a success tells 0 and writes the counts, the stage and the values
  pub answer-success : {a : A} {small' out' : List ℕ} → reply ≡ success a → (small' ≡ numbers_of g) × (g.stage < 256) → out' ≡ values a
      → Answered values reply g small out 0 small' out'
  answer-success e state written = record {
    told = sym (ap number_of e);
    counted = state.0 ∙ sym (ap (λ z. after (λ a. numbers_of g) z small) e);
    fits = subst (λ z. Fits z g) (sym e) state.1;
    written = written ∙ sym (ap (λ z. after values z out) e);
  }
