-- `same_part` meets its contract: equal parts have the same entries.
use Rattle.std.proofs.Common.{◌≡◌, ℕ, ◌+◌, ◌-◌, ◌<◌, ◌≤◌, List, get_or, take, drop, sym, ap, ◌∙◌, arith}
use Rattle.std.proofs.lemmas.Bool.Decides.{Decides-eqb}
use Rattle.std.proofs.lemmas.List.{get_or-take, get_or-drop}
use Rattle.std.proofs.lemmas.Slice.Eq.{slice_eq-Decides}
use Rattle.call_image.proofs.change.Change.same_part.Goals as goal

-- a part's entry is the list's
in_part : (xs : List ℕ) (from n k : ℕ) → from ≤ k → k - from < n → get_or (take n (drop from xs)) (k - from) 0 ≡ get_or xs k 0
in_part xs from n k l m =
    let place : from + (k - from) ≡ k = omega arith in
    get_or-take n (drop from xs) (k - from) 0 m ∙ get_or-drop from xs (k - from) 0 ∙ ap (λ (i : ℕ). get_or xs i 0) place

pub returns-else-to-from : goal.returns-else-to-from
returns-else-to-from c e k l m =
    let a = c.args in
    let n = a.to - a.from in
    let same : take n (drop a.from a.self.before.now) ≡ take n (drop a.from a.self.after.now) = (slice_eq-Decides Decides-eqb _ _ _ c.eq.ensures).0 e in
    let inside : k - a.from < n = omega arith in
    sym (in_part a.self.before.now a.from n k m inside) ∙ ap (λ (xs : List ℕ). get_or xs (k - a.from) 0) same ∙ in_part a.self.after.now a.from n k m inside
