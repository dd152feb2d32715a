-- `put_ends` meets its contract: the first two entries lie in the first region, the others in the second.
use Prim.Native.Nat.{ℕ, ◌+◌, ◌*◌, ◌<◌, ◌≤◌}
use native.Mathlib.Omega.{arith}
use mathlib.Core.Path.{◌≡◌, ap, ◌∙◌}
use lib.ListN.{take, drop}
use Rattle.rules.specs.Limits.{limits}
use Rattle.tables.specs.Regions.{sources_in, targets_in, list_places_in, links_in}
use Rattle.adding.specs.Written.{two_at}
use Rattle.table_entries.proofs.Stores.{front_two, front_two_rest, middle_two, tail_two_rest}
use Rattle.table_entries.proofs.put_ends.Goals as goal

pub returns : goal.returns
returns c =
    let a = c.args in
    let n = 2 * limits.edges in
    let f = 2 * a.edge.0 in
    let u = a.u.0 in
    let v = a.v.0 in
    let first = c.put_halves.ensures ∙ ap (λ k. two_at a.numbers.now (2 * k) u v) c.from-first.ensures in
    let second = c.put_halves-2.ensures ∙ (λ i. two_at (first i) (n + 2 * c.from-first.ensures i) v u) in
    let low : f + 1 < n = omega (arith, c.requires) in
    let behind : (m : ℕ) → 2 * n ≤ m → drop m (two_at (two_at a.numbers.now f u v) (n + f) v u) ≡ drop m a.numbers.now =
    λ m h. front_two_rest m (two_at a.numbers.now f u v) (n + f) v u (omega arith) ∙ front_two_rest m a.numbers.now f u v (omega arith) in record {
      source = ap (sources_in limits) second ∙ tail_two_rest n (two_at a.numbers.now f u v) f v u ∙ front_two n a.numbers.now f u v low;
      target = ap (targets_in limits) second ∙ middle_two n (two_at a.numbers.now f u v) f v u low ∙ ap (λ t. two_at (take n t) f v u) (front_two_rest n a.numbers.now f u v low);
      list = ap (list_places_in limits) second ∙ ap (take limits.edges) (behind (4 * limits.edges) (omega arith));
      link = ap (links_in limits) second ∙ behind (5 * limits.edges) (omega arith);
    }
