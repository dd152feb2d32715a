-- `put_last` meets its contract: the halves are listed in the first region, and the degrees raised in the last.
use Prim.Native.Nat.{ℕ, ◌+◌, ◌*◌, ◌<◌}
use native.Mathlib.Omega.{arith}
use mathlib.Core.List.{List}
use mathlib.Core.Path.{◌≡◌, sym, ap, subst, ◌∙◌}
use Rattle.rules.specs.Limits.{limits}
use Rattle.tables.specs.Regions.{star_table_in, degrees_in}
use Rattle.adding.specs.Written.{raised, two_at}
use Rattle.table_entries.proofs.Stores.{front_two, front_two_rest}
use Rattle.table_entries.specs.Written.{Raisable}
use Rattle.table_entries.proofs.put_last.Goals as goal

-- the halves of edge k are listed in the first region, and the last one stays
listed : (stars new : List ℕ) (k at : ℕ) → k < limits.edges → at ≡ 2 * k → new ≡ two_at stars at (2 * k) (2 * k + 1)
    → (star_table_in limits new ≡ two_at (star_table_in limits stars) (2 * k) (2 * k) (2 * k + 1)) × (degrees_in limits new ≡ degrees_in limits stars)
listed stars new k at few e put =
    let n = 2 * limits.edges in
    let f = 2 * k in
    let low : f + 1 < n = omega (arith, few) in
    let all = put ∙ ap (λ at. two_at stars at f (f + 1)) e in
    (ap (star_table_in limits) all ∙ front_two n stars f f (f + 1) low, ap (degrees_in limits) all ∙ front_two_rest n stars f f (f + 1) low)

pub raise-requires : goal.raise-requires
raise-requires c =
    let put = listed c.args.stars.now c.put_halves.new.entries c.args.edge.0 c.from.result c.requires.few c.from.ensures c.put_halves.ensures in
    (c.requires.from, omega (arith, c.requires.star_room, c.put_halves.auto.entries), subst (λ t. Raisable t c.args.u.0) (sym put.1) c.requires.low_from)

pub raise-requires-2 : goal.raise-requires-2
raise-requires-2 c =
    let put = listed c.args.stars.now c.put_halves.new.entries c.args.edge.0 c.from.result c.requires.few c.from.ensures c.put_halves.ensures in (
      c.requires.to,
      omega (arith, c.requires.star_room, c.put_halves.auto.entries, c.raise.auto.stars),
      subst (λ t. Raisable t c.args.v.0) (sym (c.raise.ensures.degree ∙ ap (λ t. raised t c.args.u.0) put.1)) c.requires.low_to,
    )

pub returns : goal.returns
returns c =
    let put = listed c.args.stars.now c.put_halves.new.entries c.args.edge.0 c.from.result c.requires.few c.from.ensures c.put_halves.ensures in
    let last = c.raise-2.ensures in
    record {
      star = last.star ∙ c.raise.ensures.star ∙ put.0;
      degree = last.degree ∙ ap (λ t. raised t c.args.v.0) (c.raise.ensures.degree ∙ ap (λ t. raised t c.args.u.0) put.1);
    }
