use Rattle.rotation.proofs.Candidates.{past_is}
use Prim.Native.Nat.{◌+◌, ◌%◌, ◌<◌}
use native.Mathlib.Omega.{arith}
use native.Mathlib.Nat.{mod-lt}
use mathlib.Core.Path.{◌≡◌, sym, ap, ◌∙◌}
use mathlib.Core.Bool.{true}
use lib.ListN.{length}
use Rattle.lists.proofs.Counts.{by_test}
use Rattle.std.specs.declared.cmp.Ordering.TheVariants.{Less, Equal, Greater}
use Rattle.rotation.specs.Rotation.{keys_of, key_at}
use Rattle.rotation.specs.Steps.{Search, goes_on_lem}
use Rattle.rotation.proofs.Keys.{length-keys, order-along}
use Rattle.rotation.proofs.Least.{least-short}
use Rattle.rotation.proofs.Steps.{goes, going, underway_start, underway_turn, search_found, no_comparisons}
use Rattle.rotation.proofs.rotation_index.Goals as goal
use Rattle.rotation.proofs.rotation_index.Goals.{then-loop-left-test+then-right-n+else-offset-n, then-loop-left-test+else-right-n, else-loop-left-test}

pub returns-then-n-lt2 : goal.returns-then-n-lt2
returns-then-n-lt2 c =
    let h : length (keys_of c.args.xs.now c.args.ys.now) < 2 = omega (arith, (length-keys c.args.xs.now c.args.ys.now c.requires)) in
    λ i. record { start = sym (least-short (keys_of c.args.xs.now c.args.ys.now) h) i; comparisons = sym (no_comparisons (keys_of c.args.xs.now c.args.ys.now) h) i }

pub loop-left-init : goal.loop-left-init
loop-left-init c = underway_start (keys_of c.args.xs.now c.args.ys.now) (omega (arith, (length-keys c.args.xs.now c.args.ys.now c.requires)))

pub compare_at-requires : goal.compare_at-requires
compare_at-requires c =
    let h : 0 < length c.args.xs.now = omega (arith, (let it : let q = c.loop-left in let n = length c.args.xs.now in (q.left < n) × (q.right < n) × (q.offset < n) = (c.loop-left-test.true, c.if-right-n.true, c.if-offset-n.true) in it)) in
    let p : c.place-i.result < length c.args.xs.now = rw c.place-i.ensures (mod-lt _ h) in
    let t : c.place-j.result < length c.args.xs.now = rw c.place-j.ensures (mod-lt _ h) in
    (c.requires, omega arith, omega arith)

pub loop-left-preserved-in-Equal : goal.loop-left-preserved-in-Equal
loop-left-preserved-in-Equal c =
    underway_turn (keys_of c.args.xs.now c.args.ys.now) Equal (let it : Search = let q = c.loop-left in record { left = q.left; right = q.right; offset = q.offset; compared = q.compared } in it) c.loop-left.invariant (let n = (length-keys c.args.xs.now c.args.ys.now c.requires) in
    let r = (let it : let q = c.loop-left in let n = length c.args.xs.now in (q.left < n) × (q.right < n) × (q.offset < n) = (c.loop-left-test.true, c.if-right-n.true, c.if-offset-n.true) in it) in
    goes _ (let it : Search = let q = c.loop-left in record { left = q.left; right = q.right; offset = q.offset; compared = q.compared } in it) (omega arith) (omega arith) (omega arith))
    (sym (let s = (let it : Search = let q = c.loop-left in record { left = q.left; right = q.right; offset = q.offset; compared = q.compared } in it) in
    let n = sym (length-keys c.args.xs.now c.args.ys.now c.requires) in
    order-along _ _ _ _ _ c.compare_at.ensures
    (ap (key_at (keys_of c.args.xs.now c.args.ys.now)) (c.place-i.ensures ∙ ap (λ m. (s.left + s.offset) % m) n))
    (ap (key_at (keys_of c.args.xs.now c.args.ys.now)) (c.place-j.ensures ∙ ap (λ m. (s.right + s.offset) % m) n))) ∙ c.in-Equal.is)

pub loop-left-preserved-in-Less : goal.loop-left-preserved-in-Less
loop-left-preserved-in-Less c =
    rw c.past-right.ensures (underway_turn (keys_of c.args.xs.now c.args.ys.now) Less (let it : Search = let q = c.loop-left in record { left = q.left; right = q.right; offset = q.offset; compared = q.compared } in it) c.loop-left.invariant (let n = (length-keys c.args.xs.now c.args.ys.now c.requires) in
    let r = (let it : let q = c.loop-left in let n = length c.args.xs.now in (q.left < n) × (q.right < n) × (q.offset < n) = (c.loop-left-test.true, c.if-right-n.true, c.if-offset-n.true) in it) in
    goes _ (let it : Search = let q = c.loop-left in record { left = q.left; right = q.right; offset = q.offset; compared = q.compared } in it) (omega arith) (omega arith) (omega arith))
    (sym (let s = (let it : Search = let q = c.loop-left in record { left = q.left; right = q.right; offset = q.offset; compared = q.compared } in it) in
    let n = sym (length-keys c.args.xs.now c.args.ys.now c.requires) in
    order-along _ _ _ _ _ c.compare_at.ensures
    (ap (key_at (keys_of c.args.xs.now c.args.ys.now)) (c.place-i.ensures ∙ ap (λ m. (s.left + s.offset) % m) n))
    (ap (key_at (keys_of c.args.xs.now c.args.ys.now)) (c.place-j.ensures ∙ ap (λ m. (s.right + s.offset) % m) n))) ∙ c.in-Less.is))

pub loop-left-preserved : goal.loop-left-preserved
loop-left-preserved c =
    rw c.past-left.ensures (underway_turn (keys_of c.args.xs.now c.args.ys.now) Greater (let it : Search = let q = c.loop-left in record { left = q.left; right = q.right; offset = q.offset; compared = q.compared } in it) c.loop-left.invariant (let n = (length-keys c.args.xs.now c.args.ys.now c.requires) in
    let r = (let it : let q = c.loop-left in let n = length c.args.xs.now in (q.left < n) × (q.right < n) × (q.offset < n) = (c.loop-left-test.true, c.if-right-n.true, c.if-offset-n.true) in it) in
    goes _ (let it : Search = let q = c.loop-left in record { left = q.left; right = q.right; offset = q.offset; compared = q.compared } in it) (omega arith) (omega arith) (omega arith))
    (sym (let s = (let it : Search = let q = c.loop-left in record { left = q.left; right = q.right; offset = q.offset; compared = q.compared } in it) in
    let n = sym (length-keys c.args.xs.now c.args.ys.now c.requires) in
    order-along _ _ _ _ _ c.compare_at.ensures
    (ap (key_at (keys_of c.args.xs.now c.args.ys.now)) (c.place-i.ensures ∙ ap (λ m. (s.left + s.offset) % m) n))
    (ap (key_at (keys_of c.args.xs.now c.args.ys.now)) (c.place-j.ensures ∙ ap (λ m. (s.right + s.offset) % m) n))) ∙ c.in-Greater.is))

pub returns : goal.returns
returns c =
    let q = c.loop-left in
    let ks = keys_of c.args.xs.now c.args.ys.now in
    let n = length-keys c.args.xs.now c.args.ys.now c.requires in
    let last : Search = record { left = q.left; right = q.right; offset = q.offset; compared = q.compared } in
    let stop : goes_on_lem (length ks) last ≡ true → ⊥ = λ t.
    let r : (q.left < length ks) × (q.right < length ks) × (q.offset < length ks) = going (length ks) last t in
    elim c.loop-left-test.branch [
      | then-loop-left-test+then-right-n+else-offset-n w ↦ omega (arith, w.if-offset-n.false)
      | then-loop-left-test+else-right-n w ↦ omega (arith, w.if-right-n.false)
      | else-loop-left-test w ↦ omega (arith, w.loop-left-test.false)
    ] in
    let r = search_found ks last q.invariant (by_test (goes_on_lem (length ks) last) (λ t. absurd (stop t)) (λ t. t)) in
    λ i. record { start = (c.min.ensures ∙ r.0) i; comparisons = r.1 i }

pub loop-left-smaller-in-Less : goal.loop-left-smaller-in-Less
loop-left-smaller-in-Less c = omega (arith, (let it : let q = c.loop-left in let n = length c.args.xs.now in (q.left < n) × (q.right < n) × (q.offset < n) = (c.loop-left-test.true, c.if-right-n.true, c.if-offset-n.true) in it), (past_is _ _ _ _ c.past-right.ensures).behind)

pub loop-left-smaller : goal.loop-left-smaller
loop-left-smaller c = omega (arith, (let it : let q = c.loop-left in let n = length c.args.xs.now in (q.left < n) × (q.right < n) × (q.offset < n) = (c.loop-left-test.true, c.if-right-n.true, c.if-offset-n.true) in it), (past_is _ _ _ _ c.past-left.ensures).behind)
