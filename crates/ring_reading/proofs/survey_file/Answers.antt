use Prim.Native.Nat.{◌-◌}
use Prim.Native.Nat.{◌+◌, ◌*◌}
use native.Mathlib.Omega.{arith}
use mathlib.Core.Path.{◌≡◌, sym, ap, subst, ◌∙◌}
use lib.ListN.{drop, length-drop}
use Rattle.std.specs.Prelude.{Ok}
use Rattle.std.proofs.lemmas.Result.{err_from_is_err_and}
use Rattle.file_rules.specs.Records.{taken, passed}
use Rattle.file_rules.specs.RingFile.{ring_next}
use Rattle.geometry.specs.Reply.{refused}
use Rattle.ring_reading.specs.Found.{number_of, ring_of, record_of, found_of, survey_of}
use Rattle.ring_reading.proofs.Progress.{Surveying, survey_start, found-there, survey_ring, survey_passed, survey_end, survey_wrong}
use Rattle.ring_reading.proofs.survey_file.Goals as goal

pub loop-found-init : goal.loop-found-init
loop-found-init c = survey_start c.args.bytes.now

-- the next ring
ring : (c : goal.In-Ring)
    → let b = c.args.bytes.now in
    let q = c.loop-found in
    let n = c.in-Ring.count in
    taken (ring_of (drop q.at b) n) (18 + 2 * n) ≡ ring_next (drop q.at b)
ring c =
    let b = c.args.bytes.now in
    let q = c.loop-found in
    sym (ap (record_of (drop q.at b)) c.in-Ring.is) ∙ subst (λ o. found_of (drop q.at b) (Ok o) ≡ ring_next (drop q.at b)) c.in-Some.is c.in_ok-found.ensures

-- with it
with-ring : (c : goal.In-Ring)
    → let b = c.args.bytes.now in
    let q = c.loop-found in
    let n = c.in-Ring.count in
    Surveying b (q.at + (18 + 2 * n)) (q.rings + 1) (q.nodes + n)
with-ring c =
    let b = c.args.bytes.now in
    let q = c.loop-found in
    survey_ring b q.at q.rings q.nodes q.invariant c.in-Ring.count (ring c)

pub overflow_add-rings : goal.overflow_add-rings
overflow_add-rings c = let w = with-ring c in omega (arith, w.there, w.small)

pub overflow_add-nodes : goal.overflow_add-nodes
overflow_add-nodes c = let w = with-ring c in omega (arith, w.there, w.small)

pub overflow_mul-at : goal.overflow_mul-at
overflow_mul-at c = let w = with-ring c in omega (arith, w.there, w.small)

pub overflow_add-at : goal.overflow_add-at
overflow_add-at c = let w = with-ring c in omega (arith, w.there, w.small)

pub overflow_add-at-in-Ring : goal.overflow_add-at-in-Ring
overflow_add-at-in-Ring c = let w = with-ring c in omega (arith, w.there, w.small)

pub loop-found-smaller-in-Ring : goal.loop-found-smaller-in-Ring
loop-found-smaller-in-Ring c = let w = with-ring c in omega (arith, w.there, w.small)

pub loop-found-preserved-in-Ring : goal.loop-found-preserved-in-Ring
loop-found-preserved-in-Ring c = with-ring c

-- the next record passed over
pass : (c : goal.In-Passed)
    → let b = c.args.bytes.now in
    let q = c.loop-found in
    passed c.in-Passed.size ≡ ring_next (drop q.at b)
pass c =
    let b = c.args.bytes.now in
    let q = c.loop-found in
    sym (ap (record_of (drop q.at b)) c.in-Passed.is) ∙ subst (λ o. found_of (drop q.at b) (Ok o) ≡ ring_next (drop q.at b)) c.in-Some.is c.in_ok-found.ensures

pub loop-found-smaller : goal.loop-found-smaller
loop-found-smaller c =
    let b = c.args.bytes.now in
    let w = found-there b c.loop-found.at c.loop-found.rings c.loop-found.nodes c.loop-found.invariant (passed c.in-Passed.size) (pass c) in
    omega (arith, w.0, w.1, length-drop c.loop-found.at b)

pub loop-found-preserved : goal.loop-found-preserved
loop-found-preserved c = survey_passed c.args.bytes.now c.loop-found.at c.loop-found.rings c.loop-found.nodes c.loop-found.invariant c.in-Passed.size (pass c)

pub returns : goal.returns
returns c =
    let b = c.args.bytes.now in
    let q = c.loop-found in
    survey_end b q.at q.rings q.nodes q.invariant (subst (λ o. found_of (drop q.at b) (Ok o) ≡ ring_next (drop q.at b)) c.in_default.is c.in_ok-found.ensures)

pub returns-in_err-found : goal.returns-in_err-found
returns-in_err-found c =
    let b = c.args.bytes.now in
    let q = c.loop-found in
    let p = err_from_is_err_and c.from_residual.result c.from_residual.ensures.1 in
    ap survey_of p.1 ∙ ap (λ why. refused (number_of why)) p.2 ∙ survey_wrong b q.at q.rings q.nodes q.invariant (number_of c.in_err-found.field-0.0) c.in_err-found.ensures

pub overflow_add-at-in-Passed : goal.overflow_add-at-in-Passed
overflow_add-at-in-Passed c =
    let b = c.args.bytes.now in
    omega (arith, (survey_passed b c.loop-found.at c.loop-found.rings c.loop-found.nodes c.loop-found.invariant c.in-Passed.size (pass c)).there)
