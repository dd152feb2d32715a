use Prim.Native.Nat.{ℕ, ◌+◌, ◌<◌}
use native.Mathlib.Omega.{arith}
use mathlib.Core.Path.{◌≡◌, refl, sym, ap, ◌∙◌}
use mathlib.Core.Bool.{Bool, cond}
use lib.ListN.{length, get_or, set, length-set}
use Rattle.lists.specs.Lists.{In}
use Rattle.rules.specs.HalfEdge.{twin}
use Rattle.stars.specs.Groups.{unmarked, part}
use Rattle.ring_labels.specs.Links.{link_from, link_star_lem}
use Rattle.stars.proofs.Groups.{part_end, part_in}
use Rattle.ring_labels.proofs.Linking.{link-step}
use Rattle.ring_labels.proofs.links.link_star.Goals as goal
use Rattle.ring_labels.proofs.links.link_star.Goals.{then-is_active, else-is_active}

pub last_active-previous-requires : goal.last_active-previous-requires
last_active-previous-requires c = c.requires.0

pub loop-i-init : goal.loop-i-init
loop-i-init c =
    let p : ℕ → Bool = unmarked c.args.dir_edges_marked.now in
    let r = part c.args.from c.args.to c.args.grouped.now in
    (omega arith, c.requires.0.rises, refl, ap (λ x. link_from p x r c.args.next.now) c.last_active-previous.ensures)

-- the half-edge is one of the star
member : (c : goal.After-from) → In (get_or c.args.grouped.now c.loop-i.i 0) (part c.args.from c.args.to c.args.grouped.now)
member c = part_in c.args.from c.args.to c.loop-i.i c.args.grouped.now (omega arith) (omega arith) c.requires.0.ends

pub bounds-next-from : goal.bounds-next-from
bounds-next-from c =
    let q = c.loop-i in
    let low : twin (get_or c.args.grouped.now q.i 0) < length c.args.next.now = c.requires.1 _ (member c) in
    omega (arith, c.from.ensures, c.twin_of.ensures, q.invariant.2)

pub is_active-requires : goal.is_active-requires
is_active-requires c = c.requires.0.low _ (member c)

pub loop-i-preserved : goal.loop-i-preserved
loop-i-preserved c =
    let q = c.loop-i in
    let l = c.args.grouped.now in
    let p : ℕ → Bool = unmarked c.args.dir_edges_marked.now in
    let x : ℕ = get_or l q.i 0 in
    let h : q.i < c.args.to = omega arith in
    let written : set q.next c.from.result q.previous.0 ≡ set q.next (twin x) q.previous.0 =
    ap (λ z. set q.next z q.previous.0) (c.from.ensures ∙ c.twin_of.ensures) in
    let size : length (set q.next c.from.result q.previous.0) ≡ length c.args.next.now = length-set q.next c.from.result q.previous.0 ∙ q.invariant.2 in
    let test : c.is_active.result ≡ p x = c.is_active.ensures in
    let step : (y : ℕ) → y ≡ cond (p x) x q.previous.0
    → link_from p y (part (q.i + 1) c.args.to l) (set q.next c.from.result q.previous.0) ≡ link_star_lem p (part c.args.from c.args.to l) c.args.next.now =
    λ y e. (λ i. link_from p (e i) (part (q.i + 1) c.args.to l) (written i)) ∙ link-step p q.i c.args.to l h c.requires.0.ends q.previous.0 q.next ∙ q.invariant.3 in
    elim c.if-is_active.branch [
      | then-is_active w ↦ (omega arith, omega arith, size, step c.if-is_active.previous.0 (ap (λ z. z.0) w.previous-is ∙ sym (ap (λ b. cond b x q.previous.0) (sym test ∙ w.if-is_active.true))))
      | else-is_active w ↦ (omega arith, omega arith, size, step c.if-is_active.previous.0 (ap (λ z. z.0) w.previous-is ∙ sym (ap (λ b. cond b x q.previous.0) (sym test ∙ w.if-is_active.false))))
    ]

pub returns : goal.returns
returns c =
    let q = c.loop-i in
    let p : ℕ → Bool = unmarked c.args.dir_edges_marked.now in
    sym (ap (λ r. link_from p q.previous.0 r q.next) (part_end q.i c.args.to c.args.grouped.now (omega arith))) ∙ q.invariant.3
