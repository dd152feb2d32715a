use Rattle.std.proofs.Common.{◌≡◌, ℕ, ◌+◌, ◌<◌, false, List, length, get_or, drop, ℤ, sym, ap, ap₂, ◌∙◌, subst, arith, w64}
use mir.ValLaws.{to_z-of_z}
use Rattle.lists.specs.Lists.{last_of, In}
use Rattle.lists.proofs.Members.{in_at}
use Rattle.geometry.specs.Coordinate.{coordinate_bound}
use Rattle.geometry.specs.Angle.{Point}
use Rattle.inside.specs.Spots.{spot, spot_in}
use Rattle.inside.specs.Standing.{ended, stands_from}
use Rattle.inside.specs.declared.rings.Stands.{Stands}
use Rattle.inside.proofs.Words.{word, small_word}
use Rattle.inside.proofs.Walking.{last-at, last_in, stands-end, stands_on, stands-right, stands-apart}
use Rattle.inside.proofs.rings.ring_stands.Goals as goal
use Rattle.inside.proofs.rings.ring_stands.Goals.{Start, At-loop-to, in-Right, in-Apart}

-- what the whole ring answers
abbrev answer : List ℕ → List ℤ → List ℤ → Point → Stands
answer nodes xs ys p = stands_from (spot_in xs ys) p false (last_of 0 nodes) nodes

-- of the point in words and of the point given it is the same
answer_is : (c : Start)
    → answer c.args.nodes.now c.args.xs.now c.args.ys.now (spot (word c.args.px) (word c.args.py))
    ≡ answer c.args.nodes.now c.args.xs.now c.args.ys.now (spot c.args.px c.args.py)
answer_is c =
    let a = c.args in
    λ i. answer a.nodes.now a.xs.now a.ys.now (spot (to_z-of_z w64 a.px c.ranges.px i) (to_z-of_z w64 a.py c.ranges.py i))

pub loop-to-init : goal.loop-to-init
loop-to-init c =
    let a = c.args in
    let e = sym (last-at a.nodes.now c.requires.1) in (
      omega arith,
      subst (λ n. In n a.nodes.now) e (last_in a.nodes.now c.requires.1),
      ap (λ n. stands_from (spot_in a.xs.now a.ys.now) (spot (word a.px) (word a.py)) false n a.nodes.now) (sym e),
    )

pub nodes_meet-requires : goal.nodes_meet-requires
nodes_meet-requires c =
    let q = c.loop-to in
    let p = c.requires in
    let l : q.to-index < length c.args.nodes.now = omega arith in (
      p.0,
      p.2 q.from q.invariant.1,
      p.2 (get_or c.args.nodes.now q.to-index 0) (in_at c.args.nodes.now q.to-index l),
      p.3,
      (small_word c.args.px coordinate_bound (omega arith) p.4.0, small_word c.args.py coordinate_bound (omega arith) p.4.1),
    )

pub returns-in-OnLine : goal.returns-in-OnLine
returns-in-OnLine c =
    let q = c.loop-to in
    let a = c.args in
    let more : q.to-index < length a.nodes.now = omega arith in
    sym (stands_on (spot_in a.xs.now a.ys.now) (spot (word a.px) (word a.py)) q.odd q.from a.nodes.now q.to-index more (sym c.nodes_meet.ensures ∙ c.in-OnLine.is))
    ∙ q.invariant.2
    ∙ answer_is (goal.at.returns-in-OnLine c).Start

pub loop-to-preserved : goal.loop-to-preserved
loop-to-preserved c =
    let q = c.loop-to in
    let nodes = c.args.nodes.now in
    let at = spot_in c.args.xs.now c.args.ys.now in
    let p = spot (word c.args.px) (word c.args.py) in
    let more : q.to-index < length nodes = omega arith in (
      omega arith,
      elim c.match-nodes_meet.branch [
        | in-Right w ↦ subst (λ n. In n nodes) (sym w.from-is) (in_at nodes q.to-index more)
        | in-Apart w ↦ subst (λ n. In n nodes) (sym w.from-is) (in_at nodes q.to-index more)
      ],
      elim c.match-nodes_meet.branch [
        | in-Right w ↦
            ap₂ (λ b n. stands_from at p b n (drop (q.to-index + 1) nodes)) w.odd-is w.from-is
            ∙ stands-right at p q.odd q.from nodes q.to-index more (sym c.nodes_meet.ensures ∙ w.in-Right.is)
        | in-Apart w ↦
            ap₂ (λ b n. stands_from at p b n (drop (q.to-index + 1) nodes)) w.odd-is w.from-is
            ∙ stands-apart at p q.odd q.from nodes q.to-index more (sym c.nodes_meet.ensures ∙ w.in-Apart.is)
      ]
          ∙ q.invariant.2,
    )

-- at the end the parity decides
decided : (c : At-loop-to) → c.loop-to.to-index ≡ length c.args.nodes.now
    → ended c.loop-to.odd ≡ answer c.args.nodes.now c.args.xs.now c.args.ys.now (spot (word c.args.px) (word c.args.py))
decided c e =
    let q = c.loop-to in
    let a = c.args in
    sym (stands-end (spot_in a.xs.now a.ys.now) (spot (word a.px) (word a.py)) q.odd q.from a.nodes.now q.to-index e) ∙ q.invariant.2

pub returns-then-odd : goal.returns-then-odd
returns-then-odd c =
    let h = goal.at.returns-then-odd c in
    sym (ap ended c.if-odd.true) ∙ decided h.At-loop-to (omega arith) ∙ answer_is h.Start

pub returns-else-odd : goal.returns-else-odd
returns-else-odd c =
    let h = goal.at.returns-else-odd c in
    sym (ap ended c.if-odd.false) ∙ decided h.At-loop-to (omega arith) ∙ answer_is h.Start
