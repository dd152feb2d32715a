-- `reset_regions` meets its contract: the degrees are the back of their slice, and the two kinds of marks the front and the back of theirs.
use Prim.Native.Nat.{ℕ, ◌*◌, ◌≤◌}
use native.Mathlib.Omega.{arith}
use mathlib.Core.Path.{◌≡◌, ap, ap₂, ◌∙◌}
use mathlib.Core.Bool.{Bool, false}
use mathlib.Core.List.{List, map}
use lib.ListN.{length, take, replicate}
use borrow.Rule.Slice.PartMut.{put_mid, same_len_mid}
use Rattle.lists.specs.Lists.{upto, over}
use Rattle.rules.specs.Limits.{limits}
use Rattle.table_tests.specs.Tests.{starts_at}
use Rattle.tables.specs.Regions.{sources_in, degrees_in, node_marks_in}
use Rattle.tables.proofs.Writing.{take-map-upto}
use Rattle.table_tests.proofs.SoundTests.{starts_of}
use Rattle.tables.proofs.Regions.{tail-is, front-inside, front-behind, tail-inside, tail-before}
use Rattle.reset_entry.proofs.regions.reset_regions.Goals as goal

pub count_starts-counts-requires : goal.count_starts-counts-requires
count_starts-counts-requires c = starts_of limits _ _ c.from-halves.result _ _ _ _ c.from-halves.ensures c.requires.resettable

pub at_stage-requires : goal.at_stage-requires
at_stage-requires c = tt

-- the part of the degrees comes back as the counts over what it held
degrees-written : (source stars counts old after : List ℕ) (n k m h : ℕ) → n ≤ limits.nodes → m ≡ n → h ≡ k → counts ≡ map (starts_at source (2 * h)) (upto limits.nodes)
    → old ≡ degrees_in limits stars → after ≡ over (take m counts) old → after ≡ over (map (starts_at source (2 * k)) (upto n)) (degrees_in limits stars)
degrees-written source stars counts old after n k m h few em eh counted kept written =
    let all = counted ∙ ap (λ h. map (starts_at source (2 * h)) (upto limits.nodes)) eh in
    let first = take-map-upto (starts_at source (2 * k)) n limits.nodes few in
    written ∙ ap₂ over (ap₂ take em all ∙ first) kept

pub returns : goal.returns
returns c =
    let a = c.args in
    let stars = a.stars.now in
    let marks = a.marks.now in
    let degrees = c.write_degrees.new.nodes_degree in
    let nodes = c.clear_marks.new.marks in
    let halves = c.clear_marks-2.new.marks in
    let kept = c.clear_marks.auto.marks in
    let star_room : 2 * limits.edges ≤ length stars = omega arith in
    let mark_room : limits.nodes ≤ length marks = omega arith in
    -- the marks with those of the nodes cleared
    let between = put_mid 0 limits.nodes marks nodes in
    let room : limits.nodes ≤ length between = omega (arith, same_len_mid 0 limits.nodes marks nodes kept) in
    record {
      graph = c.at_stage.ensures;
      star = tail-before (2 * limits.edges) stars degrees star_room;
      degrees = tail-inside (2 * limits.edges) stars degrees star_room
          ∙ degrees-written (sources_in limits a.numbers.now) stars c.count_starts-counts.result _ degrees a.graph.node_count a.graph.edge_count c.from-nodes.result c.from-halves.result
          c.requires.resettable.few_nodes c.from-nodes.ensures c.from-halves.ensures c.count_starts-counts.ensures (tail-is (2 * limits.edges) stars) c.write_degrees.ensures;
      nodes = tail-before limits.nodes between halves room
          ∙ front-inside limits.nodes marks nodes mark_room kept
          ∙ c.clear_marks.ensures
          ∙ ap (λ (m : ℕ). over (replicate m false) (node_marks_in limits marks)) c.from-nodes.ensures;
      halves = tail-inside limits.nodes between halves room
          ∙ c.clear_marks-2.ensures
          ∙ ap₂ (λ (m : ℕ) (t : List Bool). over (replicate (2 * m) false) t) c.from-halves.ensures
          (tail-is limits.nodes between ∙ front-behind limits.nodes marks nodes mark_room kept);
    }
