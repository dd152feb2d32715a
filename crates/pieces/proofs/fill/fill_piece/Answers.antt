use Prim.Native.Nat.{◌+◌, ◌<◌, ◌≤◌}
use native.Mathlib.Omega.{arith}
use mathlib.Core.Path.{◌≡◌, refl, sym, ap, ◌∙◌, subst}
use mathlib.Core.List.{[], ◌∷◌}
use lib.ListN.{length, get_or, set, take}
use lib.Dec.{eqb}
use Rattle.lists.specs.Lists.{In}
use Rattle.rules.specs.State.{arrangement_in}
use Rattle.lists.proofs.Counts.{bit_true, below_le}
use Rattle.seeds.proofs.Reaching.{free, one_none, new_none, free_reach}
use Rattle.pieces.proofs.Turns.{takes, turn_less, turn_below, turn_fills}
use Rattle.pieces.proofs.Filling.{Below, Filling, fill_begin, fill_whole}
use Rattle.pieces.proofs.fill.fill_piece.Goals as goal

pub loop-top-init : goal.loop-top-init
loop-top-init c =
    let p = c.args.pieces.now in
    let k = c.reach-top.ensures in
    let f = free_reach c.args.piece (c.args.seed.0 ∷ []) p
    (λ x m. let e : x ≡ c.args.seed.0 = bit_true x c.args.seed.0 (omega arith) in omega (arith, c.requires.node, c.requires.in_pieces)) c.requires.some in
    (refl, refl, omega (arith, k.height, ap free k.numbers, f, below_le (λ n. eqb (get_or p n 0) 0) (length p), c.reach-top.auto.pieces), λ nodes edges t b. b, λ seed nodes edges star gs sane room fl. fl)

pub spread_node-top-requires : goal.spread_node-top-requires
spread_node-top-requires c =
    let q = c.loop-top in
    let k = (let it : (length c.loop-top.pieces ≡ length c.args.pieces.now) × (length c.loop-top.stack ≡ length c.args.stack.now) × Below c.requires.nodes (take c.loop-top.top c.loop-top.stack) = (
      c.loop-top.invariant.0 ∙ c.reach-top.auto.pieces,
      c.loop-top.invariant.1 ∙ c.reach-top.auto.stack,
      c.loop-top.invariant.3 c.requires.nodes c.requires.edges c.requires.spreads (λ x m. let e : x ≡ c.args.seed.0 = bit_true x c.args.seed.0 (omega (arith, subst (λ l. In x l) (c.reach-top.ensures.pushed ∙ (new_none c.args.piece c.args.seed.0 [] c.args.pieces.now c.requires.none)) m)) in
          subst (λ y. y < c.requires.nodes) (sym e) c.requires.node),
    ) in it) in
    let deep : length q.pieces ≤ length q.stack = omega (arith, k.0, k.1, c.requires.in_stack) in
    takes c.args.dir_edges_src.now c.args.dir_edges_marked.now c.args.offsets.now c.args.grouped.now c.args.piece c.requires.some q.pieces q.stack q.top (omega arith) q.invariant.2 deep
    c.requires.nodes c.requires.edges c.requires.spreads (omega (arith, k.0, c.requires.in_pieces)) k.2

pub loop-top-smaller : goal.loop-top-smaller
loop-top-smaller c =
    let q = c.loop-top in
    let k = (let it : (length c.loop-top.pieces ≡ length c.args.pieces.now) × (length c.loop-top.stack ≡ length c.args.stack.now) × Below c.requires.nodes (take c.loop-top.top c.loop-top.stack) = (
      c.loop-top.invariant.0 ∙ c.reach-top.auto.pieces,
      c.loop-top.invariant.1 ∙ c.reach-top.auto.stack,
      c.loop-top.invariant.3 c.requires.nodes c.requires.edges c.requires.spreads (λ x m. let e : x ≡ c.args.seed.0 = bit_true x c.args.seed.0 (omega (arith, subst (λ l. In x l) (c.reach-top.ensures.pushed ∙ (new_none c.args.piece c.args.seed.0 [] c.args.pieces.now c.requires.none)) m)) in
          subst (λ y. y < c.requires.nodes) (sym e) c.requires.node),
    ) in it) in
    let n = c.spread_node-top in
    let deep : length q.pieces ≤ length q.stack = omega (arith, k.0, k.1, c.requires.in_stack) in
    turn_less c.args.dir_edges_src.now c.args.dir_edges_marked.now c.args.offsets.now c.args.grouped.now c.args.piece c.requires.some q.pieces q.stack q.top (omega arith) q.invariant.2 deep
    c.requires.nodes c.requires.edges c.requires.spreads (omega (arith, k.0, c.requires.in_pieces)) k.2
    n.new.pieces n.new.stack n.result n.ensures

pub loop-top-preserved : goal.loop-top-preserved
loop-top-preserved c =
    let q = c.loop-top in
    let k = (let it : (length c.loop-top.pieces ≡ length c.args.pieces.now) × (length c.loop-top.stack ≡ length c.args.stack.now) × Below c.requires.nodes (take c.loop-top.top c.loop-top.stack) = (
      c.loop-top.invariant.0 ∙ c.reach-top.auto.pieces,
      c.loop-top.invariant.1 ∙ c.reach-top.auto.stack,
      c.loop-top.invariant.3 c.requires.nodes c.requires.edges c.requires.spreads (λ x m. let e : x ≡ c.args.seed.0 = bit_true x c.args.seed.0 (omega (arith, subst (λ l. In x l) (c.reach-top.ensures.pushed ∙ (new_none c.args.piece c.args.seed.0 [] c.args.pieces.now c.requires.none)) m)) in
          subst (λ y. y < c.requires.nodes) (sym e) c.requires.node),
    ) in it) in
    let n = c.spread_node-top in
    let deep : length q.pieces ≤ length q.stack = omega (arith, k.0, k.1, c.requires.in_stack) in
    let less : n.result + free n.new.pieces < q.top + free q.pieces =
    turn_less c.args.dir_edges_src.now c.args.dir_edges_marked.now c.args.offsets.now c.args.grouped.now c.args.piece c.requires.some q.pieces q.stack q.top (omega arith) q.invariant.2 deep
    c.requires.nodes c.requires.edges c.requires.spreads (omega (arith, k.0, c.requires.in_pieces)) k.2
    n.new.pieces n.new.stack n.result n.ensures in (
      n.auto.pieces ∙ q.invariant.0,
      n.auto.stack ∙ q.invariant.1,
      omega (arith, less, q.invariant.2, n.auto.pieces),
      (λ nodes edges t b.
          turn_below c.args.dir_edges_src.now c.args.dir_edges_marked.now c.args.offsets.now c.args.grouped.now c.args.piece c.requires.some q.pieces q.stack q.top (omega arith) q.invariant.2 deep
          nodes edges t (q.invariant.3 nodes edges t b)
          n.new.pieces n.new.stack n.result n.ensures),
      (λ seed nodes edges star gs sane room fl.
          turn_fills c.args.dir_edges_src.now c.args.dir_edges_marked.now c.args.offsets.now c.args.grouped.now c.args.piece c.requires.some q.pieces q.stack q.top (omega arith) q.invariant.2 deep
          nodes edges star gs sane (omega (arith, q.invariant.0, room)) _ seed
          n.new.pieces n.new.stack n.result n.ensures (q.invariant.4 seed nodes edges star gs sane room fl)),
    )

-- it has its number then
first_pieces : (c : goal.After-loop-top) → c.reach-top.new.pieces ≡ set c.args.pieces.now c.args.seed.0 c.args.piece
first_pieces c = c.reach-top.ensures.numbers ∙ one_none c.args.piece c.args.seed.0 c.args.pieces.now c.requires.none

pub returns : goal.returns
returns c =
    let q = c.loop-top in
    let p = c.args.pieces.now in
    let one = set p c.args.seed.0 c.args.piece in
    let e : c.reach-top.new.pieces ≡ one = first_pieces c in
    λ nodes edges star gs sane l room clear n h.
    let g = arrangement_in nodes edges c.args.dir_edges_src.now c.args.dir_edges_marked.now star in
    let start : Filling g sane one c.args.seed.0 c.args.piece one (c.args.seed.0 ∷ []) = fill_begin g sane p c.args.seed.0 c.args.piece c.requires.some l room clear in
    let done : Filling g sane c.reach-top.new.pieces c.args.seed.0 c.args.piece q.pieces (take q.top q.stack) =
    q.invariant.4 c.args.seed.0 nodes edges star gs sane (omega (arith, c.reach-top.auto.pieces, room))
    (subst (λ z. Filling g sane z c.args.seed.0 c.args.piece z (take c.reach-top.result c.reach-top.new.stack)) (sym e)
    (subst (Filling g sane one c.args.seed.0 c.args.piece one) (sym (c.reach-top.ensures.pushed ∙ (new_none c.args.piece c.args.seed.0 [] c.args.pieces.now c.requires.none))) start)) in
    let z : q.top ≡ 0 = omega arith in
    fill_whole g sane p c.args.seed.0 c.args.piece q.pieces l
    (subst (λ t. Filling g sane one c.args.seed.0 c.args.piece q.pieces (take t q.stack)) z
    (subst (λ o. Filling g sane o c.args.seed.0 c.args.piece q.pieces (take q.top q.stack)) e done)) n h
