-- From facts to the tests of a state: tables that are long enough pass number 6, the soundness list passes number 7.
use Prim.Native.Nat.{ℕ, ◌+◌, ◌*◌}
use mathlib.Core.Path.{◌≡◌, refl, sym, ap, ◌∙◌}
use mathlib.Core.Bool.{Bool, true, false, ◌&&◌, ◌||◌, beq, not}
use lib.Dec.{ltb, leb}
use lib.ListN.{get_or}
use borrow.Author.Tests.{eq-eqb, ne_eqb, lt-ltb, le-leb, ltb-false}
use Rattle.lists.specs.Lists.{upto, all}
use Rattle.lists.proofs.Passing.{all-upto}
use Rattle.lists.proofs.Tests.{both_true}
use Rattle.rules.specs.Limits.{Limits}
use Rattle.rules.specs.State.{State, roomy, sound, sound_graph, sound_ends, sound_twins, sound_star, sound_coordinates, fresh}
use Rattle.rules.specs.LineIds.{sound_lists}
use Rattle.rules.proofs.ListSoundness.{lists_true}
use Rattle.rules.proofs.Soundness.{Roomy, SoundEnds, Fresh, Sound}

-- one of two tests passes
or_true : (a b : Bool) → (a ≡ false → b ≡ true) → (a || b) ≡ true
or_true true b e = refl
or_true false b e = e refl

-- a mark is like itself
same_mark : (a b : Bool) → a ≡ b → beq a b ≡ true
same_mark true true e = refl
same_mark false false e = refl
same_mark true false e = sym e
same_mark false true e = e

-- number 6
pub roomy_true : (l : Limits) (s : State) → Roomy l s → roomy l s ≡ true
unfolding roomy
roomy_true l s r =
    both_true _ _ (le-leb _ _ r.node_x) (both_true _ _ (le-leb _ _ r.node_y) (both_true _ _ (le-leb _ _ r.node_z) (both_true _ _ (le-leb _ _ r.degree)
    (both_true _ _ (le-leb _ _ r.node_mark) (both_true _ _ (le-leb _ _ r.segment) (both_true _ _ (le-leb _ _ r.line_id) (both_true _ _ (le-leb _ _ r.source)
    (both_true _ _ (le-leb _ _ r.target) (both_true _ _ (le-leb _ _ r.half_mark) (both_true _ _ (le-leb _ _ r.star)
    (both_true _ _ (le-leb _ _ r.place) (both_true _ _ (le-leb _ _ r.id) (le-leb _ _ r.next)))))))))))))

-- one edge
ends_true : (s : State) (k : ℕ) → SoundEnds s k → sound_ends s k ≡ true
unfolding sound_ends
ends_true s k e =
    both_true _ _ (lt-ltb _ _ e.from) (both_true _ _ (lt-ltb _ _ e.to) (both_true _ _ (ap not (ne_eqb _ _ e.different))
    (both_true _ _ (eq-eqb _ _ e.twin_from) (eq-eqb _ _ e.twin_to))))

-- a fresh state
fresh_true : (s : State) → Fresh s → fresh s ≡ true
unfolding fresh
fresh_true s f =
    both_true _ _
    (all-upto _ s.nodes (λ n l. both_true _ _ (ap not (f.unmarked n l)) (eq-eqb _ _ (f.degrees n l))))
    (all-upto _ (2 * s.edges) (λ h l. ap not (f.halves h l)))

-- the tests as one list, shut
graph_of : (l : Limits) (s : State) → (leb s.nodes l.nodes && (leb s.edges l.edges && (leb s.stage 4
    && (all (sound_ends s) (upto s.edges) && (all (sound_twins s) (upto s.edges) && (all (sound_star s) (upto (2 * s.edges))
    && (all (sound_coordinates l s) (upto s.nodes) && (ltb 1 s.stage || fresh s)))))))) ≡ sound_graph l s
unfolding sound_graph
graph_of l s = refl

-- document 01's list and the lists of line ids
sound_of : (l : Limits) (s : State) → sound_graph l s ≡ true → sound_lists l.pairs s.tracings s.line_id s.edges ≡ true → sound l s ≡ true
unfolding sound
sound_of l s a b = both_true _ _ a b

-- one pair of twins
twins_true : (s : State) (k : ℕ) → get_or s.half_mark (2 * k) true ≡ get_or s.half_mark (2 * k + 1) true → sound_twins s k ≡ true
unfolding sound_twins
twins_true s k e = same_mark _ _ e

-- number 7
pub sound_true : (l : Limits) (s : State) → Sound l s → sound l s ≡ true
unfolding sound_star
sound_true l s r =
    sound_of l s (sym (graph_of l s)
    ∙ both_true _ _ (le-leb _ _ r.nodes) (both_true _ _ (le-leb _ _ r.edges) (both_true _ _ (le-leb _ _ r.stage)
    (both_true _ _ (all-upto (sound_ends s) s.edges (λ k l. ends_true s k (r.ends k l)))
    (both_true _ _ (all-upto (sound_twins s) s.edges (λ k l. twins_true s k (r.twins k l)))
    (both_true _ _ (all-upto (sound_star s) (2 * s.edges) (λ h l. eq-eqb _ _ (r.stars h l)))
    (both_true _ _ (all-upto (sound_coordinates l s) s.nodes (λ n h. r.coordinates n h)) (or_true (ltb 1 s.stage) (fresh s) (λ e. fresh_true s (r.new (ltb-false 1 s.stage e)))))))))))
    (lists_true l.pairs s.tracings s.line_id s.edges r.lists)
