-- What the tests of a state say: tables that are long enough, and the soundness list.
use Prim.Native.Nat.{ℕ, ◌+◌, ◌*◌, ◌<◌, ◌≤◌}
use mathlib.Core.Path.{◌≡◌, refl, sym, ◌∙◌}
use mathlib.Core.Bool.{Bool, true, false, ◌&&◌, ◌||◌, beq, not, and-false}
use lib.Dec.{eqb, ltb, leb}
use lib.ListN.{length, get_or, take}
use borrow.Author.Tests.{eqb-true, eqb-false, ltb-true, leb-true, not-true, le-ltb}
use Rattle.lists.specs.Lists.{upto, all, count_of}
use Rattle.rules.specs.Limits.{Limits}
use Rattle.rules.specs.State.{State, star_of, roomy, sound, sound_graph, sound_ends, sound_twins, sound_star, sound_coordinates, fresh}
use Rattle.lists.proofs.Counts.{true_is_false}
use Rattle.lists.proofs.Members.{all-below}
use Rattle.lists.proofs.Tests.{both, part}
use Rattle.rules.specs.LineIds.{sound_lists}
use Rattle.rules.proofs.ListSoundness.{SoundLists, sound_lists_lem}

-- number 6
pub record Roomy (l : Limits) (s : State) : Type 0 where
  pub node_x : l.nodes ≤ length s.node_x
  pub node_y : l.nodes ≤ length s.node_y
  pub node_z : l.nodes ≤ length s.node_z
  pub degree : l.nodes ≤ length s.degree
  pub node_mark : l.nodes ≤ length s.node_mark
  pub segment : 6 * l.edges ≤ length s.segment
  pub line_id : l.edges ≤ length s.line_id
  pub source : 2 * l.edges ≤ length s.source
  pub target : 2 * l.edges ≤ length s.target
  pub half_mark : 2 * l.edges ≤ length s.half_mark
  pub star : 2 * l.edges ≤ length s.star
  pub place : l.edges ≤ length s.tracings.place
  pub id : l.pairs ≤ length s.tracings.id
  pub next : l.pairs ≤ length s.tracings.next

-- the test of number 6 says all of these
pub is-roomy : (l : Limits) (s : State) → roomy l s ≡ true → Roomy l s
unfolding roomy
is-roomy l s e = record {
  node_x = leb-true _ _ (part _ _ e (λ f. rw f));
  node_y = leb-true _ _ (part _ _ e (λ f. rw f (simp and-false)));
  node_z = leb-true _ _ (part _ _ e (λ f. rw f (simp and-false)));
  degree = leb-true _ _ (part _ _ e (λ f. rw f (simp and-false)));
  node_mark = leb-true _ _ (part _ _ e (λ f. rw f (simp and-false)));
  segment = leb-true _ _ (part _ _ e (λ f. rw f (simp and-false)));
  line_id = leb-true _ _ (part _ _ e (λ f. rw f (simp and-false)));
  source = leb-true _ _ (part _ _ e (λ f. rw f (simp and-false)));
  target = leb-true _ _ (part _ _ e (λ f. rw f (simp and-false)));
  half_mark = leb-true _ _ (part _ _ e (λ f. rw f (simp and-false)));
  star = leb-true _ _ (part _ _ e (λ f. rw f (simp and-false)));
  place = leb-true _ _ (part _ _ e (λ f. rw f (simp and-false)));
  id = leb-true _ _ (part _ _ e (λ f. rw f (simp and-false)));
  next = leb-true _ _ (part _ _ e (λ f. rw f (simp and-false)));
}

-- number 7, for edge k: its half-edges swap two different nodes below the node count
pub record SoundEnds (s : State) (k : ℕ) : Type 0 where
  pub from : get_or s.source (2 * k) 0 < s.nodes
  pub to : get_or s.target (2 * k) 0 < s.nodes
  pub different : get_or s.source (2 * k) 0 ≡ get_or s.target (2 * k) 0 → ⊥
  pub twin_from : get_or s.source (2 * k + 1) 0 ≡ get_or s.target (2 * k) 0
  pub twin_to : get_or s.target (2 * k + 1) 0 ≡ get_or s.source (2 * k) 0

-- the test of one edge says these
pub sound_ends_lem : (s : State) (k : ℕ) → sound_ends s k ≡ true → SoundEnds s k
unfolding sound_ends
sound_ends_lem s k e = record {
  from = ltb-true _ _ (part _ _ e (λ f. rw f));
  to = ltb-true _ _ (part _ _ e (λ f. rw f (simp and-false)));
  different = eqb-false _ _ (not-true _ (part _ _ e (λ f. rw f (simp and-false))));
  twin_from = eqb-true _ _ (part _ _ e (λ f. rw f (simp and-false)));
  twin_to = eqb-true _ _ (part _ _ e (λ f. rw f (simp and-false)));
}

-- the test of two tests
same_bool : (a b : Bool) → beq a b ≡ true → a ≡ b
same_bool true true e = refl
same_bool true false e = sym e
same_bool false true e = e
same_bool false false e = refl

-- twins are marked alike
pub sound_twins_lem : (s : State) (k : ℕ) → sound_twins s k ≡ true → get_or s.half_mark (2 * k) true ≡ get_or s.half_mark (2 * k + 1) true
unfolding sound_twins
sound_twins_lem s k e = same_bool _ _ e

-- a half-edge stands once in the star table
pub sound_star_lem : (s : State) (h : ℕ) → sound_star s h ≡ true → count_of h (take (2 * s.edges) s.star) ≡ 1
unfolding sound_star
sound_star_lem s h e = eqb-true _ _ e

-- the second of two
or_left : (a b : Bool) → (a || b) ≡ true → a ≡ false → b ≡ true
or_left true b e f = absurd (true_is_false f)
or_left false b e f = e

-- nothing is marked, and degrees are star lengths
pub record Fresh (s : State) : Type 0 where
  pub unmarked : (n : ℕ) → n < s.nodes → get_or s.node_mark n true ≡ false
  pub degrees : (n : ℕ) → n < s.nodes → get_or s.degree n 0 ≡ length (star_of s n)
  pub halves : (h : ℕ) → h < 2 * s.edges → get_or s.half_mark h true ≡ false

-- the tests of a fresh state
fresh-is : (s : State) → fresh s ≡ (all (λ n. not (get_or s.node_mark n true) && eqb (get_or s.degree n 0) (length (star_of s n))) (upto s.nodes)
    && all (λ h. not (get_or s.half_mark h true)) (upto (2 * s.edges)))
unfolding fresh
fresh-is s = refl

-- the test says these
pub is-fresh : (s : State) → fresh s ≡ true → Fresh s
is-fresh s e =
    let p : ℕ → Bool = λ n. not (get_or s.node_mark n true) && eqb (get_or s.degree n 0) (length (star_of s n)) in
    let q : ℕ → Bool = λ h. not (get_or s.half_mark h true) in
    let t = both (all p (upto s.nodes)) (all q (upto (2 * s.edges))) (sym (fresh-is s) ∙ e) in
    record {
      unmarked = λ n l. not-true _ (both _ (eqb (get_or s.degree n 0) (length (star_of s n))) (all-below p s.nodes t.0 n l)).0;
      degrees = λ n l. eqb-true _ _ (both (not (get_or s.node_mark n true)) _ (all-below p s.nodes t.0 n l)).1;
      halves = λ h l. not-true _ (all-below q (2 * s.edges) t.1 h l);
    }

-- number 7
pub record Sound (l : Limits) (s : State) : Type 0 where
  pub nodes : s.nodes ≤ l.nodes
  pub edges : s.edges ≤ l.edges
  pub stage : s.stage ≤ 4
  pub ends : (k : ℕ) → k < s.edges → SoundEnds s k
  pub twins : (k : ℕ) → k < s.edges → get_or s.half_mark (2 * k) true ≡ get_or s.half_mark (2 * k + 1) true
  pub stars : (h : ℕ) → h < 2 * s.edges → count_of h (take (2 * s.edges) s.star) ≡ 1
  pub coordinates : (n : ℕ) → n < s.nodes → sound_coordinates l s n ≡ true
  pub lists : SoundLists l.pairs s.tracings s.line_id s.edges
  pub new : s.stage ≤ 1 → Fresh s

-- the tests as one list, shut
graph_is : (l : Limits) (s : State) → sound_graph l s ≡ (leb s.nodes l.nodes && (leb s.edges l.edges && (leb s.stage 4
    && (all (sound_ends s) (upto s.edges) && (all (sound_twins s) (upto s.edges) && (all (sound_star s) (upto (2 * s.edges))
    && (all (sound_coordinates l s) (upto s.nodes) && (ltb 1 s.stage || fresh s))))))))
unfolding sound_graph
graph_is l s = refl

-- document 01's list and the lists of line ids
sound_both : (l : Limits) (s : State) → sound l s ≡ true → (sound_graph l s ≡ true) × (sound_lists l.pairs s.tracings s.line_id s.edges ≡ true)
unfolding sound
sound_both l s e = both (sound_graph l s) (sound_lists l.pairs s.tracings s.line_id s.edges) e

-- the test of number 7 says all of these
pub is-sound : (l : Limits) (s : State) → sound l s ≡ true → Sound l s
is-sound l s e =
    let parts = sound_both l s e in
    let t = sym (graph_is l s) ∙ parts.0 in
    record {
      nodes = leb-true _ _ (part _ _ t (λ f. rw f));
      edges = leb-true _ _ (part _ _ t (λ f. rw f (simp and-false)));
      stage = leb-true _ _ (part _ _ t (λ f. rw f (simp and-false)));
      ends = λ k h. sound_ends_lem s k (all-below (sound_ends s) s.edges (part _ _ t (λ f. rw f (simp and-false))) k h);
      twins = λ k h. sound_twins_lem s k (all-below (sound_twins s) s.edges (part _ _ t (λ f. rw f (simp and-false))) k h);
      stars = λ h q. sound_star_lem s h (all-below (sound_star s) (2 * s.edges) (part _ _ t (λ f. rw f (simp and-false))) h q);
      coordinates = λ n h. all-below (sound_coordinates l s) s.nodes (part _ _ t (λ f. rw f (simp and-false))) n h;
      lists = sound_lists_lem l.pairs s.tracings s.line_id s.edges parts.1;
      new = λ h. is-fresh s (or_left _ _ (part (ltb 1 s.stage || fresh s) _ t (λ f. rw f (simp and-false))) (le-ltb 1 s.stage h));
    }
