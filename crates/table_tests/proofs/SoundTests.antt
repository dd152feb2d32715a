-- The soundness list as the code tests it, and what number 6 and number 7 give to the functions of this crate.
use Prim.Native.Nat.{ℕ, ◌*◌, ◌<◌, ◌≤◌}
use native.Mathlib.Omega.{arith}
use mathlib.Core.Path.{◌≡◌, sym, ap, ◌∙◌}
use mathlib.Core.Bool.{Bool, true, false, ◌&&◌, ◌||◌, and_assoc}
use mathlib.Core.List.{List, map}
use lib.Dec.{eqb, ltb, leb}
use lib.ListN.{length, get_or, take}
use borrow.Author.Tests.{eqb-true, leb-true, lt-ltb, le-ltb}
use Rattle.lists.specs.Lists.{upto, all, count_of}
use Rattle.lists.proofs.Members.{all-below}
use Rattle.lists.proofs.Tests.{both}
use Rattle.rules.specs.Limits.{Limits}
use Rattle.rules.specs.State.{State, star_of, sound_graph, sound_ends, sound_twins, sound_star, sound_coordinates, fresh}
use Rattle.rules.proofs.Soundness.{SoundEnds, sound_ends_lem}
use Rattle.rules.proofs.Twin.{by_halves}
use Rattle.table_tests.specs.Tests.{counts_within_lem, ends_swap_lem, twins_alike, stands_once, lies_whole, listed_tables, starts_at, unmarked, node_fresh, fresh_tables}
use lib.Ieee.{Float}
use Rattle.rules.proofs.Values.{get_d_map-upto}
use Rattle.table_tests.specs.Given.{Starts, Resettable}
use Rattle.table_tests.proofs.Testing.{all_agree}
use Rattle.table_tests.proofs.Standing.{star-starts}

-- the first three, the next four, the last
regroup : (a b c d e f g h : Bool) → (a && (b && (c && (d && (e && (f && (g && h))))))) ≡ ((a && (b && c)) && ((d && (e && (f && g))) && h))
regroup a b c d e f g h = simp and_assoc

-- the tests of every state, of a state's own tables
abbrev pub listed : Limits → State → Bool
listed l s = listed_tables l.bound s.nodes s.edges s.node_x s.node_y s.source s.target s.half_mark s.star

-- the tests of its counts
abbrev pub counted : Limits → State → Bool
counted l s = counts_within_lem l s.nodes s.edges s.stage

-- the soundness list in the order in which the code tests it
pub sound-is : (l : Limits) (s : State) → sound_graph l s ≡ (counted l s && (listed l s && (ltb 1 s.stage || fresh s)))
unfolding sound_graph sound_ends sound_twins sound_star sound_coordinates
sound-is l s = regroup
    (leb s.nodes l.nodes)
    (leb s.edges l.edges)
    (leb s.stage 4)
    (all (sound_ends s) (upto s.edges))
    (all (sound_twins s) (upto s.edges))
    (all (sound_star s) (upto (2 * s.edges)))
    (all (sound_coordinates l s) (upto s.nodes))
    (ltb 1 s.stage || fresh s)

-- what the counts' test says
pub counts-low : (l : Limits) (nodes edges stage : ℕ) → counts_within_lem l nodes edges stage ≡ true → (nodes ≤ l.nodes) × (edges ≤ l.edges)
counts-low l nodes edges stage t =
    let a = both (leb nodes l.nodes) (leb edges l.edges && leb stage 4) t in
    (leb-true _ _ a.0, leb-true _ _ (both (leb edges l.edges) (leb stage 4) a.1).0)

module _ (l : Limits) (s : State) (t : listed l s ≡ true) where
  -- the ends of edge k
  listed-ends : (k : ℕ) → k < s.edges → SoundEnds s k
  unfolding sound_ends
  listed-ends k q = sound_ends_lem s k (all-below (sound_ends s) s.edges (both (all (sound_ends s) (upto s.edges)) _ t).0 k q)

  -- half-edges start at nodes
  pub listed-starts : (h : ℕ) → h < 2 * s.edges → get_or s.source h 0 < s.nodes
  listed-starts = by_halves (λ h. get_or s.source h 0 < s.nodes) s.edges
      (λ k q. (listed-ends k q).from)
      (λ k q. omega (arith, (listed-ends k q).twin_from, (listed-ends k q).to))

  -- each stands once in the star table
  pub listed-once : (h : ℕ) → h < 2 * s.edges → count_of h (take (2 * s.edges) s.star) ≡ 1
  listed-once h q =
      let stars = all (stands_once (2 * s.edges) s.star) (upto (2 * s.edges)) in
      let whole = all (lies_whole l.bound s.node_x s.node_y) (upto s.nodes) in
      let rest = (both (all (ends_swap_lem s.nodes s.source s.target) (upto s.edges)) (all (twins_alike s.half_mark) (upto s.edges) && (stars && whole)) t).1 in
      let once = (both stars whole (both (all (twins_alike s.half_mark) (upto s.edges)) (stars && whole) rest).1).0 in
      eqb-true _ _ (all-below (stands_once (2 * s.edges) s.star) (2 * s.edges) once h q)

-- degrees counted from the half-edges are star lengths
pub fresh-is : (s : State) → ((h : ℕ) → h < 2 * s.edges → count_of h (take (2 * s.edges) s.star) ≡ 1)
    → fresh s ≡ fresh_tables s.nodes (2 * s.edges) s.degree s.node_mark s.source s.half_mark
unfolding fresh star_of
fresh-is s once =
    ap (λ b. b && all (unmarked s.half_mark) (upto (2 * s.edges)))
    (all_agree
    (λ n. unmarked s.node_mark n && eqb (get_or s.degree n 0) (length (star_of s n)))
    (λ n. unmarked s.node_mark n && eqb (get_or s.degree n 0) (starts_at s.source (2 * s.edges) n))
    s.nodes
    (λ n h. ap (λ k. unmarked s.node_mark n && eqb (get_or s.degree n 0) k) (star-starts s.source s.star (2 * s.edges) n once)))

-- ---- the four answers of the soundness test

module _ (l : Limits) (s : State) where
  -- the counts are too large
  pub unsound_counts : counted l s ≡ false → false ≡ sound_graph l s
  unsound_counts a = sym (sound-is l s ∙ ap (λ b. b && (listed l s && (ltb 1 s.stage || fresh s))) a)

  -- a test of every state fails
  pub unsound_tables : counted l s ≡ true → listed l s ≡ false → false ≡ sound_graph l s
  unsound_tables a b = sym (sound-is l s ∙ (λ i. a i && (b i && (ltb 1 s.stage || fresh s))))

  -- from stage 2 on nothing else is asked
  pub sound_later : counted l s ≡ true → listed l s ≡ true → 1 < s.stage → true ≡ sound_graph l s
  sound_later a b c = sym (sound-is l s ∙ (λ i. a i && (b i && (lt-ltb 1 s.stage c i || fresh s))))

  -- before it nothing is marked and degrees are star lengths
  pub sound_early : counted l s ≡ true → listed l s ≡ true → s.stage ≤ 1
      → fresh_tables s.nodes (2 * s.edges) s.degree s.node_mark s.source s.half_mark ≡ sound_graph l s
  sound_early a b c = sym (fresh-is s (listed-once l s b)) ∙ sym (sound-is l s ∙ (λ i. a i && (b i && (le-ltb 1 s.stage c i || fresh s))))

-- ---- what the calls answer, put together

-- the four tests of every state, with the counts as the code has them
pub listed_tests : (bound nodes edges : ℕ) (xs ys : List Float) (source target : List ℕ) (half_marks : List Bool) (star : List ℕ) (n e : ℕ) (a b c d : Bool)
    → n ≡ nodes → e ≡ edges
    → a ≡ all (ends_swap_lem nodes source target) (upto e)
    → b ≡ all (twins_alike half_marks) (upto e)
    → c ≡ all (stands_once (2 * e) star) (upto (2 * e))
    → d ≡ all (lies_whole bound xs ys) (upto n)
    → (a && b && c && d) ≡ listed_tables bound nodes edges xs ys source target half_marks star
listed_tests bound nodes edges xs ys source target half_marks star n e a b c d qn qe qa qb qc qd =
    (λ i. qa i && qb i && qc i && qd i)
    ∙ (λ i. all (ends_swap_lem nodes source target) (upto (qe i)) && all (twins_alike half_marks) (upto (qe i)) && all (stands_once (2 * qe i) star) (upto (2 * qe i)) && all (lies_whole bound xs ys) (upto (qn i)))
    ∙ and_assoc (all (ends_swap_lem nodes source target) (upto edges) && all (twins_alike half_marks) (upto edges)) (all (stands_once (2 * edges) star) (upto (2 * edges))) (all (lies_whole bound xs ys) (upto nodes))
    ∙ and_assoc (all (ends_swap_lem nodes source target) (upto edges)) (all (twins_alike half_marks) (upto edges)) (all (stands_once (2 * edges) star) (upto (2 * edges)) && all (lies_whole bound xs ys) (upto nodes))

-- the two tests of a fresh state, with the counts as the code has them
pub fresh_tests : (nodes edges : ℕ) (degrees : List ℕ) (node_marks : List Bool) (source : List ℕ) (half_marks : List Bool) (most n e : ℕ) (counts : List ℕ) (a b : Bool)
    → n ≡ nodes → e ≡ edges → nodes ≤ most
    → counts ≡ map (starts_at source (2 * e)) (upto most)
    → a ≡ all (node_fresh node_marks degrees counts) (upto n)
    → b ≡ all (unmarked half_marks) (upto (2 * e))
    → (a && b) ≡ fresh_tables nodes (2 * edges) degrees node_marks source half_marks
fresh_tests nodes edges degrees node_marks source half_marks most n e counts a b qn qe few qc qa qb =
    (λ i. qa i && qb i)
    ∙ (λ i. all (node_fresh node_marks degrees (qc i)) (upto (qn i)) && all (unmarked half_marks) (upto (2 * qe i)))
    ∙ (λ i. all (node_fresh node_marks degrees (map (starts_at source (2 * qe i)) (upto most))) (upto nodes) && all (unmarked half_marks) (upto (2 * edges)))
    ∙ ap (λ t. t && all (unmarked half_marks) (upto (2 * edges)))
    (all_agree
    (node_fresh node_marks degrees (map (starts_at source (2 * edges)) (upto most)))
    (λ k. unmarked node_marks k && eqb (get_or degrees k 0) (starts_at source (2 * edges) k))
    nodes
    (λ k h. ap (λ v. unmarked node_marks k && eqb (get_or degrees k 0) v) (get_d_map-upto (starts_at source (2 * edges)) most k 0 (omega arith))))

-- what counting the starts asks, from what resetting asks
pub starts_of : (l : Limits) (nodes edges e : ℕ) (source degree : List ℕ) (node_mark half_mark : List Bool) → e ≡ edges
    → Resettable l nodes edges source degree node_mark half_mark → Starts l (2 * e) source
starts_of l nodes edges e source degree node_mark half_mark q r = record {
  few = omega (arith, r.few_edges);
  room = omega (arith, r.source_room);
  within = λ h p. omega (arith, r.few_nodes, r.starts h (omega arith));
}
