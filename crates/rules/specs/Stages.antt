-- Creating, sorting, pruning, cutting and resetting: what each answers and leaves.
use Rattle.std.specs.Prelude.{ℕ, ◌+◌, ◌*◌, Bool, true, false, List, [], ◌∷◌, map, reverse, length, get_or, set, replicate, eqb, leb}
use Rattle.lists.specs.Lists.{upto, flatten, over}
use Rattle.lists.specs.Sort.{sorted}
use Rattle.rules.specs.Angle.{angle_before}
use Rattle.rules.specs.Prune.{Pruning, prune}
use Rattle.rules.specs.Split.{cuts}
use Rattle.rules.specs.Euler.{Census, census}
use Rattle.rules.specs.Limits.{Limits}
use Rattle.rules.specs.State.{State, star_of, arrangement, point_of, roomy, sound}
use Rattle.geometry.specs.Reply.{success}
use Rattle.rules.specs.Adding.{Outcome, demand, Nothing}

-- ---- creating: no table is read or written, but each must be long enough

-- counts and stage 0
abbrev pub created : State → State
created s = record {
  nodes = 0;
  edges = 0;
  stage = 0;
  node_x = s.node_x;
  node_y = s.node_y;
  node_z = s.node_z;
  degree = s.degree;
  node_mark = s.node_mark;
  segment = s.segment;
  line_id = s.line_id;
  source = s.source;
  target = s.target;
  half_mark = s.half_mark;
  star = s.star;
  tracings = s.tracings;
}

-- creating tests 6
unfoldable pub create : Limits → State → Outcome Nothing Nothing
unfolding roomy
create l s = demand (roomy l s) 6 s (record {}) (record { reply = success (record {}); state = created s; lists = record {} })

-- ---- the stage steps

-- the state with other tables where a stage step writes some, and another stage
abbrev pub next : State → ℕ → List ℕ → List Bool → List Bool → List ℕ → State
next s stage degree node_mark half_mark star = record {
  nodes = s.nodes;
  edges = s.edges;
  stage = stage;
  node_x = s.node_x;
  node_y = s.node_y;
  node_z = s.node_z;
  degree = degree;
  node_mark = node_mark;
  segment = s.segment;
  line_id = s.line_id;
  source = s.source;
  target = s.target;
  half_mark = half_mark;
  star = star;
  tracings = s.tracings;
}

-- what a stage step tests first: 6, 7, then that its stage is the one before
abbrev pub step : {A L : Type 0} → Limits → ℕ → State → L → Outcome A L → Outcome A L
step l stage s lists o =
    demand (roomy l s) 6 s lists (demand (sound l s) 7 s lists (demand (eqb s.stage stage) 5 s lists o))

-- ---- sorting

-- a star in angular order
unfoldable pub sorted_star : State → ℕ → List ℕ
unfolding star_of sorted angle_before point_of
sorted_star s n =
    sorted (λ g h. angle_before (point_of s n) (point_of s (get_or s.target g 0)) (point_of s (get_or s.target h 0))) (star_of s n)

-- every star sorted
abbrev pub sorted_state : State → State
sorted_state s = next s 1 s.degree s.node_mark s.half_mark (over (flatten (map (sorted_star s) (upto s.nodes))) s.star)

-- sorting every star
unfoldable pub sort : Limits → State → Outcome Nothing Nothing
unfolding roomy sound sorted_star
sort l s = step l 0 s (record {}) (record { reply = success (record {}); state = sorted_state s; lists = record {} })

-- ---- pruning

-- pruning the tables
unfoldable pub pruned : State → Pruning
unfolding star_of prune
pruned s = prune (star_of s) (λ h. get_or s.source h 0) s.nodes s.edges s.degree s.node_mark s.half_mark

-- the edges of the dangles in the order found
abbrev pub dangles_of : State → List ℕ
dangles_of s = reverse (pruned s).found

-- the dangles marked
abbrev pub pruned_state : State → State
pruned_state s = let p = pruned s in next s 2 p.degrees p.node_marks p.half_marks s.star

-- the count of dangles; the list gets their edges
unfoldable pub prune_step : Limits → State → List ℕ → Outcome ℕ (List ℕ)
unfolding roomy sound pruned
prune_step l s out =
    step l 1 s out
    (demand (leb s.edges (length out)) 8 s out
    (record { reply = success (length (dangles_of s)); state = pruned_state s; lists = over (dangles_of s) out }))

-- ---- cutting

-- both halves of each edge marked
abbrev pub mark_edges : List ℕ → List Bool → List Bool
mark_edges [] ms = ms
mark_edges (k ∷ ks) ms = mark_edges ks (set (set ms (2 * k) true) (2 * k + 1) true)

-- the cut edges in rising order
abbrev pub cuts_of : State → List ℕ
cuts_of s = cuts (arrangement s)

-- these marked
abbrev pub cut_state : State → State
cut_state s = next s 3 s.degree s.node_mark (mark_edges (cuts_of s) s.half_mark) s.star

-- what cutting answers
pub record Cutting : Type 0 where
  pub count : ℕ
  pub census : Census

-- counted before its own marks
unfoldable pub cut_step : Limits → State → List ℕ → Outcome Cutting (List ℕ)
unfolding roomy sound arrangement cuts census
cut_step l s out =
    step l 2 s out
    (demand (leb s.edges (length out)) 8 s out
    (record { reply = success (record { count = length (cuts_of s); census = census (arrangement s) }); state = cut_state s; lists = over (cuts_of s) out }))

-- ---- resetting

-- resetting: 6, 7, then nothing is marked and degrees are star lengths
unfoldable pub reset : Limits → State → Outcome Nothing Nothing
unfolding roomy sound star_of
reset l s =
    demand (roomy l s) 6 s (record {})
    (demand (sound l s) 7 s (record {})
    (record {
      reply = success (record {});
      state = next s 0
          (over (map (λ n. length (star_of s n)) (upto s.nodes)) s.degree)
          (over (replicate s.nodes false) s.node_mark)
          (over (replicate (2 * s.edges) false) s.half_mark)
          s.star;
      lists = record {};
    }))
