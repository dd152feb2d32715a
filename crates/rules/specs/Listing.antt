-- The listing of a graph that was built. It is sorted, pruned and cut, and its rings are extracted: line one has five counts and the rings'
-- verdict, and then each ring has a line. No step is refused there (specs/Going.antt), so no refusal stands here.
use Rattle.std.specs.Prelude.{ℕ, zero, suc, List, [], ◌++◌, length, get_or, pos}
use Rattle.rules.specs.Face.{Ring, face_number_lem}
use Rattle.rules.specs.Euler.{census}
use Rattle.rules.specs.State.{State, arrangement}
use Rattle.rules.specs.Stages.{sorted_state, dangles_of, pruned_state, cuts_of, cut_state}
use Rattle.rules.specs.Ringing.{rings_of}
use Rattle.file_rules.specs.Lines.{head_line, starting_nodes, ring_line}

-- ---- the rings

-- what is read past the last ring
abbrev pub no_ring : Ring
no_ring = record { half_edges_lem = []; key = []; doubled = pos 0 }

-- the line of ring k: its number, face number, doubled area and starting nodes
abbrev pub line_of : List ℕ → List Ring → ℕ → List ℕ
line_of source rings k =
    let r = get_or rings k no_ring in
    ring_line k (face_number_lem rings r) r.doubled (starting_nodes source r.half_edges_lem)

-- the lines of the first n rings
abbrev pub lines_of : List ℕ → List Ring → ℕ → List ℕ
lines_of source rings zero = []
lines_of source rings (suc n) = lines_of source rings n ++ line_of source rings n

-- ---- the listing

-- of a graph that was cut, where there were so many dangles and cuts
abbrev pub cut_text : ℕ → ℕ → State → List ℕ
cut_text dangles cuts s =
    let rings = rings_of s in
    head_line s.nodes s.edges dangles cuts (length rings) (census (arrangement s)).verdict ++ lines_of s.source rings (length rings)

-- of a graph that was pruned: it is cut
abbrev pub pruned_text : ℕ → State → List ℕ
pruned_text dangles s = cut_text dangles (length (cuts_of s)) (cut_state s)

-- of a graph that was sorted: it is pruned
abbrev pub sorted_text : State → List ℕ
sorted_text s = pruned_text (length (dangles_of s)) (pruned_state s)

-- of a graph that was built: it is sorted
abbrev pub listing : State → List ℕ
listing s = sorted_text (sorted_state s)
