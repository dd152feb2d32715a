-- A graph that can be added to has lists in which ids can be searched for.
use Prim.Native.Nat.{ℕ, ◌*◌}
use native.Mathlib.Omega.{arith}
use mathlib.Core.Bool.{Bool}
use mathlib.Core.List.{List}
use lib.Ieee.{Float}
use lib.ListN.{drop, length-take, length-drop}
use Rattle.rules.specs.Limits.{limits}
use Rattle.rules.proofs.Soundness.{is-sound}
use Rattle.rules.proofs.ListSoundness.{lists_true}
use Rattle.tables.specs.Regions.{state_in, line_ids_in, tracings_in, list_places_in, links_in}
use Rattle.tables.specs.declared.PlanarGraph.{PlanarGraph}
use Rattle.tables.proofs.SliceRoom.{room_of}
use Rattle.line_ids.specs.Free.{Ending}
use Rattle.line_ids.proofs.Marked.{sound_ending}
use Rattle.adding.specs.Outcomes.{Ready}
use Rattle.placing.specs.Placing.{SeekableIn}

-- the search can be made
pub seekable_in : (g : PlanarGraph) (floats : List Float) (numbers stars : List ℕ) (marks : List Bool) (ids : List ℕ)
    → Ready limits (state_in limits g floats numbers stars marks ids) → SeekableIn limits g.edge_count numbers ids
seekable_in g floats numbers stars marks ids ready =
    let r = room_of limits g floats numbers stars marks ids ready.room in
    let s = is-sound limits (state_in limits g floats numbers stars marks ids) ready.sense in
    record {
      few = s.edges;
      number_room = r.number_room;
      id_room = r.id_room;
      lists = lists_true limits.pairs (tracings_in limits numbers ids) (line_ids_in limits ids) g.edge_count s.lists;
    }

-- and all lists can be followed
pub ending_in : (edges : ℕ) (numbers ids : List ℕ) → SeekableIn limits edges numbers ids → Ending limits.pairs (list_places_in limits numbers) (links_in limits numbers) edges
ending_in edges numbers ids r =
    sound_ending limits.pairs (tracings_in limits numbers ids) (line_ids_in limits ids) edges
    (omega (arith, r.few, r.number_room, length-take limits.edges (drop (4 * limits.edges) numbers), length-drop (4 * limits.edges) numbers))
    (omega (arith, r.number_room, length-drop (5 * limits.edges) numbers))
    r.lists
