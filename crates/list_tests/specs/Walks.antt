-- The lists of line ids followed place by place, with a table of the places passed.
use Rattle.std.specs.Prelude.{ℕ, zero, suc, Bool, true, false, cond, ◌&&◌, List, eqb, ltb, get_or, set, replicate}
use Rattle.rules.specs.LineIds.{Tracings, list_end}

-- what following them tells: whether all is well, and which places were passed
pub record Walked : Type 0 where
  pub good : Bool
  pub seen : List Bool

-- One list from p on: p lies in the table and is passed for the first time; then the list ends, or it goes on with a higher id.
unfoldable pub walk_from : ℕ → List ℕ → List ℕ → ℕ → ℕ → List Bool → Walked
walk_from pairs id next zero p seen = record { good = false; seen = seen }
walk_from pairs id next (suc fuel) p seen =
    let q = get_or next p list_end in
    let passed = set seen p true in
    let on = walk_from pairs id next fuel q passed in
    let after = cond (eqb q list_end) (record { good = true; seen = passed }) (cond (ltb (get_or id p 0) (get_or id q 0)) on (record { good = false; seen = passed })) in
    let stop : Walked = record { good = false; seen = seen } in
    cond (ltb p pairs) (cond (get_or seen p false) stop after) stop

-- Edge k's list: its first place lies in the table and holds the edge's line id, and from there it goes on well.
unfoldable pub walk_list : ℕ → Tracings → List ℕ → ℕ → List Bool → Walked
unfolding walk_from
walk_list pairs t line_id k seen =
    let p = get_or t.place k list_end in
    let on = walk_from pairs t.id t.next pairs p seen in
    cond (ltb p pairs && eqb (get_or t.id p 0) (get_or line_id k 0)) on (record { good = false; seen = seen })

-- the lists of that many edges, one after another
unfoldable pub walk_lists : ℕ → Tracings → List ℕ → ℕ → Walked
unfolding walk_list
walk_lists pairs t line_id zero = record { good = true; seen = replicate pairs false }
walk_lists pairs t line_id (suc k) =
    let before = walk_lists pairs t line_id k in
    let here = walk_list pairs t line_id k before.seen in
    record { good = before.good && here.good; seen = here.seen }
