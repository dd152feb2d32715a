-- Keys in lists: where a ring's least rotation starts, and how two rings' keys compare.
use Rattle.std.specs.Prelude.{ℕ, ◌+◌, ◌<◌, ◌≤◌, Bool, true, false, List, length, get_or}
use Rattle.rotation.specs.Rotation.{Key, keys_before, rotated, least_rotation_lem}
use Rattle.rotation.specs.Steps.{comparisons}
use Rattle.std.specs.declared.cmp.Ordering.{Ordering}
use Rattle.std.specs.declared.cmp.Ordering.TheVariants.{Less, Equal, Greater}
use Rattle.ring_keys.specs.declared.Search.{Search}
use Rattle.ring_keys.specs.declared.Turned.{Turned}
use Rattle.ring_keys.specs.Listed.{part_of}

-- what the search for the least rotation of keys finds, and the comparisons that it takes
abbrev pub search_of : List Key → Search
search_of ks = record { turn = least_rotation_lem ks; comparisons = comparisons ks }

-- where the least rotation of ring i's keys starts
unfoldable pub turn_of : List Key → List ℕ → List ℕ → ℕ → ℕ
unfolding least_rotation_lem
turn_of keys firsts lengths i = least_rotation_lem (part_of (get_or firsts i 0) (get_or lengths i 0) keys)

-- the comparisons that finding it takes
unfoldable pub steps_of : List Key → List ℕ → List ℕ → ℕ → ℕ
unfolding comparisons
steps_of keys firsts lengths i = comparisons (part_of (get_or firsts i 0) (get_or lengths i 0) keys)

-- the keys of a ring from where its least rotation starts
abbrev pub turned_keys : List Key → Turned → List Key
turned_keys keys r = rotated r.turn (part_of r.first r.size keys)

-- a ring's keys are in the list
pub record Turns (keys : List Key) (r : Turned) : Type 0 where
  pub within : r.first + r.size ≤ length keys
  pub turned : r.turn < r.size

-- before, behind, or neither
abbrev pub order_of : Bool → Bool → Ordering
order_of true behind = Less
order_of false true = Greater
order_of false false = Equal

-- how the keys ks stand to the keys ls
unfoldable pub keys_order : List Key → List Key → Ordering
keys_order ks ls = order_of (keys_before ks ls) (keys_before ls ks)
