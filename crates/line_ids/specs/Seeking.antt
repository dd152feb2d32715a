-- What looking for an id in an edge's list asks.
use Rattle.std.specs.Prelude.{ℕ, ◌<◌, ◌≤◌, ◌≡◌, true, length, get_or}
use Rattle.lists.specs.Lists.{In, last_of, rising}
use Rattle.rules.specs.LineIds.{Tracings, list_end, places_of, ids_of}

-- edge k's list starts in the table, stays there, rises and ends
pub record Seekable (pairs : ℕ) (t : Tracings) (k : ℕ) : Type 0 where
  pub place_room : k < length t.place
  pub id_room : pairs ≤ length t.id
  pub next_room : pairs ≤ length t.next
  pub first : get_or t.place k list_end < pairs
  pub within : (q : ℕ) → In q (places_of pairs t k) → q < pairs
  pub rises : rising (ids_of pairs t k) ≡ true
  pub ends : get_or t.next (last_of list_end (places_of pairs t k)) list_end ≡ list_end
