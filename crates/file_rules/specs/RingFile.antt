-- The ring file (document 02, §4): its writer and its reader.
use Rattle.std.specs.Prelude.{ℕ, ◌+◌, ◌*◌, min, Bool, true, false, cond, ◌&&◌, ◌||◌, not, List, [], ◌∷◌, ◌++◌, map, length, get_or, take, drop, ℤ, pos, eqb, ltb, leb}
use Rattle.std.proofs.Math.Option.{Option, none, some}
use Rattle.std.specs.Int.{w64}
use Rattle.std.proofs.Common.{of_z, to_z}
use Rattle.lists.specs.Lists.{upto, flatten, over}
use Rattle.geometry.specs.Reply.{Reply, refused, success}
use Rattle.file_rules.specs.Records.{field, little_bytes, Found, read_next, read_file}

-- a ring to write or read, over a list of node numbers: the place of its first one there, how many it has, its face number and doubled area
pub record FileRing : Type 0 where
  pub first : ℕ
  pub length : ℕ
  pub face : ℕ
  pub doubled : ℤ

-- what a record says of a ring
pub record RingRecord : Type 0 where
  pub face : ℕ
  pub doubled : ℤ
  pub nodes : List ℕ

-- a list of rings as it is lent: five lists, the first four with an entry for each ring, the last with the node numbers
pub record FileRings : Type 0 where
  pub first : List ℕ
  pub length : List ℕ
  pub face : List ℕ
  pub doubled : List ℤ
  pub nodes : List ℕ

-- the five lists as one
abbrev pub lent : List ℕ → List ℕ → List ℕ → List ℤ → List ℕ → FileRings
lent first size face doubled nodes = record { first = first; length = size; face = face; doubled = doubled; nodes = nodes }

-- how many rings it holds: as many as the shortest of the four has entries
abbrev pub ring_room_lem : FileRings → ℕ
ring_room_lem t = min (min (length t.first) (length t.length)) (min (length t.face) (length t.doubled))

-- the ring at a place
abbrev pub ring_at : FileRings → ℕ → FileRing
ring_at t i = record { first = get_or t.first i 0; length = get_or t.length i 0; face = get_or t.face i 0; doubled = get_or t.doubled i (pos 0) }

-- so many rings from the first on
abbrev pub first_rings : FileRings → ℕ → List FileRing
first_rings t n = map (ring_at t) (upto n)

-- rings and node numbers written over the front of each list
abbrev pub rings_over : List FileRing → List ℕ → FileRings → FileRings
rings_over rings nodes t = record {
  first = over (map (λ r. r.first) rings) t.first;
  length = over (map (λ r. r.length) rings) t.length;
  face = over (map (λ r. r.face) rings) t.face;
  doubled = over (map (λ r. r.doubled) rings) t.doubled;
  nodes = over nodes t.nodes;
}

-- ---- from rings over a list of node numbers to records, and back

-- a ring with its own node numbers
abbrev pub cut_out : List ℕ → FileRing → RingRecord
cut_out nodes r = record { face = r.face; doubled = r.doubled; nodes = take r.length (drop r.first nodes) }

-- the node numbers of all rings, one ring after another
abbrev pub all_nodes : List RingRecord → List ℕ
all_nodes rs = flatten (map (λ r. r.nodes) rs)

-- the rings over these, places closed up
abbrev pub closed_up : ℕ → List RingRecord → List FileRing
closed_up first [] = []
closed_up first (r ∷ rs) =
    record { first = first; length = length r.nodes; face = r.face; doubled = r.doubled } ∷ closed_up (first + length r.nodes) rs

-- ---- bytes

-- length, kind 2, face number, count, doubled area, node numbers
abbrev pub ring_bytes : RingRecord → List ℕ
ring_bytes r =
    little_bytes 4 (14 + 2 * length r.nodes) ++ little_bytes 2 2 ++ little_bytes 2 r.face ++ little_bytes 2 (length r.nodes)
    ++ little_bytes 8 (of_z w64 r.doubled) ++ flatten (map (little_bytes 2) r.nodes)

-- a ring file
abbrev pub ring_file_lem : List RingRecord → List ℕ
ring_file_lem rs = flatten (map ring_bytes rs)

-- a ring from its record's bytes, the length's four among them; 15 where the count is 0 or the length is not 14 + 2 * count
abbrev pub ring_in_lem : List ℕ → Reply RingRecord
ring_in_lem s =
    let n = field s 8 2 in
    cond (eqb n 0 || not (eqb (field s 0 4) (14 + 2 * n))) (refused 15)
    (success (record { face = field s 6 2; doubled = to_z w64 (field s 10 8); nodes = map (λ i. field s (18 + 2 * i) 2) (upto n) }))

-- what the ring reader finds: kind 2 is read, segments and kinds 3 to 15 are passed over
unfoldable pub ring_next : List ℕ → Found RingRecord
unfolding read_next
ring_next s = read_next 2 ring_in_lem s

-- ---- the calls

-- what a call without a graph answers, and the lent lists after it
pub record Answered (A L : Type 0) : Type 0 where
  pub reply : Reply A
  pub lists : L

-- a test that such a call makes: the refusal n where it fails, with everything lent as it was
abbrev pub require : {A L : Type 0} → Bool → ℕ → L → Answered A L → Answered A L
require true n l f = f
require false n l f = record { reply = refused n; lists = l }

-- a ring that can be written: not empty, not longer than 65,535, and within the list
abbrev pub writable : List ℕ → FileRing → Bool
writable nodes r = ltb 0 r.length && (leb r.length 65535 && leb (r.first + r.length) (length nodes))

-- every member passes the test
abbrev pub every : {A : Type 0} → (A → Bool) → List A → Bool
every p [] = true
every p (r ∷ rs) = p r && every p rs

-- the writer: 15, 14, then the bytes; it answers how many it wrote
unfoldable pub write_rings_lem : FileRings → List ℕ → Answered ℕ (List ℕ)
write_rings_lem t out =
    let rings = first_rings t (ring_room_lem t) in
    let bytes = ring_file_lem (map (cut_out t.nodes) rings) in
    require (every (writable t.nodes) rings) 15 out
    (require (leb (length bytes) (length out)) 14 out (record { reply = success (length bytes); lists = over bytes out }))

-- how many rings and node numbers were written
pub record RingCounts : Type 0 where
  pub rings : ℕ
  pub nodes : ℕ

-- what follows the reading of a whole file
abbrev pub unless_refused : {A L : Type 0} → Option ℕ → L → Answered A L → Answered A L
unless_refused (some n) l f = record { reply = refused n; lists = l }
unless_refused none l f = f

-- the reader: record by record 9, 10, 11, 15; then 14; then the rings, places closed up. It answers how many rings and node numbers it wrote.
unfoldable pub read_rings_lem : List ℕ → FileRings → Answered RingCounts FileRings
unfolding read_file ring_next
read_rings_lem s out =
    let r = read_file ring_next s in
    let rings = closed_up 0 r.holds in
    let nodes = all_nodes r.holds in
    unless_refused r.refusal out
    (require (leb (length rings) (ring_room_lem out) && leb (length nodes) (length out.nodes)) 14 out
    (record { reply = success (record { rings = length rings; nodes = length nodes }); lists = rings_over rings nodes out }))
