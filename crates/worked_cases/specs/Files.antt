-- Ring files by their bytes (§4): one table of what the definitions give and what is expected, and one proof.
use Rattle.std.specs.Prelude.{ℕ, ◌≡◌, refl, true, List, [], ◌∷◌, ◌++◌, map, reverse, take, replicate, ℤ, pos, negsuc}
use Rattle.std.proofs.Math.Option.{Option, none, some}
use Rattle.std.specs.Float.Ieee.{of_bits}
use Rattle.geometry.specs.Reply.{Reply, refused, success}
use Rattle.file_rules.specs.Records.{little_bytes, read_file}
use Rattle.file_rules.specs.SegmentFile.{segment_next}
use Rattle.file_rules.specs.RingFile.{FileRing, FileRings, first_rings, rings_over, Answered, write_rings_lem, RingCounts, read_rings_lem}
use Rattle.worked_cases.specs.Tracings.{Row, row, holds}

-- so many bytes by their hexadecimal digits, in file order
abbrev pub hex : ℕ → ℕ → List ℕ
hex size digits = reverse (little_bytes size digits)

-- -1 and the number of a refusal; or the bytes written
abbrev show_bytes : Answered ℕ (List ℕ) → List ℤ
show_bytes f = shown f.reply
  where
    shown : Reply ℕ → List ℤ
    shown (refused n) = negsuc 0 ∷ pos n ∷ []
    shown (success n) = map pos (take n f.lists)

-- a ring's place, length, face number and doubled area
abbrev show_rings : List FileRing → List ℤ
show_rings [] = []
show_rings (r ∷ rs) = pos r.first ∷ pos r.length ∷ pos r.face ∷ r.doubled ∷ show_rings rs

-- -1 and the number of a refusal; or how many rings and node numbers were written, and these
abbrev show_read : Answered RingCounts FileRings → List ℤ
show_read f = shown f.reply
  where
    shown : Reply RingCounts → List ℤ
    shown (refused n) = negsuc 0 ∷ pos n ∷ []
    shown (success w) = pos w.rings ∷ pos w.nodes ∷ show_rings (first_rings f.lists w.rings) ++ map pos (take w.nodes f.lists.nodes)

-- lists with room for so many rings and node numbers, which hold anything
abbrev lent : ℕ → ℕ → FileRings
lent rings nodes = record {
  first = replicate rings 9;
  length = replicate rings 9;
  face = replicate rings 9;
  doubled = replicate rings (pos 9);
  nodes = replicate nodes 9;
}

-- read into room for so many
abbrev reading : List ℕ → ℕ → ℕ → List ℤ
reading file rings nodes = show_read (read_rings_lem file (lent rings nodes))

-- the file of a list of rings over node numbers, with room for so many bytes
abbrev writing : List FileRing → List ℕ → ℕ → List ℤ
writing rings nodes room = show_bytes (write_rings_lem (rings_over rings nodes (lent 0 0)) (replicate room 9))

-- a ring to write
abbrev ring : ℕ → ℕ → ℕ → ℤ → FileRing
ring first length face doubled = record { first = first; length = length; face = face; doubled = doubled }

-- the number of a refusal, or -1
abbrev show_refusal : Option ℕ → ℤ
show_refusal none = negsuc 0
show_refusal (some n) = pos n

-- what the segment reader takes: the refusal, how many records stand before it, and the line ids of the segments
abbrev segments : List ℕ → List ℤ
segments file = let r = read_file segment_next file in show_refusal r.refusal ∷ pos r.records ∷ map (λ g. pos g.line_id) r.holds

-- the two rings of document 01's triangle over their node numbers: the inner one, then the outer one
abbrev triangle_rings : List FileRing
triangle_rings = ring 0 3 1 (pos 12) ∷ ring 3 3 0 (negsuc 11) ∷ []

abbrev triangle_nodes : List ℕ
triangle_nodes = 0 ∷ 1 ∷ 2 ∷ 1 ∷ 0 ∷ 2 ∷ []

-- their file
abbrev pub triangle_file : List ℕ
triangle_file = hex 24 0x14000000_0200_0100_0300_0c00000000000000_0000_0100_0200 ++ hex 24 0x14000000_0200_0000_0300_f4ffffffffffffff_0100_0000_0200

-- a record of kind 7 with three bytes
abbrev skipped : List ℕ
skipped = hex 9 0x05000000_0700_01ff02

-- a segment from (1, 2) to (3, 4) with line id 77
abbrev one_segment : List ℕ
one_segment = hex 58 0x36000000_0100_4d000000_000000000000f03f_0000000000000040_0000000000000000_0000000000000840_0000000000001040_0000000000000000

-- ---- the table

abbrev table : List Row
table =
    -- the writer on the triangle's rings
    row (writing triangle_rings triangle_nodes 48) (map pos triangle_file)
    -- one byte too few
    ∷ row (writing triangle_rings triangle_nodes 47) (negsuc 0 ∷ pos 14 ∷ [])
    -- no rings, no bytes
    ∷ row (writing [] [] 0) ([])
    -- an empty ring
    ∷ row (writing (ring 0 0 0 (pos 0) ∷ []) (5 ∷ []) 0) (negsuc 0 ∷ pos 15 ∷ [])
    -- past the list
    ∷ row (writing (ring 1 2 0 (pos 0) ∷ []) (5 ∷ 6 ∷ []) 0) (negsuc 0 ∷ pos 15 ∷ [])
    -- longer than 65,535
    ∷ row (writing (ring 0 65536 0 (pos 0) ∷ []) (replicate 65536 0) 0) (negsuc 0 ∷ pos 15 ∷ [])
    -- read back, places closed up
    ∷ row (reading (triangle_file) 2 6) (pos 2 ∷ pos 6 ∷ pos 0 ∷ pos 3 ∷ pos 1 ∷ pos 12 ∷ pos 3 ∷ pos 3 ∷ pos 0 ∷ negsuc 11 ∷ pos 0 ∷ pos 1 ∷ pos 2 ∷ pos 1 ∷ pos 0 ∷ pos 2 ∷ [])
    -- one ring too few, one node number too few
    ∷ row (reading (triangle_file) 1 6) (negsuc 0 ∷ pos 14 ∷ [])
    -- likewise
    ∷ row (reading (triangle_file) 2 5) (negsuc 0 ∷ pos 14 ∷ [])
    -- records of kind 7 and segments are passed over
    ∷ row (reading (skipped ++ triangle_file ++ one_segment) 2 6) (pos 2 ∷ pos 6 ∷ pos 0 ∷ pos 3 ∷ pos 1 ∷ pos 12 ∷ pos 3 ∷ pos 3 ∷ pos 0 ∷ negsuc 11 ∷ pos 0 ∷ pos 1 ∷ pos 2 ∷ pos 1 ∷ pos 0 ∷ pos 2 ∷ [])
    -- 9: fewer than 4 bytes
    ∷ row (reading (hex 3 0x140000) 9 9) (negsuc 0 ∷ pos 9 ∷ [])
    -- 9: fewer than 4 and the length
    ∷ row (reading (hex 4 0x01000000) 9 9) (negsuc 0 ∷ pos 9 ∷ [])
    -- 10: a length below 2
    ∷ row (reading (hex 5 0x01000000_00) 9 9) (negsuc 0 ∷ pos 10 ∷ [])
    -- 10: kind 1 and not 54
    ∷ row (reading (hex 6 0x02000000_0100) 9 9) (negsuc 0 ∷ pos 10 ∷ [])
    -- 10: kind 2 and below 14
    ∷ row (reading (hex 6 0x02000000_0200) 9 9) (negsuc 0 ∷ pos 10 ∷ [])
    -- 11: kind 16
    ∷ row (reading (hex 6 0x02000000_1000) 9 9) (negsuc 0 ∷ pos 11 ∷ [])
    -- 11: kind 0
    ∷ row (reading (hex 6 0x02000000_0000) 9 9) (negsuc 0 ∷ pos 11 ∷ [])
    -- 15: n is 0
    ∷ row (reading (hex 18 0x0e000000_0200_0000_0000_0000000000000000) 9 9) (negsuc 0 ∷ pos 15 ∷ [])
    -- 15: not 14 + 2 * n
    ∷ row (reading (hex 20 0x10000000_0200_0000_0200_0000000000000000_0000) 9 9) (negsuc 0 ∷ pos 15 ∷ [])
    -- a refusal comes before 14
    ∷ row (reading (triangle_file ++ hex 3 0x140000) 0 0) (negsuc 0 ∷ pos 9 ∷ [])
    -- a segment reader passes over rings; K counts those too
    ∷ row (segments (triangle_file ++ one_segment ++ skipped ++ one_segment)) (negsuc 0 ∷ pos 5 ∷ pos 77 ∷ pos 77 ∷ [])
    -- likewise
    ∷ row (segments (one_segment ++ skipped ++ hex 6 0x02000000_1000)) (pos 11 ∷ pos 2 ∷ pos 77 ∷ [])
    -- a ring passed over is not tested by 15
    ∷ row (segments (hex 18 0x0e000000_0200_0000_0000_0000000000000000)) (negsuc 0 ∷ pos 1 ∷ [])
    ∷ []

-- every row holds
worked : holds table ≡ replicate 23 true
unfolding write_rings_lem read_rings_lem read_file segment_next of_bits
worked = refl
