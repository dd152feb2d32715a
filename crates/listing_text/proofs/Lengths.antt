-- How long the lines get, for numbers of 64 bits and nodes of 16.
use mathlib.Core.Bool.{Bool, true, false}
use mathlib.Core.List.{List, [], ◌∷◌}
use Prim.Native.Nat.{ℕ, ◌*◌, ◌^◌, ◌<◌, ◌≤◌}
use native.Mathlib.Omega.{arith}
use lib.IntN.{ℤ}
use lib.Signed.{mag}
use lib.ListN.{length, get_or, length-append}
use Rattle.file_rules.specs.Lines.{verdict, head_line, spaced, starting_nodes, ring_line, refusal_line}
use Rattle.listing_text.specs.Rooms.{head_room, ring_room_lem, refusal_room}
use Rattle.number_text.proofs.Decimals.{decimal_64, decimal_16, signed_64}

verdict-short : (b : Bool) → length (verdict b) ≤ 10
verdict-short true = omega arith
verdict-short false = omega arith

-- line one
pub head-short : (a b c d e : ℕ) (euler : Bool) → a < 2 ^ 64 → b < 2 ^ 64 → c < 2 ^ 64 → d < 2 ^ 64 → e < 2 ^ 64 → length (head_line a b c d e euler) ≤ head_room
unfolding head_line
head-short a b c d e euler ha hb hc hd he =
    simp length-append (omega (arith, decimal_64 a ha, decimal_64 b hb, decimal_64 c hc, decimal_64 d hd, decimal_64 e he, verdict-short euler))

-- a node and its space take at most six bytes
pub spaced-short : (source : List ℕ) → ((h : ℕ) → get_or source h 0 < 65536) → (ring : List ℕ) → length (spaced (starting_nodes source ring)) ≤ 6 * length ring
spaced-short source small [] = omega arith
spaced-short source small (h ∷ hs) =
    simp length-append (omega (arith, decimal_16 (get_or source h 0) (small h), spaced-short source small hs))

-- a ring's line
pub ring-short : (ring face : ℕ) (doubled : ℤ) (source hs : List ℕ) → ring < 2 ^ 64 → face < 65536 → mag doubled < 2 ^ 63 → ((h : ℕ) → get_or source h 0 < 65536)
    → length (ring_line ring face doubled (starting_nodes source hs)) ≤ ring_room_lem (length hs)
unfolding ring_line
ring-short ring face doubled source hs hr hf hd small =
    simp length-append (omega (arith, decimal_64 ring hr, decimal_16 face hf, signed_64 doubled hd, spaced-short source small hs))

-- a refusal's line
pub refusal-short : (number place : ℕ) → number < 2 ^ 64 → place < 2 ^ 64 → length (refusal_line number place) ≤ refusal_room
unfolding refusal_line
refusal-short number place hn hp = simp length-append (omega (arith, decimal_64 number hn, decimal_64 place hp))
