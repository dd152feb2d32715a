-- Codes: where they lie, and that equal keys and equal ends have equal codes.
use Prim.Native.Nat.{ℕ, ◌*◌, ◌<◌, ◌≤◌}
use native.Mathlib.Omega.{arith}
use mathlib.Core.Path.{◌≡◌, sym, ap₂, ◌∙◌}
use mathlib.Core.Bool.{Bool, true, ◌&&◌}
use mathlib.Core.List.{List}
use lib.Dec.{eqb}
use lib.Ieee.{Float}
use lib.ListN.{length, get_or, take}
use borrow.Author.Tests.{eqb-true}
use Rattle.lists.proofs.Searching.{first-pick}
use Rattle.lists.proofs.Tests.{both}
use Rattle.chains.specs.Chains.{lowest_of}
use Rattle.chains.proofs.Walking.{lowest-upto, lowest-take}
use Rattle.rotation.specs.Rotation.{Key, key_same}
use Rattle.rules.specs.State.{key_in_lem}
use Rattle.searching.specs.Searches.{find_node_in, find_half_in}
use Rattle.lookup.specs.Codes.{node_heads, half_heads, key_code_lem, pair_code_lem, node_code_lem, half_code_lem}

-- ---- where codes lie

pub key-low : (k : Key) → key_code_lem k < node_heads
unfolding key_code_lem
key-low k = omega arith

pub pair_low : (u v : ℕ) → pair_code_lem u v < half_heads
unfolding pair_code_lem
pair_low u v = omega arith

-- ---- nodes

module _ (xs ys : List Float) (k : Key) where
  -- node n has the key
  abbrev pub has_key : ℕ → Bool
  has_key n = key_same (key_in_lem xs ys n) k

  -- and then its code
  pub key_meant : (n : ℕ) → has_key n ≡ true → node_code_lem xs ys n ≡ key_code_lem k
  key_meant n e =
      let t = both (eqb (key_in_lem xs ys n).x k.x) (eqb (key_in_lem xs ys n).y k.y) e in
      ap₂ (λ x y. key_code_lem (record { x = x; y = y })) (eqb-true (key_in_lem xs ys n).x k.x t.0) (eqb-true (key_in_lem xs ys n).y k.y t.1)

  -- the lowest such node is the one searched for
  pub node-found : (n : ℕ) → lowest_of has_key (λ i. i) n n ≡ find_node_in n xs ys k
  node-found n = lowest-upto has_key n n

-- ---- half-edges

module _ (source target star : List ℕ) (u v : ℕ) where
  -- half-edge h goes from u to v
  abbrev pub joins : ℕ → Bool
  joins h = eqb (get_or source h 0) u && eqb (get_or target h 0) v

  -- and then the entry at which it stands has their code
  pub pair_meant : (i : ℕ) → joins (get_or star i 0) ≡ true → half_code_lem source target star i ≡ pair_code_lem u v
  pair_meant i e =
      let h = get_or star i 0 in
      let t = both (eqb (get_or source h 0) u) (eqb (get_or target h 0) v) e in
      ap₂ pair_code_lem (eqb-true (get_or source h 0) u t.0) (eqb-true (get_or target h 0) v t.1)

  -- the one at the lowest such entry is the one searched for
  pub half-found : (edges : ℕ) → 2 * edges ≤ length star
      → lowest_of (λ i. joins (get_or star i 0)) (λ i. get_or star i 0) (2 * edges) (2 * edges) ≡ find_half_in edges source target star u v
  half-found edges room =
      lowest-take joins star (2 * edges) (2 * edges) room
      ∙ sym (first-pick (λ h. eqb (get_or target h 0) v) (λ h. eqb (get_or source h 0) u) (2 * edges) (take (2 * edges) star))
