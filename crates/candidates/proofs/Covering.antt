-- The part of a list that is a ring's, and a ring whose stamps stand at every node.
use Prim.Native.Nat.{ℕ, ◌+◌, ◌-◌, ◌<◌, ◌≤◌}
use native.Mathlib.Omega.{arith}
use mathlib.Core.Path.{◌≡◌, ap, ◌∙◌}
use mathlib.Core.Bool.{false, cond}
use mathlib.Core.List.{List}
use lib.ListN.{get_or, take, drop, replicate, get_or-replicate, length-replicate}
use borrow.Author.Tests.{ltb-true}
use Rattle.lists.specs.Lists.{member}
use Rattle.lists.proofs.Counts.{by_test}
use Rattle.corners.specs.Nodes.{Stamped}
use Rattle.candidates.specs.Candidates.{nodes_at, PassesAll}

-- from a ring's first place on, as many as it has
pub part-is : (nodes first size : List ℕ) (i v n : ℕ) → v ≡ get_or first i 0 → n ≡ get_or size i 0 → take (v + n - v) (drop v nodes) ≡ nodes_at nodes first size i
part-is nodes first size i v n begins many =
    let all : v + n - v ≡ get_or size i 0 = omega (arith, many) in
    λ t. take (all t) (drop (begins t) nodes)

-- where nothing was stamped before and every node is now, the ring passes every node
pub stamped_all : (ring : List ℕ) (room all : ℕ) (after : List ℕ) → all ≤ room → Stamped ring 1 (replicate room 0) after → ((n : ℕ) → n < all → get_or after n 0 ≡ 1) → PassesAll all ring
stamped_all ring room all after fits stamped each n low = by_test (member n ring) (ltb-true 0 _) (λ e. absurd (omega (arith, each n low, unstamped e)))
  where
    unstamped : member n ring ≡ false → get_or after n 0 ≡ 0
    unstamped e =
        stamped.each n (omega (arith, low, fits, length-replicate {A = ℕ} room 0))
        ∙ ap (λ b. cond b 1 (get_or (replicate room 0) n 0)) e
        ∙ get_or-replicate room n 0 0 (omega (arith, low, fits))
