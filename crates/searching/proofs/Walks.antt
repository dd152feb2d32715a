-- The two searches as walks: along the node numbers, and along the first entries of the star table.
use Prim.Native.Nat.{ℕ, ◌+◌, ◌<◌, ◌≤◌}
use native.Mathlib.Omega.{arith}
use mathlib.Core.Path.{◌≡◌, sym, ap, ◌∙◌}
use mathlib.Core.Bool.{Bool, true, false}
use mathlib.Core.List.{List}
use lib.ListN.{length, get_or, take, drop}
use lib.Seq.{get_or-take, length-take-le}
use Rattle.lists.specs.Lists.{upto, first_where}
use Rattle.lists.proofs.Members.{length-upto}
use Rattle.lists.proofs.Searching.{scan_hit, scan_miss, scan_end, upto-at}

-- what is left from i on gives what the whole list gives
abbrev pub Left : (ℕ → Bool) → ℕ → List ℕ → ℕ → Type 0
Left p d l i = first_where p d (drop i l) ≡ first_where p d l

module _ (p : ℕ → Bool) (m i : ℕ) where
  -- node i passes: it is the one found
  pub node_hit : i < m → p i ≡ true → Left p m (upto m) i → i ≡ first_where p m (upto m)
  node_hit q e left =
      sym (upto-at m i q) ∙ sym (scan_hit p m (upto m) i (omega (arith, length-upto m)) (ap p (upto-at m i q) ∙ e)) ∙ left

  -- node i does not: the next one's turn
  pub node_miss : i < m → p i ≡ false → Left p m (upto m) i → Left p m (upto m) (i + 1)
  node_miss q e left = sym (scan_miss p m (upto m) i (omega (arith, length-upto m)) (ap p (upto-at m i q) ∙ e)) ∙ left

  -- no node is left: none has the key
  pub node_end : m ≤ i → Left p m (upto m) i → m ≡ first_where p m (upto m)
  node_end q left = sym (scan_end p m (upto m) i (omega (arith, length-upto m))) ∙ left

module _ (p : ℕ → Bool) (d n : ℕ) (star : List ℕ) (room : n ≤ length star) (i : ℕ) where
  -- entry i passes: it is the one found
  pub half_hit : i < n → p (get_or star i 0) ≡ true → Left p d (take n star) i → get_or star i 0 ≡ first_where p d (take n star)
  half_hit q e left =
      sym (get_or-take n star i 0 q)
      ∙ sym (scan_hit p d (take n star) i (omega (arith, length-take-le n star room)) (ap p (get_or-take n star i 0 q) ∙ e)) ∙ left

  -- entry i does not: the next one's turn
  pub half_miss : i < n → p (get_or star i 0) ≡ false → Left p d (take n star) i → Left p d (take n star) (i + 1)
  half_miss q e left = sym (scan_miss p d (take n star) i (omega (arith, length-take-le n star room)) (ap p (get_or-take n star i 0 q) ∙ e)) ∙ left

  -- no entry is left: no half-edge joins the two
  pub half-end : n ≤ i → Left p d (take n star) i → d ≡ first_where p d (take n star)
  half-end q left = sym (scan_end p d (take n star) i (omega (arith, length-take-le n star room))) ∙ left
