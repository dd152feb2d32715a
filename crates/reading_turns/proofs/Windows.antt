-- The bytes in a buffer: those kept and those that a read brought, and what is left of them.
use Prim.Native.Nat.{ℕ, ◌+◌, ◌-◌, ◌≤◌}
use native.Mathlib.Omega.{arith}
use mathlib.Core.Path.{◌≡◌, sym, ap, ◌∙◌}
use mathlib.Core.List.{List, ◌++◌}
use lib.ListN.{length, take, drop}
use lib.Seq.{length-take-le, take-append-add, take-append-le, take-add, drop_at}

-- a read behind the bytes kept
pub filled_window : (k g : ℕ) (old last rest : List ℕ) → k ≤ length old → g ≤ length last → take (k + g) (take k old ++ (last ++ rest)) ≡ take k old ++ take g last
filled_window k g old last rest h j =
    ap (λ n. take (n + g) (take k old ++ (last ++ rest))) (sym (length-take-le k old h))
    ∙ take-append-add (take k old) (last ++ rest) g
    ∙ ap (λ z. take k old ++ z) (take-append-le g last rest j)

-- what is left behind those used
pub rest_window : (u f : ℕ) (l : List ℕ) → u ≤ f → f ≤ length l → take (f - u) (drop u l) ≡ drop u (take f l)
rest_window u f l h j =
    let z : u + (f - u) ≡ f = omega arith in
    sym (ap (λ n. drop u (take n l)) (sym z) ∙ ap (drop u) (take-add u (f - u) l) ∙ drop_at (take u l) (take (f - u) (drop u l)) u (length-take-le u l (omega arith)))
