-- Turns one after another come to what all their bytes come to.
use Prim.Native.Nat.{ℕ, ◌+◌}
use native.Mathlib.Omega.{arith}
use mathlib.Core.Path.{◌≡◌, refl, sym, ap, ◌∙◌}
use mathlib.Core.Bool.{true, cond}
use mathlib.Core.List.{List, [], ◌++◌, append_assoc}
use lib.ListN.{length, drop, length-append}
use Rattle.rules.specs.Limits.{limits}
use Rattle.rules.specs.State.{State}
use Rattle.taking.specs.Taking.{Taking, behind, take_file_lem, waits}
use Rattle.taking.proofs.Turns.{behind-none, behind_more}
use Rattle.taking.proofs.Parts.{in_parts}

-- All bytes that came so far: whatever follows them, what they come to with it is what was taken, and then what was kept comes to with it.
pub record Gone (s : State) (records total : ℕ) (kept : List ℕ) (now : State) : Type 0 where
  pub bytes : List ℕ
  pub size : length bytes ≡ total
  pub used : ℕ
  pub goes : (rest : List ℕ) → take_file_lem limits (bytes ++ rest) s ≡ behind records used (take_file_lem limits (kept ++ rest) now)

-- none yet
pub none_gone : (s : State) → Gone s 0 0 [] s
none_gone s = record { bytes = []; size = refl; used = 0; goes = λ rest. sym (behind-none (take_file_lem limits rest s)) }

module _ (s : State) (records total : ℕ) (kept : List ℕ) (now : State) (gone : Gone s records total kept now) (came : List ℕ) (t : Taking) (e : t ≡ take_file_lem limits (kept ++ came) now) where
  -- what the next bytes come to with those kept, behind what was taken, is what all of them come to
  pub then_file : behind records gone.used t ≡ take_file_lem limits (gone.bytes ++ came) s
  then_file = ap (behind records gone.used) e ∙ sym (gone.goes came)

  pub then_size : length (gone.bytes ++ came) ≡ total + length came
  then_size = omega (arith, length-append gone.bytes came, gone.size)

  -- where more may follow, they have gone too
  pub then_gone : (got : ℕ) → length came ≡ got → waits t.reply ≡ true → Gone s (records + t.count) (total + got) (drop t.bytes (kept ++ came)) t.state
  then_gone got size w = record {
    bytes = gone.bytes ++ came;
    size = omega (arith, then_size, size);
    used = gone.used + t.bytes;
    goes = λ rest.
        ap (λ z. take_file_lem limits z s) (append_assoc gone.bytes came rest)
        ∙ gone.goes (came ++ rest)
        ∙ ap (λ z. behind records gone.used (take_file_lem limits z now)) (sym (append_assoc kept came rest))
        ∙ ap (behind records gone.used)
        (in_parts limits rest (kept ++ came) now
        ∙ ap (λ u. cond (waits u.reply) (behind u.count u.bytes (take_file_lem limits (drop u.bytes (kept ++ came) ++ rest) u.state)) u) (sym e)
        ∙ ap (λ b. cond b (behind t.count t.bytes (take_file_lem limits (drop t.bytes (kept ++ came) ++ rest) t.state)) t) w)
        ∙ sym (behind_more records t.count gone.used t.bytes (take_file_lem limits (drop t.bytes (kept ++ came) ++ rest) t.state));
  }
