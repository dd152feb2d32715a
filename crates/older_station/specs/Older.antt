-- An old station refuses a file of sound segments past its limits by 3 or 4, unless 12 comes first; up to there it says what a newer one does.
use Rattle.std.specs.Prelude.{ℕ, suc, ◌≤◌, ◌<◌, ◌≡◌, ◌⊎◌, true, List, length, drop}
use Rattle.geometry.specs.Reply.{refused, success}
use Rattle.rules.specs.Limits.{Limits}
use Rattle.rules.specs.State.{State, roomy}
use Rattle.taking.specs.Taking.{Taking, behind, take_file_lem}
use Rattle.older_station.specs.Drawing.{drawn_by, drawing, Within, SoundFile}

-- a file's taking o by an old station, beside its taking n by a new one
pub record Older (old new : Limits) (bytes : List ℕ) (o n : Taking) : Type 0 where
  -- the old one takes the whole file exactly if the new one does and the file draws no more than the old limits allow; they come to the same
  pub takes : o.reply ≡ success (record {}) → (n ≡ o) × Within old (drawing bytes)
  pub taken : n.reply ≡ success (record {}) → Within old (drawing bytes) → o.reply ≡ success (record {})
  -- else the number is 3, 4 or 12
  pub numbers : (i : ℕ) → o.reply ≡ refused i → (i ≡ 3) ⊎ ((i ≡ 4) ⊎ (i ≡ 12))
  -- up to the record refused, the file draws no more than the old limits allow
  pub before : (k : ℕ) → k ≤ o.count → Within old (drawn_by bytes k)
  -- with it there are more points, where the number is 3
  pub three : o.reply ≡ refused 3 → old.nodes < length (drawn_by bytes (suc o.count)).points
  -- or else more lines, where it is 4
  pub four : o.reply ≡ refused 4
      → (length (drawn_by bytes (suc o.count)).points ≤ old.nodes) × (old.edges < length (drawn_by bytes (suc o.count)).lines)
  -- by 12 both refuse it, and with it there are not more: 12 comes first
  pub twelve : o.reply ≡ refused 12 → (n ≡ o) × Within old (drawn_by bytes (suc o.count))
  -- the new one takes the records before it too, to the same state, and goes on from there
  pub alike : n ≡ behind o.count o.bytes (take_file_lem new (drop o.bytes bytes) o.state)
  -- a record with which the file draws more than the old limits allow is answered by 3 or 4, be it due for 12 too, if the new one comes so far
  pub due : (k : ℕ) → k ≤ n.count → (Within old (drawn_by bytes (suc k)) → ⊥) → (o.reply ≡ refused 3) ⊎ (o.reply ≡ refused 4)
  -- so every file that draws more is refused: by 3 or 4, unless 12 comes first
  pub past : (Within old (drawing bytes) → ⊥) → (o.reply ≡ refused 3) ⊎ ((o.reply ≡ refused 4) ⊎ (o.reply ≡ refused 12))

-- for every file of sound segments and a new graph over tables that are long enough for both
unfoldable pub OlderStation : Limits → Limits → Type 0
OlderStation old new =
    (s : State) → s.nodes ≡ 0 → s.edges ≡ 0 → s.stage ≡ 0 → roomy new s ≡ true
    → (bytes : List ℕ) → SoundFile old.bound bytes → Older old new bytes (take_file_lem old bytes s) (take_file_lem new bytes s)
