-- A file of sound segments at both stations, record by record: as long as the older one takes them, both come to the same state.
use Prim.Native.Nat.{ℕ, zero, suc, ◌<◌, ◌≤◌}
use native.Mathlib.Omega.{arith}
use mathlib.Core.Path.{◌≡◌, refl, sym, ap, subst, fun_ext, ◌∙◌}
use mathlib.Core.Bool.{true, false}
use mathlib.Core.List.{List}
use mathlib.Core.Option.{none, none-ne-some}
use lib.ListN.{length, drop, length-drop}
use lib.Seq.{drop-drop}
use Rattle.geometry.specs.Reply.{Reply, refused, success}
use Rattle.geometry.specs.declared.Line3D.{Line3D}
use Rattle.lists.proofs.Tests as tests
use Rattle.rules.specs.Limits.{Limits, Fine}
use Rattle.rules.specs.LineIds.{list_end}
use Rattle.rules.specs.State.{State}
use Rattle.rules.specs.Adding.{Outcome, Added, Nothing, add}
use Rattle.file_rules.specs.Records.{Found, taken, passed, wrong, end, onward, read_on, read_file}
use Rattle.file_rules.specs.SegmentFile.{segment_next}
use Rattle.rules.specs.Sketch.{Sketch, adding, feed}
use Rattle.rules.specs.Claim.{Given64}
use Rattle.rules.proofs.AddCases.{refusal}
use Rattle.rules.proofs.AddingSound.{add_steady}
use Rattle.rules.proofs.FileFloats.{Holds64, found_64}
use Rattle.rules.proofs.Histories.{Together}
use Rattle.rules.proofs.NodeSound.{Steady}
use Rattle.frames.proofs.FrameLaws as frames
use Rattle.segment_file.proofs.Found.{segment-within}
use Rattle.taking.specs.Taking.{after_adding_lem, take_record_lem, Taking, halted, behind, follow, take_file_lem}
use Rattle.taking.proofs.Turns.{file-step}
use Rattle.older_station.specs.Drawing.{drawn_on, Within, sound_segment, sound_segments, SoundFile}
use Rattle.older_station.proofs.Widening.{widened}
use Rattle.older_station.proofs.Growing.{file_reads}
use Rattle.older_station.proofs.Counted.{added_together}
use Rattle.older_station.proofs.Turns.{Turn, goes, lacking, many_points, many_lines, turn}
use Rattle.older_station.proofs.Walks.{Ends, whole, twelve, three, four, Walk, walk-behind, walk-halted}

-- ---- one record, by what is found

-- what the first c records of a file draw, by what is found first
abbrev first_at : Found Line3D → List ℕ → Sketch → ℕ → Sketch
first_at f bytes k zero = k
first_at f bytes k (suc c) = drawn_on (onward f (λ size. read_on segment_next c (drop size bytes))).holds k

-- what all of them draw
abbrev all_from : Found Line3D → List ℕ → Sketch → Sketch
all_from f bytes k = drawn_on (onward f (λ size. read_file segment_next (drop size bytes))).holds k

-- a station's taking
abbrev taken_from : Limits → Found Line3D → List ℕ → State → Taking
taken_from l f bytes s = let t = take_record_lem l f s in follow t.rest t.state (λ size u. take_file_lem l (drop size bytes) u)

-- it is that of the file
first-is : (bytes : List ℕ) (k : Sketch) → first_at (segment_next bytes) bytes k ≡ (λ c. drawn_on (read_on segment_next c bytes).holds k)
first-is bytes k = fun_ext (λ c. go c)
  where
    go : (c : ℕ) → first_at (segment_next bytes) bytes k c ≡ drawn_on (read_on segment_next c bytes).holds k
    go zero = refl
    go (suc c) = refl

module _ (old : Limits) (nodes edges : ℕ) (more : old.nodes ≤ nodes) (longer : old.edges ≤ edges) (fine : Fine old) (small : old.pairs ≤ list_end) where
  -- the newer limits
  abbrev new : Limits
  new = widened old nodes edges

  -- a graph that both stations would add to, and that follows the sketch
  pub record Both (s : State) (k : Sketch) : Type 0 where
    pub steady : Steady old s
    pub wide : Steady new s
    pub together : Together (record { state = s; sketch = k })

  -- it is within the older limits
  both_within : (s : State) (k : Sketch) → Both s k → Within old k
  both_within s k b = let t = b.together.tracks in let h = b.steady.sense in (omega (arith, t.nodes, h.nodes), omega (arith, t.edges, h.edges))

  -- the file's taking by both
  abbrev pub Walked : List ℕ → State → Sketch → Type 0
  Walked bytes s k =
      Walk old (λ c. drawn_on (read_on segment_next c bytes).holds k) (drawn_on (read_file segment_next bytes).holds k) (λ b u. take_file_lem new (drop b bytes) u)
      (take_file_lem old bytes s) (take_file_lem new bytes s)

  module _ (bytes : List ℕ) (s : State) (k : Sketch) (both : Both s k)
      (rest : (size : ℕ) (u : State) (m : Sketch) → 0 < size → size ≤ length bytes → SoundFile old.bound (drop size bytes) → Both u m → Walked (drop size bytes) u m) where
    -- what is said of it by what is found first
    abbrev From : Found Line3D → Taking → Taking → Type 0
    From f o n = Walk old (first_at f bytes k) (all_from f bytes k) (λ b u. take_file_lem new (drop b bytes) u) o n

    -- a record that both take
    from-rest : (f : Found Line3D) (size : ℕ) (u : State) (m : Sketch) → 0 < size → size ≤ length bytes → SoundFile old.bound (drop size bytes) → Both u m
        → ((c : ℕ) → first_at f bytes k (suc c) ≡ drawn_on (read_on segment_next c (drop size bytes)).holds m)
        → all_from f bytes k ≡ drawn_on (read_file segment_next (drop size bytes)).holds m
        → From f (behind 1 size (take_file_lem old (drop size bytes) u)) (behind 1 size (take_file_lem new (drop size bytes) u))
    from-rest f size u m p q sound b first all =
        subst (λ z. Walk old (first_at f bytes k) z (λ b u. take_file_lem new (drop b bytes) u) (behind 1 size (take_file_lem old (drop size bytes) u)) (behind 1 size (take_file_lem new (drop size bytes) u))) (sym all)
        (walk-behind old (first_at f bytes k) (λ c. drawn_on (read_on segment_next c (drop size bytes)).holds m) (drawn_on (read_file segment_next (drop size bytes)).holds m) size first
        (λ b u. take_file_lem new (drop b bytes) u) (λ b u. take_file_lem new (drop b (drop size bytes)) u) (λ b v. ap (λ z. take_file_lem new z v) (drop-drop b size bytes))
        (take_file_lem old (drop size bytes) u) (take_file_lem new (drop size bytes) u) (rest size u m p q sound b))

    -- a refused addition takes nothing
    halts : (l : Limits) (g : Line3D) (size i : ℕ) (o : Outcome Added Nothing) → o ≡ refusal l g s i
        → follow (after_adding_lem o.reply size) o.state (λ size u. take_file_lem l (drop size bytes) u) ≡ halted (refused i) s
    halts l g size i o e = ap (λ z. follow (after_adding_lem z.reply size) z.state (λ size u. take_file_lem l (drop size bytes) u)) e

    -- an accepted one is followed by what is left
    follows : (l : Limits) (size : ℕ) (o : Outcome Added Nothing) (a : Added) → o.reply ≡ success a
        → follow (after_adding_lem o.reply size) o.state (λ size u. take_file_lem l (drop size bytes) u) ≡ behind 1 size (take_file_lem l (drop size bytes) o.state)
    follows l size o a e = ap (λ r. follow (after_adding_lem r size) o.state (λ size u. take_file_lem l (drop size bytes) u)) e

    -- nothing is taken by the older station, and the newer one's taking is that of all bytes
    from-halted : (f : Found Line3D) (r : Reply Nothing) (n : Taking) → n ≡ take_file_lem new bytes s → Ends old (first_at f bytes k) (all_from f bytes k) (halted r s) n
        → From f (halted r s) n
    from-halted f r n e z = walk-halted old (first_at f bytes k) (all_from f bytes k) (λ b u. take_file_lem new (drop b bytes) u) r s n e (both_within s k both) z

    module _ (g : Line3D) (size : ℕ) (p : 0 < size) (q : size ≤ length bytes) (real : Given64 g) (sound : SoundFile old.bound (drop size bytes))
        (here : taken_from new (taken g size) bytes s ≡ take_file_lem new bytes s) where
      -- the sketch with the segment
      abbrev m : Sketch
      m = feed false (adding g) k

      -- the newer station's taking
      abbrev newer : Taking
      newer = taken_from new (taken g size) bytes s

      -- a segment, by what both say of it
      from-turn : Turn old g s m (add old g s) (add new g s) → From (taken g size) (taken_from old (taken g size) bytes s) newer
      from-turn (goes a e z w) =
          let u = (add old g s).state in
          let b : Both u m = record {
            steady = add_steady old small g s both.steady;
            wide = subst (λ o. Steady new o.state) z (add_steady new small g s both.wide);
            together = added_together old fine g real s k both.together a e;
          } in
          let y = ap (λ o. follow (after_adding_lem o.reply size) o.state (λ size u. take_file_lem new (drop size bytes) u)) z ∙ follows new size (add old g s) a e in
          subst (λ o. From (taken g size) o newer) (sym (follows old size (add old g s) a e))
          (subst (From (taken g size) _) (sym y) (from-rest (taken g size) size u m p q sound b (λ c. refl) refl))
      from-turn (lacking e z w) =
          let x = halts old g size 12 (add old g s) e in
          let y = halts new g size 12 (add new g s) (z ∙ e) in
          subst (λ o. From (taken g size) o newer) (sym x) (from-halted (taken g size) (refused 12) _ here (twelve refl y w))
      from-turn (many_points e w) =
          subst (λ o. From (taken g size) o newer) (sym (halts old g size 3 (add old g s) e)) (from-halted (taken g size) (refused 3) _ here (three refl w))
      from-turn (many_lines e w v) =
          subst (λ o. From (taken g size) o newer) (sym (halts old g size 4 (add old g s) e)) (from-halted (taken g size) (refused 4) _ here (four refl w v))

    -- by what is found first
    from_found : (f : Found Line3D) → frames.Within bytes f → Holds64 f
        → (onward f (λ size. read_file segment_next (drop size bytes))).refusal ≡ none
        → sound_segments old.bound (onward f (λ size. read_file segment_next (drop size bytes))).holds ≡ true
        → taken_from new f bytes s ≡ take_file_lem new bytes s → From f (taken_from old f bytes s) (taken_from new f bytes s)
    from_found (taken g size) h real r e here =
        let t = tests.both (sound_segment old.bound g) (sound_segments old.bound (read_file segment_next (drop size bytes)).holds) e in
        from-turn g size (omega (arith, h.0)) h.1 real (record { records = r; segments = t.1 }) here
        (turn old nodes edges more longer fine g real t.0 s k both.steady both.wide both.together)
    from_found (passed size) h real r e here =
        from-rest (passed size) size s k (omega (arith, h.0)) h.1 (record { records = r; segments = e }) both (λ c. refl) refl
    from_found (wrong n) h real r e here = absurd (none-ne-some _ (sym r))
    from_found end h real r e here = from-halted end (success (record {})) _ here (whole refl refl (both_within s k both))

  -- ---- a file

  walk_on : (n : ℕ) (bytes : List ℕ) (s : State) (k : Sketch) → length bytes < n → SoundFile old.bound bytes → Both s k → Walked bytes s k
  walk_on zero bytes s k h sound b = absurd (omega arith)
  walk_on (suc n) bytes s k h sound b =
      let f = segment_next bytes in
      let d = file_reads bytes in
      let w = from_found bytes s k b (λ size u m p q z c. walk_on n (drop size bytes) u m (omega (arith, length-drop size bytes)) z c)
      f (segment-within bytes) (found_64 bytes) (ap (λ r. r.refusal) (sym d) ∙ sound.records)
      (ap (λ r. sound_segments old.bound r.holds) (sym d) ∙ sound.segments) (sym (file-step new bytes s)) in
      let left : ℕ → State → Taking = λ b u. take_file_lem new (drop b bytes) u in
      subst (λ at. Walk old at (drawn_on (read_file segment_next bytes).holds k) left (take_file_lem old bytes s) (take_file_lem new bytes s)) (first-is bytes k)
      (subst (λ r. Walk old (first_at f bytes k) (drawn_on r.holds k) left (take_file_lem old bytes s) (take_file_lem new bytes s)) (sym d)
      (subst (λ o. Walk old (first_at f bytes k) (all_from f bytes k) left o (take_file_lem new bytes s)) (sym (file-step old bytes s))
      (subst (λ n. Walk old (first_at f bytes k) (all_from f bytes k) left (taken_from old f bytes s) n) (sym (file-step new bytes s)) w)))

  -- A FILE AT BOTH STATIONS
  pub walk : (bytes : List ℕ) (s : State) (k : Sketch) → SoundFile old.bound bytes → Both s k → Walked bytes s k
  walk bytes s k = walk_on (suc (length bytes)) bytes s k (omega arith)
