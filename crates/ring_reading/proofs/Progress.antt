-- A file read record by record: what was read so far, and what is left.
use Prim.Native.Nat.{ℕ, ◌+◌, ◌*◌, ◌≤◌}
use native.Mathlib.Omega.{arith}
use mathlib.Core.Path.{◌≡◌, refl, sym, ap, ap₂, ◌∙◌, subst}
use mathlib.Core.List.{List, [], ◌∷◌, ◌++◌, append_assoc, append-nil}
use mathlib.Core.Option.{Option, none, some}
use lib.ListN.{length, drop, length-drop, length-append, length-map}
use lib.Seq.{drop-drop}
use Rattle.lists.specs.Lists.{upto}
use Rattle.lists.proofs.Members.{length-upto}
use Rattle.geometry.specs.Reply.{refused, success}
use Rattle.file_rules.specs.Records.{field, Found, taken, passed, wrong, end, Reading, onward, read_file}
use Rattle.file_rules.specs.RingFile.{RingRecord, all_nodes, ring_in_lem, ring_next}
use Rattle.file_rules.proofs.ReadingLaws.{read_step}
use Rattle.ring_reading.specs.Found.{ring_of, counted, surveyed}
use Rattle.frames.proofs.FrameLaws.{Within, next-within}

-- what is left behind so many bytes
abbrev left : List ℕ → ℕ → Reading RingRecord
left bytes at = read_file ring_next (drop at bytes)

-- these rings were read before `at`, and what is left follows them
pub record Progress (bytes : List ℕ) (at : ℕ) (done : List RingRecord) : Type 0 where
  pub holds : (read_file ring_next bytes).holds ≡ done ++ (left bytes at).holds
  pub refusal : (read_file ring_next bytes).refusal ≡ (left bytes at).refusal

-- nothing was read at the start
pub progress_start : (bytes : List ℕ) → Progress bytes 0 []
progress_start bytes = record { holds = refl; refusal = refl }

-- what the reader finds first, and then what is left
ring_step_lem : (s : List ℕ) → read_file ring_next s ≡ onward (ring_next s) (λ size. read_file ring_next (drop size s))
unfolding ring_next
ring_step_lem s = read_step 2 ring_in_lem s

-- a record that is found has some bytes, and they are there
pub ring-within : (s : List ℕ) → Within s (ring_next s)
unfolding ring_next
ring-within s = next-within s 2 ring_in_lem

module _ (bytes : List ℕ) (at : ℕ) where
  -- what is left, by what is found
  found_left : (f : Found RingRecord) → ring_next (drop at bytes) ≡ f → left bytes at ≡ onward f (λ size. left bytes (at + size))
  found_left f e =
      ring_step_lem (drop at bytes)
      ∙ (λ i. onward (e i) (λ size. read_file ring_next (drop-drop size at bytes i)))

  module _ (done : List RingRecord) (p : Progress bytes at done) where
    -- a ring
    pub progress_taken : (r : RingRecord) (size : ℕ) → ring_next (drop at bytes) ≡ taken r size → Progress bytes (at + size) (done ++ (r ∷ []))
    progress_taken r size e =
        let q = found_left (taken r size) e in
        record {
          holds = p.holds ∙ ap (λ x. done ++ x.holds) q ∙ sym (append_assoc done (r ∷ []) (left bytes (at + size)).holds);
          refusal = p.refusal ∙ ap (λ x. x.refusal) q;
        }

    -- a record passed over
    pub progress_passed : (size : ℕ) → ring_next (drop at bytes) ≡ passed size → Progress bytes (at + size) done
    progress_passed size e =
        let q = found_left (passed size) e in
        record { holds = p.holds ∙ ap (λ x. done ++ x.holds) q; refusal = p.refusal ∙ ap (λ x. x.refusal) q }

    -- the end: nothing more is read, and behind a refusal no more either
    pub progress_end : ring_next (drop at bytes) ≡ end → (read_file ring_next bytes).holds ≡ done
    progress_end e = p.holds ∙ ap (λ x. done ++ x.holds) (found_left end e) ∙ append-nil done

    pub progress_stop : (n : ℕ) → ring_next (drop at bytes) ≡ wrong n → (read_file ring_next bytes).holds ≡ done
    progress_stop n e = p.holds ∙ ap (λ x. done ++ x.holds) (found_left (wrong n) e) ∙ append-nil done

    pub progress_none : ring_next (drop at bytes) ≡ end → (read_file ring_next bytes).refusal ≡ none
    progress_none e = p.refusal ∙ ap (λ x. x.refusal) (found_left end e)

    -- a refusal
    pub progress_wrong : (n : ℕ) → ring_next (drop at bytes) ≡ wrong n → (read_file ring_next bytes).refusal ≡ some n
    progress_wrong n e = p.refusal ∙ ap (λ x. x.refusal) (found_left (wrong n) e)

-- ---- counting

-- the node numbers of some rings and then others
pub nodes-append : (xs ys : List RingRecord) → all_nodes (xs ++ ys) ≡ all_nodes xs ++ all_nodes ys
nodes-append [] ys = refl
nodes-append (x ∷ xs) ys = ap (λ (l : List ℕ). x.nodes ++ l) (nodes-append xs ys) ∙ sym (append_assoc x.nodes (all_nodes xs) (all_nodes ys))

-- of one more
pub nodes_more : (done : List RingRecord) (r : RingRecord) → all_nodes (done ++ (r ∷ [])) ≡ all_nodes done ++ r.nodes
nodes_more done r = nodes-append done (r ∷ []) ∙ ap (λ (l : List ℕ). all_nodes done ++ l) (append-nil r.nodes)

-- as many node numbers as counted
pub nodes-count : (s : List ℕ) (n : ℕ) → length (ring_of s n).nodes ≡ n
nodes-count s n = length-map (upto n) (λ i. field s (18 + 2 * i) 2) ∙ length-upto n

-- how many rings and node numbers were read before `at`: no more than bytes
pub record Surveying (bytes : List ℕ) (at rings nodes : ℕ) : Type 0 where
  pub done : List RingRecord
  pub way : Progress bytes at done
  pub is_rings : length done ≡ rings
  pub is_nodes : length (all_nodes done) ≡ nodes
  pub there : at ≤ length bytes
  pub small : rings + nodes ≤ at

-- the file has as many
pub survey_holds : {bytes : List ℕ} {at rings nodes : ℕ} → Surveying bytes at rings nodes
    → (rings ≤ length (read_file ring_next bytes).holds) × (nodes ≤ length (all_nodes (read_file ring_next bytes).holds))
survey_holds {bytes} {at} v =
    let rest = (left bytes at).holds in
    let e = v.way.holds in
    let n = ap length e ∙ length-append v.done rest in
    let m = ap (λ (l : List RingRecord). length (all_nodes l)) e ∙ ap length (nodes-append v.done rest) ∙ length-append (all_nodes v.done) (all_nodes rest) in
    (omega (arith, n, v.is_rings), omega (arith, m, v.is_nodes))

unfoldable pub survey_start : (bytes : List ℕ) → Surveying bytes 0 0 0
survey_start bytes = record { done = []; way = progress_start bytes; is_rings = refl; is_nodes = refl; there = omega arith; small = omega arith }

module _ (bytes : List ℕ) (at rings nodes : ℕ) (v : Surveying bytes at rings nodes) where
  -- what is found is there
  pub found-there : (f : Found RingRecord) → f ≡ ring_next (drop at bytes) → Within (drop at bytes) f
  found-there f e = subst (Within (drop at bytes)) (sym e) (ring-within (drop at bytes))

  -- a ring
  unfoldable pub survey_ring : (n : ℕ) → taken (ring_of (drop at bytes) n) (18 + 2 * n) ≡ ring_next (drop at bytes) → Surveying bytes (at + (18 + 2 * n)) (rings + 1) (nodes + n)
  survey_ring n e =
      let r = ring_of (drop at bytes) n in
      let w = found-there (taken r (18 + 2 * n)) e in
      record {
        done = v.done ++ (r ∷ []);
        way = progress_taken bytes at v.done v.way r (18 + 2 * n) (sym e);
        is_rings = length-append v.done (r ∷ []) ∙ ap (λ (k : ℕ). k + 1) v.is_rings;
        is_nodes = ap length (nodes_more v.done r) ∙ length-append (all_nodes v.done) r.nodes ∙ ap₂ ◌+◌ v.is_nodes (nodes-count (drop at bytes) n);
        there = omega (arith, w.1, length-drop at bytes, v.there);
        small = omega (arith, v.small);
      }

  -- a record passed over
  unfoldable pub survey_passed : (size : ℕ) → passed size ≡ ring_next (drop at bytes) → Surveying bytes (at + size) rings nodes
  survey_passed size e =
      let w = found-there (passed size) e in
      record {
        done = v.done;
        way = progress_passed bytes at v.done v.way size (sym e);
        is_rings = v.is_rings;
        is_nodes = v.is_nodes;
        there = omega (arith, w.1, length-drop at bytes, v.there);
        small = omega (arith, v.small);
      }

  -- the end
  pub survey_end : end ≡ ring_next (drop at bytes) → success (record { rings = rings; nodes = nodes }) ≡ surveyed (read_file ring_next bytes)
  survey_end e =
      let none_left = progress_none bytes at v.done v.way (sym e) in
      let all_done = progress_end bytes at v.done v.way (sym e) in
      sym ((λ i. counted (none_left i) (all_done i)) ∙ (λ i. success (record { rings = v.is_rings i; nodes = v.is_nodes i })))

  -- a refusal
  pub survey_wrong : (n : ℕ) → wrong n ≡ ring_next (drop at bytes) → refused n ≡ surveyed (read_file ring_next bytes)
  survey_wrong n e = sym (ap (λ (o : Option ℕ). counted o (read_file ring_next bytes).holds) (progress_wrong bytes at v.done v.way n (sym e)))
