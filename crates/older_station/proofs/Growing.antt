-- A drawing only grows: no segment takes a point or a line away, so what a file's first records draw is within all that it draws.
use Prim.Native.Nat.{ℕ, zero, suc, ◌≤◌}
use native.Mathlib.Omega.{arith}
use mathlib.Core.Path.{◌≡◌, sym, subst}
use mathlib.Core.Bool.{Bool, true, false}
use mathlib.Core.List.{List, [], ◌∷◌}
use lib.Dec.{eqb}
use lib.ListN.{length, drop, length-append}
use Rattle.geometry.specs.Angle.{Point, point_of_coord}
use Rattle.geometry.specs.declared.Line3D.{Line3D}
use Rattle.rules.specs.Limits.{Limits}
use Rattle.file_rules.specs.Records.{Found, taken, passed, wrong, end, Reading, onward, read_on, read_file}
use Rattle.file_rules.specs.SegmentFile.{segment_in, segment_next}
use Rattle.rules.specs.Sketch.{Sketch, adding, find_point, with_point, have_point, joins, with_line, sketch_add, feed}
use Rattle.rules.specs.Filing.{file_segments}
use Rattle.rules.proofs.SketchCalls.{have_is}
use Rattle.file_rules.proofs.ReadingLaws.{read_step}
use Rattle.older_station.specs.Drawing.{drawn_on, Within}

-- ---- no segment takes anything away

-- m has as many points and lines as k, or more
pub record Grown (k m : Sketch) : Type 0 where
  pub points : length k.points ≤ length m.points
  pub lines : length k.lines ≤ length m.lines

-- none more
pub grown_same : (k : Sketch) → Grown k k
grown_same k = record { points = omega arith; lines = omega arith }

-- some and then more
grown_more : (k m n : Sketch) → Grown k m → Grown m n → Grown k n
grown_more k m n p q = record { points = omega (arith, p.points, q.points); lines = omega (arith, p.lines, q.lines) }

-- a point
grown_point : (b : Bool) (p : Point) (k : Sketch) → Grown k (with_point b p k)
grown_point false p k = grown_same k
grown_point true p k = record { points = omega (arith, length-append k.points (p ∷ [])); lines = omega arith }

-- a point that is looked for
grown_have : (p : Point) (k : Sketch) → Grown k (have_point p k)
grown_have p k = subst (Grown k) (sym (have_is p k)) (grown_point (eqb (find_point k p) (length k.points)) p k)

-- a line
grown_line : (b : Bool) (u v : ℕ) (k : Sketch) → Grown k (with_line b u v k)
grown_line true u v k = grown_same k
grown_line false u v k = record { points = omega arith; lines = omega (arith, length-append k.lines (record { from = u; to = v; marked = false } ∷ [])) }

-- a segment
grown_add : (g : Line3D) (k : Sketch) → Grown k (feed false (adding g) k)
unfolding feed sketch_add
grown_add g k =
    let p = point_of_coord g.start in
    let q = point_of_coord g.end in
    let k₁ = have_point p k in
    let k₂ = have_point q k₁ in
    let u = find_point k₂ p in
    let v = find_point k₂ q in
    grown_more k k₁ _ (grown_have p k) (grown_more k₁ k₂ _ (grown_have q k₁) (grown_line (joins u v k₂.lines) u v k₂))

-- segments
pub grown_drawn : (gs : List Line3D) (k : Sketch) → Grown k (drawn_on gs k)
grown_drawn [] k = grown_same k
grown_drawn (g ∷ gs) k = grown_more k (feed false (adding g) k) _ (grown_add g k) (grown_drawn gs (feed false (adding g) k))

-- what is within limits was so before
pub grown_within : (l : Limits) (k m : Sketch) → Grown k m → Within l m → Within l k
grown_within l k m p w = (omega (arith, p.points, w.0), omega (arith, p.lines, w.1))

-- ---- the first records of a file

-- a file's segments: what is found first, and then those of what is left
pub file_reads : (bytes : List ℕ) → read_file segment_next bytes ≡ onward (segment_next bytes) (λ size. read_file segment_next (drop size bytes))
unfolding segment_next
file_reads bytes = read_step 1 segment_in bytes

-- by what is found first
grown_onward : (f : Found Line3D) (P Q : ℕ → Reading Line3D) (k : Sketch)
    → ((size : ℕ) (m : Sketch) → Grown (drawn_on (P size).holds m) (drawn_on (Q size).holds m))
    → Grown (drawn_on (onward f P).holds k) (drawn_on (onward f Q).holds k)
grown_onward (taken g size) P Q k more = more size (feed false (adding g) k)
grown_onward (passed size) P Q k more = more size k
grown_onward (wrong n) P Q k more = grown_same k
grown_onward end P Q k more = grown_same k

-- fewer records draw no more
pub first_grown : (c d : ℕ) → c ≤ d → (bytes : List ℕ) (k : Sketch) → Grown (drawn_on (read_on segment_next c bytes).holds k) (drawn_on (read_on segment_next d bytes).holds k)
first_grown zero d h bytes k = grown_drawn (read_on segment_next d bytes).holds k
first_grown (suc c) zero h bytes k = absurd (omega arith)
first_grown (suc c) (suc d) h bytes k =
    grown_onward (segment_next bytes) (λ size. read_on segment_next c (drop size bytes)) (λ size. read_on segment_next d (drop size bytes)) k
    (λ size m. first_grown c d (omega arith) (drop size bytes) m)

-- nor do they draw more than the file
pub file_grown : (c : ℕ) (bytes : List ℕ) (k : Sketch) → Grown (drawn_on (read_on segment_next c bytes).holds k) (drawn_on (file_segments bytes) k)
file_grown zero bytes k = grown_drawn (file_segments bytes) k
file_grown (suc c) bytes k =
    subst (λ r. Grown (drawn_on (read_on segment_next (suc c) bytes).holds k) (drawn_on r.holds k)) (sym (file_reads bytes))
    (grown_onward (segment_next bytes) (λ size. read_on segment_next c (drop size bytes)) (λ size. read_file segment_next (drop size bytes)) k
    (λ size m. file_grown c (drop size bytes) m))
