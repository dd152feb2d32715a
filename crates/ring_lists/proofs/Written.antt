-- Lists that were written from the rings of a sound state hold these rings.
use Rattle.std.proofs.Common.{◌≡◌, ℕ, zero, suc, ◌+◌, ◌*◌, ◌^◌, ◌<◌, ◌≤◌, true, List, [], ◌∷◌, ◌++◌, map, length, get_or, take, drop, nat_abs, sym, refl, ap, ◌∙◌, subst, zero-add, arith, length-append, take-suc}
use lib.Ieee.{nan}
use lib.ListN.{length-map, get_or-append, get_or-map}
use Rattle.lists.specs.Lists.{upto, flatten, over}
use Rattle.lists.proofs.Counts.{flatten-append}
use Rattle.lists.proofs.Entries.{get_d_any}
use Rattle.lists.proofs.Searching.{upto-at}
use Rattle.lists.proofs.Members.{length-upto}
use Rattle.rules.specs.Face.{Ring, ring_of, doubled_area_lem, face_number_lem}
use Rattle.rules.specs.Limits.{limits}
use Rattle.rules.specs.State.{State, arrangement, point_of, node_key, sound}
use Rattle.rules.specs.Split.{minimal_rings}
use Rattle.rules.specs.Ringing.{Flat, side_by, side_area_lem, float_area, RingReply, ring_replies_lem, rings_of, RingLists}
use Rattle.rules.specs.Claim.{rings_from}
use Rattle.rules.specs.Listing.{no_ring}
use Rattle.rules.proofs.Replies.{replies_length}
use Rattle.rules.proofs.Claims.{halved, each_at}
use Rattle.rules.proofs.Areas.{exact-areas}
use Rattle.rules.proofs.Histories.{fine_limits}
use Rattle.rings.proofs.Bounds.{side-half, areas-small}
use Rattle.ring_lists.specs.Shown.{HalfOf, passed, Entry, Shown}
use Rattle.ring_lists.proofs.Halving.{exact-half}

-- ---- entries of lists

-- one ring further
pub passed-next : (rings : List Ring) (k : ℕ) → k < length rings → passed rings (suc k) ≡ passed rings k + length (get_or rings k no_ring).half_edges_lem
passed-next rings k h =
    let hs = map (λ (r : Ring). r.half_edges_lem) rings in
    let low : k < length hs = omega (arith, length-map rings (λ (r : Ring). r.half_edges_lem)) in
    let here : get_or hs k [] ≡ (get_or rings k no_ring).half_edges_lem = get_or-map (λ (r : Ring). r.half_edges_lem) rings k no_ring in
    ap (λ l. length (flatten l)) (take-suc hs k [] low)
    ∙ ap length (flatten-append (take k hs) (get_or hs k [] ∷ []))
    ∙ length-append (flatten (take k hs)) (get_or hs k [] ++ [])
    ∙ ap (λ n. passed rings k + n) (length-append (get_or hs k []) [] ∙ (let z : length (get_or hs k []) + 0 ≡ length (get_or hs k []) = omega arith in z) ∙ ap length here)

-- a front of lists is no longer than all
flatten_front : (ls : List (List ℕ)) (k : ℕ) → length (flatten (take k ls)) ≤ length (flatten ls)
flatten_front [] zero = omega arith
flatten_front [] (suc k) = omega arith
flatten_front (l ∷ ls) zero = omega arith
flatten_front (l ∷ ls) (suc k) = omega (arith, length-append l (flatten (take k ls)), length-append l (flatten ls), flatten_front ls k)

-- a ring read out of the lists
from_at : (o : RingLists) (js : List ℕ) (i : ℕ) → i < length js
    → get_or (rings_from o js) i [] ≡ take (get_or o.length (get_or js i 0) 0) (drop (get_or o.first (get_or js i 0) 0) o.half_edges_lem)
from_at o [] i h = absurd (omega arith)
from_at o (j ∷ js) zero h = refl
from_at o (j ∷ js) (suc i) h = from_at o js i (omega arith)

-- ---- what is replied of ring i

abbrev no_reply : RingReply
no_reply = record { first = 0; length = 0; face = 0; side = Flat }

module _ (s : State) (all : List Ring) where
  abbrev reply_at : ℕ → List Ring → ℕ → RingReply
  reply_at a rs i =
      let r = get_or rs i no_ring in
      record { first = a + passed rs i; length = length r.half_edges_lem; face = face_number_lem all r; side = side_by r.doubled (float_area s r.half_edges_lem) }

  reply-at : (a : ℕ) (rs : List Ring) (i : ℕ) → i < length rs → get_or (ring_replies_lem s all a rs) i no_reply ≡ reply_at a rs i
  reply-at a [] i h = absurd (omega arith)
  reply-at a (r ∷ rs) zero h =
      let z : a ≡ a + 0 = omega arith in
      λ i. record { first = z i; length = length r.half_edges_lem; face = face_number_lem all r; side = side_by r.doubled (float_area s r.half_edges_lem) }
  reply-at a (r ∷ rs) (suc i) h =
      let q = get_or rs i no_ring in
      let z : a + length r.half_edges_lem + passed rs i ≡ a + passed (r ∷ rs) (suc i) = omega (arith, length-append r.half_edges_lem (flatten (take i (map (λ (x : Ring). x.half_edges_lem) rs)))) in
      reply-at (a + length r.half_edges_lem) rs i (omega arith)
      ∙ (λ j. record { first = z j; length = length q.half_edges_lem; face = face_number_lem all q; side = side_by q.doubled (float_area s q.half_edges_lem) })

-- the entry of a list that was written from the replies
entry_at : {A : Type 0} (F : RingReply → A) (ws : List RingReply) (out : List A) (i : ℕ) (d : A) → i < length ws → get_or (over (map F ws) out) i d ≡ F (get_or ws i no_reply)
entry_at F ws out i d h =
    let low : i < length (map F ws) = omega (arith, length-map ws F) in
    get_or-append (map F ws) (drop (length (map F ws)) out) d i low ∙ get_d_any (map F ws) i d (F no_reply) low ∙ get_or-map F ws i no_reply

-- it has an entry for each
pub over-long : {A : Type 0} (xs out : List A) → length xs ≤ length (over xs out)
over-long xs out = omega (arith, length-append xs (drop (length xs) out))

-- ---- the rings of a sound state

module _ (s : State) where
  -- ring i is made from the half-edges of the rules' ring i
  ring_at_lem : (i : ℕ) → i < length (rings_of s) → get_or (rings_of s) i no_ring ≡ ring_of (point_of s) (node_key s) (arrangement s) (get_or (minimal_rings (arrangement s)) i [])
  unfolding rings_of
  ring_at_lem i h =
      let f = ring_of (point_of s) (node_key s) (arrangement s) in
      get_d_any (map f (minimal_rings (arrangement s))) i no_ring (f []) h ∙ get_or-map f (minimal_rings (arrangement s)) i []

  -- there are as many
  rings-many : length (rings_of s) ≡ length (minimal_rings (arrangement s))
  unfolding rings_of
  rings-many = length-map (minimal_rings (arrangement s)) (ring_of (point_of s) (node_key s) (arrangement s))

  halves_of : (g : List ℕ) → (ring_of (point_of s) (node_key s) (arrangement s) g).half_edges_lem ≡ g
  unfolding ring_of
  halves_of g = refl

  doubled-of : (g : List ℕ) → (ring_of (point_of s) (node_key s) (arrangement s) g).doubled ≡ doubled_area_lem (point_of s) (arrangement s) g
  unfolding ring_of
  doubled-of g = refl

  -- the area replied for it is exactly half of its doubled area
  area-half : sound limits s ≡ true → (i : ℕ) → i < length (rings_of s)
      → (let r = get_or (rings_of s) i no_ring in HalfOf (side_area_lem (side_by r.doubled (float_area s r.half_edges_lem))) r.doubled)
  area-half sense i h =
      let hs = minimal_rings (arrangement s) in
      let g = get_or hs i [] in
      let r = get_or (rings_of s) i no_ring in
      let low : i < length hs = omega (arith, rings-many) in
      let eg : r.half_edges_lem ≡ g = ap (λ x. x.half_edges_lem) (ring_at_lem i h) ∙ halves_of g in
      let ed : r.doubled ≡ doubled_area_lem (point_of s) (arrangement s) g = ap (λ x. x.doubled) (ring_at_lem i h) ∙ doubled-of g in
      let area : float_area s r.half_edges_lem ≡ halved r.doubled =
      ap (float_area s) eg ∙ each_at _ hs i low (exact-areas limits fine_limits s sense) ∙ ap halved (sym ed) in
      record {
        half = ap (λ a. side_area_lem (side_by r.doubled a)) area ∙ side-half r.doubled ∙ sym (exact-half r.doubled);
        small = subst (λ z. nat_abs z ≤ 2 ^ 53) (sym ed) (each_at _ hs i low (areas-small limits fine_limits s sense));
      }

-- ---- lists that were written from the replies

module _ (s : State) where
  abbrev replies : List RingReply
  replies = ring_replies_lem s (rings_of s) 0 (rings_of s)

  -- there is a reply for each ring
  many : length replies ≡ length (rings_of s)
  many = replies_length s (rings_of s) 0 (rings_of s)

  -- the entry of ring k in one of the lists
  pub listed_at : {A : Type 0} (F : RingReply → A) (l rest : List A) (d : A) → l ≡ over (map F replies) rest → (k : ℕ) → k < length (rings_of s)
      → get_or l k d ≡ F (reply_at s (rings_of s) 0 (rings_of s) k)
  listed_at F l rest d e k h =
      ap (λ x. get_or x k d) e
      ∙ entry_at F replies rest k d (omega (arith, many))
      ∙ ap F (reply-at s (rings_of s) 0 (rings_of s) k h)

  -- each list has an entry for each ring
  pub listed-long : {A : Type 0} (F : RingReply → A) (l rest : List A) → l ≡ over (map F replies) rest → length (rings_of s) ≤ length l
  listed-long F l rest e = omega (arith, ap length e, over-long (map F replies) rest, length-map replies F, many)

-- ---- lists that were written from the rings

module _ (s : State) (sense : sound limits s ≡ true) (o out : RingLists)
    (halves : o.half_edges_lem ≡ over (flatten (map (λ r. r.half_edges_lem) (rings_of s))) out.half_edges_lem)
    (firsts : o.first ≡ over (map (λ w. w.first) (ring_replies_lem s (rings_of s) 0 (rings_of s))) out.first)
    (sizes : o.length ≡ over (map (λ w. w.length) (ring_replies_lem s (rings_of s) 0 (rings_of s))) out.length)
    (faces : o.face ≡ over (map (λ w. w.face) (ring_replies_lem s (rings_of s) 0 (rings_of s))) out.face)
    (areas : o.area ≡ over (map (λ w. side_area_lem w.side) (ring_replies_lem s (rings_of s) 0 (rings_of s))) out.area)
    (read : rings_from o (upto (length (rings_of s))) ≡ minimal_rings (arrangement s)) where
  -- all half-edges stand in their list
  all_listed : (k : ℕ) → passed (rings_of s) k ≤ length o.half_edges_lem
  all_listed k =
      let hs = map (λ (r : Ring). r.half_edges_lem) (rings_of s) in
      omega (arith, ap length halves, over-long (flatten hs) out.half_edges_lem, flatten_front hs k)

  -- ring k read out of the lists
  read_at : (k : ℕ) → k < length (rings_of s) → take (get_or o.length k 0) (drop (get_or o.first k 0) o.half_edges_lem) ≡ (get_or (rings_of s) k no_ring).half_edges_lem
  read_at k h =
      let n = length (rings_of s) in
      let g = get_or (minimal_rings (arrangement s)) k [] in
      ap (λ j. take (get_or o.length j 0) (drop (get_or o.first j 0) o.half_edges_lem)) (sym (upto-at n k h))
      ∙ sym (from_at o (upto n) k (omega (arith, length-upto n)))
      ∙ ap (λ l. get_or l k []) read
      ∙ sym (ap (λ r. r.half_edges_lem) (ring_at_lem s k h) ∙ halves_of s g)

  entry_of : (k : ℕ) → k < length (rings_of s) → Entry (rings_of s) o.half_edges_lem o.first o.length o.face o.area k
  entry_of k h =
      let start : get_or o.first k 0 ≡ passed (rings_of s) k = listed_at s (λ w. w.first) o.first out.first 0 firsts k h ∙ zero-add (passed (rings_of s) k) in
      let size : get_or o.length k 0 ≡ length (get_or (rings_of s) k no_ring).half_edges_lem = listed_at s (λ w. w.length) o.length out.length 0 sizes k h in
      record {
        starts = start;
        sized = size;
        inside = omega (arith, passed-next (rings_of s) k h, all_listed (suc k));
        holds = read_at k h;
        faced = listed_at s (λ w. w.face) o.face out.face 0 faces k h;
        halved = subst (λ a. HalfOf a (get_or (rings_of s) k no_ring).doubled) (sym (listed_at s (λ w. side_area_lem w.side) o.area out.area nan areas k h)) (area-half s sense k h);
      }

  -- the lists hold the rings
  pub written-shown : length (flatten (map (λ (r : Ring). r.half_edges_lem) (rings_of s))) ≤ 2 * limits.edges → length (rings_of s) ≤ 2 * limits.edges → Shown (rings_of s) o.half_edges_lem o.first o.length o.face o.area
  written-shown a b = record {
    few = b;
    short = λ k h. omega (arith, a, flatten_front (map (λ (r : Ring). r.half_edges_lem) (rings_of s)) k);
    in_first = listed-long s (λ w. w.first) o.first out.first firsts;
    in_size = listed-long s (λ w. w.length) o.length out.length sizes;
    in_face = listed-long s (λ w. w.face) o.face out.face faces;
    in_area = listed-long s (λ w. side_area_lem w.side) o.area out.area areas;
    each = entry_of;
  }
