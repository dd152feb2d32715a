-- What the writer answers and leaves, case by case.
use Prim.Native.Nat.{ℕ}
use native.Mathlib.Omega.{arith}
use mathlib.Core.Path.{◌≡◌, refl, sym, ap, ◌∙◌}
use mathlib.Core.Bool.{Bool, true, false, ◌&&◌}
use mathlib.Core.List.{List, [], ◌∷◌, map, map-map}
use lib.ListN.{length}
use lib.Dec.{leb}
use Rattle.lists.specs.Lists.{upto, all, over}
use Rattle.lists.specs.Buffer.{Put}
use Rattle.geometry.specs.Reply.{refused, success}
use Rattle.file_rules.specs.RingFile.{FileRings, ring_room_lem, ring_at, cut_out, ring_file_lem, require, writable, every, write_rings_lem}
use Rattle.file_rules.proofs.RingFileCalls.{sent, sending, write_is}
use Rattle.ring_writing.specs.Rings.{bytes_at, writable_at, sizes_at}
use Rattle.ring_writing.proofs.Places.{bytes-size}
use Rattle.ring_taking.proofs.Lists.{written-front}

module _ (t : FileRings) (out : List ℕ) where
  -- the test of the rings at these places
  abbrev able : List ℕ → Bool
  able places = all (writable_at t.first t.length (length t.nodes)) places

  -- it is that of the rings
  every-at : (places : List ℕ) → every (writable t.nodes) (map (ring_at t) places) ≡ able places
  every-at [] = refl
  every-at (i ∷ places) = ap (λ (b : Bool). writable_at t.first t.length (length t.nodes) i && b) (every-at places)

  module _ (n : ℕ) (e : n ≡ ring_room_lem t) where
    -- the writer by its places
    by_places : write_rings_lem t out ≡ sent (able (upto n)) (bytes_at t (upto n)) out
    by_places =
        write_is t out
        ∙ ap (λ (m : ℕ). sending (map (ring_at t) (upto m)) t.nodes out) (sym e)
        ∙ (λ i. sent (every-at (upto n) i) (ring_file_lem (map-map (cut_out t.nodes) (ring_at t) (upto n) i)) out)

    -- 15
    pub write_unable : able (upto n) ≡ false → record { reply = refused 15; lists = out } ≡ write_rings_lem t out
    write_unable f = sym (by_places ∙ ap (λ (b : Bool). sent b (bytes_at t (upto n)) out) f)

    module _ (f : able (upto n) ≡ true) where
      -- with the test passed, the room decides
      by_room : (b : Bool) → leb (sizes_at t.length (upto n)) (length out) ≡ b
          → write_rings_lem t out ≡ require b 14 out (record { reply = success (length (bytes_at t (upto n))); lists = over (bytes_at t (upto n)) out })
      by_room b g =
          by_places
          ∙ ap (λ (x : Bool). sent x (bytes_at t (upto n)) out) f
          ∙ ap (λ (x : Bool). require x 14 out (record { reply = success (length (bytes_at t (upto n))); lists = over (bytes_at t (upto n)) out }))
          (ap (λ (m : ℕ). leb m (length out)) (bytes-size t (upto n) f) ∙ g)

      -- 14
      pub write_short : leb (sizes_at t.length (upto n)) (length out) ≡ false → record { reply = refused 14; lists = out } ≡ write_rings_lem t out
      write_short g = sym (by_room false g)

      -- the bytes
      pub write_done : leb (sizes_at t.length (upto n)) (length out) ≡ true → (new : List ℕ) (r : ℕ) → Put 0 (bytes_at t (upto n)) out new r
          → record { reply = success r; lists = new } ≡ write_rings_lem t out
      write_done g new r p =
          let size : r ≡ length (bytes_at t (upto n)) = omega (arith, p.after) in
          let bytes = p.buffer ∙ written-front (bytes_at t (upto n)) out in
          (λ i. record { reply = success (size i); lists = bytes i }) ∙ sym (by_room true g)
