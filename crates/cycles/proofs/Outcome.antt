-- What the steps leave, as the rules say it.
use Prim.Native.Nat.{ℕ, ◌+◌, ◌*◌, ◌<◌}
use native.Mathlib.Omega.{arith}
use mathlib.Core.Path.{◌≡◌, refl, sym, ap, ap₂, ◌∙◌}
use mathlib.Core.Bool.{Bool, ◌&&◌}
use mathlib.Core.List.{List}
use lib.Dec.{eqb}
use lib.ListN.{length, get_or}
use Rattle.lists.specs.Lists.{below}
use Rattle.lists.proofs.Counts.{by_test, below_agree}
use Rattle.rules.specs.Cycles.{Arrangement, successor, label, maximal_rings}
use Rattle.rules.specs.Split.{is_cut_lem, cuts}
use Rattle.rules.specs.Euler.{Census as Counts, touched, vertex_count, edge_count, piece_count, census}
use Rattle.rules.specs.Sane.{Sane, Live, Permutes}
use Rattle.rules.specs.State.{arrangement_in}
use Rattle.rules.proofs.Permuting.{permutes-same, label_agree, cycles_agree}
use Rattle.rules.proofs.LabelLaws.{label_inactive}
use Rattle.rules.proofs.Rings.{label_is, maximal_rings_are, successor-permutes}
use Rattle.rules.proofs.Counting.{cut-is, cuts_are}
use Rattle.stars.specs.Groups.{unmarked}
use Rattle.ring_labels.specs.Labels.{entry_of, Labelled}
use Rattle.cycles.specs.Cuts.{cut_by, cuts_by}

-- V, its parts shut
vertices_are : (g : Arrangement) → vertex_count g ≡ length (below (touched g) g.nodes)
unfolding vertex_count
vertices_are g = refl

-- the nodes that pass a test are V where it says which are touched
pub vertices_by : (g : Arrangement) (t : ℕ → Bool) (v : ℕ) → v ≡ length (below t g.nodes) → ((n : ℕ) → n < g.nodes → t n ≡ touched g n) → v ≡ vertex_count g
vertices_by g t v e same = e ∙ ap length (below_agree t (touched g) g.nodes same) ∙ sym (vertices_are g)

-- the census, its parts shut
pub census-is : (g : Arrangement) (v e f c : ℕ) (t : Bool) → v ≡ vertex_count g → e ≡ edge_count g → f ≡ length (maximal_rings g) → c ≡ piece_count g
    → t ≡ eqb (v + f) (2 * c + e) → ◌≡◌ {A = Counts} (record { vertices = v; edges = e; cycles = f; pieces = c; verdict = t }) (census g)
unfolding census
census-is g v e f c t pv pe pf pc pt =
    (λ i. record { vertices = pv i; edges = pe i; cycles = pf i; pieces = pc i; verdict = (pt ∙ ap₂ eqb (ap₂ ◌+◌ pv pf) (ap₂ (λ a b. 2 * a + b) pc pe)) i })

-- where a table holds the successors
module _ (nodes edges : ℕ) (source : List ℕ) (marks : List Bool) (star next : List ℕ) (sane : Sane (arrangement_in nodes edges source marks star))
    (linked : (h : ℕ) → Live (2 * edges) (unmarked marks) h → get_or next h 0 ≡ successor (arrangement_in nodes edges source marks star) h) where
  -- the arrangement of the tables
  abbrev held : Arrangement
  held = arrangement_in nodes edges source marks star

  -- the table permutes the active half-edges
  pub next-permutes : Permutes (entry_of next) (2 * edges) (unmarked marks)
  next-permutes =
      permutes-same (successor held) (entry_of next) (2 * edges) (unmarked marks) (successor-permutes held sane) (λ h a. sym (linked h a))

  module _ (labels : List ℕ) (count : ℕ) (r : Labelled edges next marks labels count) where
    -- the labels are those of the maximal rings
    pub labels_right : (h : ℕ) → h < 2 * edges → get_or labels h 0 ≡ label held h
    labels_right h l =
        r.each h l
        ∙ by_test (unmarked marks h)
        (λ a. label_agree (entry_of next) (successor held) (2 * edges) (unmarked marks) next-permutes linked h (l, a))
        (λ a. label_inactive (entry_of next) (2 * edges) (unmarked marks) h a ∙ sym (label_inactive (successor held) (2 * edges) (unmarked marks) h a))
        ∙ sym (label_is held h)

    -- of which there are as many as were counted
    pub rings-right : count ≡ length (maximal_rings held)
    rings-right =
        r.number
        ∙ ap length (cycles_agree (entry_of next) (successor held) (2 * edges) (unmarked marks) next-permutes linked ∙ sym (maximal_rings_are held))

    -- and the edges cut by them are the cut edges
    pub cuts-right : cuts_by edges marks labels ≡ cuts held
    cuts-right =
        below_agree (cut_by marks labels) (is_cut_lem held) edges
        (λ k l.
        ap₂ (λ a b. unmarked marks (2 * k) && (unmarked marks (2 * k + 1) && eqb a b))
        (labels_right (2 * k) (omega arith)) (labels_right (2 * k + 1) (omega arith))
        ∙ sym (cut-is held k))
        ∙ sym (cuts_are held)
