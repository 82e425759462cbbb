-- Where a pair writes: inside its own area's image. So pairs of different areas write no common position, and a pair of an area that is not
-- kept writes nothing.
-- Assumes nothing.
use Prim.Native.Nat.{ℕ, zero, suc, ◌+◌, ◌≤◌, ◌<◌}
use mathlib.Core.Path.{◌≡◌, refl}
use mathlib.Core.Bool.{Bool, true, false, false≢true}
use mathlib.Core.List.{List, [], ◌∷◌}
use mathlib.Core.Option.{Option, none, some}
use native.Mathlib.Omega.{arith}
use lib.ListN.{length, get_or}
use lib.Dec.{eqb, ltb}
use borrow.Author.Tests.{eqb-true, ltb-true, ltb-false}
use Rattle.format.specs.Lists.{pick}
use Rattle.format.specs.Header.{Form}
use Rattle.format.specs.Pairs.{Content, Relocation, Pair, skipped, placed}
use Rattle.format.specs.Records.{Taken}
use Rattle.format.specs.Tables.{Tables, Area, total, rank, offset}
use Rattle.format.specs.Placing.{Walk, walk_by, extent}
use Rattle.laws.proofs.Placing.{walk_of}
use Rattle.order.specs.Writes.{Cell, cell_of, cells_of, cells_in, cell_at, writes, rows, written, wrote}
use Rattle.order.specs.Order.{Apart}

-- ------------------------------------------------------------------ inside the area

-- a position of an image that starts at a place and has a size
abbrev pub Inside : ℕ → ℕ → ℕ → Type 0
Inside start size i = (start ≤ i) × (i < start + size)

inside-pick : (start size i : ℕ) (t : Bool) (cs ds : List Cell) → (t ≡ true → written (cell_at cs i) ≡ true → Inside start size i) → (t ≡ false → written (cell_at ds i) ≡ true → Inside start size i)
    → written (cell_at (pick t cs ds) i) ≡ true → Inside start size i
inside-pick start size i true cs ds f g h = f refl h
inside-pick start size i false cs ds f g h = g refl h

inside-cons : (start size i : ℕ) (c : Cell) (cs : List Cell) → Inside start size c.at → (written (cell_at cs i) ≡ true → Inside start size i) → written (cell_at (c ∷ cs) i) ≡ true → Inside start size i
unfolding cell_at
inside-cons start size i c cs d f h = go (eqb c.at i) refl h
  where
    go : (t : Bool) → eqb c.at i ≡ t → written (pick t (some c) (cell_at cs i)) ≡ true → Inside start size i
    go true e k = rw (eqb-true c.at i e) at d
    go false e k = f k

pub inside-walk : (w : Walk) (n entry position i : ℕ) → written (cell_at (cells_of w n entry position) i) ≡ true → Inside w.start w.size i
unfolding cells_of cell_at cell_of
inside-walk w zero entry position i h = absurd (false≢true h)
inside-walk w (suc n) entry position i h =
    inside-pick w.start w.size i (ltb position w.size)
    (pick (eqb (get_or w.work.keeps entry 0) 1) (cell_of w entry position ∷ cells_of w n (suc entry) (suc position)) (cells_of w n (suc entry) position)) []
    (λ e.
    inside-pick w.start w.size i (eqb (get_or w.work.keeps entry 0) 1) (cell_of w entry position ∷ cells_of w n (suc entry) (suc position)) (cells_of w n (suc entry) position)
    (λ d. inside-cons w.start w.size i (cell_of w entry position) (cells_of w n (suc entry) (suc position)) (let l = ltb-true position w.size e in (omega arith, omega arith)) (inside-walk w n (suc entry) (suc position) i))
    (λ d. inside-walk w n (suc entry) position i))
    (λ e k. absurd (false≢true k))
    h

-- ------------------------------------------------------------------ images do not overlap

pub ends-before : (areas : List Area) (i j : ℕ) → i < j → offset areas i + extent areas i ≤ offset areas j
unfolding offset extent total
ends-before [] i zero h = absurd (omega arith)
ends-before [] zero (suc j) h = omega arith
ends-before [] (suc i) (suc j) h = omega arith
ends-before (a ∷ areas) i zero h = absurd (omega arith)
ends-before (a ∷ areas) zero (suc j) h = omega arith
ends-before (a ∷ areas) (suc i) (suc j) h = omega (arith, ends-before areas i j (omega arith))

pub ends-inside : (areas : List Area) (i : ℕ) → offset areas i + extent areas i ≤ total areas
unfolding offset extent total
ends-inside [] zero = omega arith
ends-inside [] (suc i) = omega arith
ends-inside (a ∷ areas) zero = omega arith
ends-inside (a ∷ areas) (suc i) = omega (arith, ends-inside areas i)

inside-in : (fm : Form) (t : Tables) (place : ℕ) (c : Content) (r : Relocation) (o : Option ℕ) (i : ℕ) → written (cell_at (cells_in fm t place c r o) i) ≡ true
    → Inside (offset t.areas r.area) (extent t.areas r.area) i
unfolding cell_at walk_of walk_by
inside-in fm t place c r none i h = absurd (false≢true h)
inside-in fm t place c r (some id) i h = inside-walk (walk_of fm t place id c r) (fm.address_length + length c.bytes) 0 c.address i h

-- a pair writes inside its area's image
pub a-pair-writes-inside-its-area : (fm : Form) (t : Tables) (place end : ℕ) (c : Content) (r : Relocation) (i : ℕ) → wrote fm t (record { place = place; end = end; body = placed c r }) i ≡ true
    → Inside (offset t.areas r.area) (extent t.areas r.area) i
unfolding wrote writes
a-pair-writes-inside-its-area fm t place end c r i h = inside-in fm t place c r (rank 0 t.areas r.area) i h

-- no position lies in the images of two areas
pub never_both : (areas : List Area) (i j k : ℕ) → (i ≡ j → ⊥) → Inside (offset areas i) (extent areas i) k → Inside (offset areas j) (extent areas j) k → ⊥
never_both areas i j k d a b = go (ltb i j) refl
  where
    go : (u : Bool) → ltb i j ≡ u → ⊥
    go true e = omega (arith, ltb-true i j e, ends-before areas i j (ltb-true i j e), a.1, b.0)
    go false e = let l : j < i = omega (arith, ltb-false i j e, d) in omega (arith, ends-before areas j i l, a.0, b.1)

-- pairs of different areas write no common position
pub different-areas-are-apart : (fm : Form) (t : Tables) (p e q f : ℕ) (c d : Content) (r u : Relocation) → (r.area ≡ u.area → ⊥)
    → Apart fm t (record { place = p; end = e; body = placed c r }) (record { place = q; end = f; body = placed d u })
different-areas-are-apart fm t p e q f c d r u n = record {
  apart = λ i g h. absurd (never_both t.areas r.area u.area i n (a-pair-writes-inside-its-area fm t p e c r i g) (a-pair-writes-inside-its-area fm t q f d u i h));
}

-- ------------------------------------------------------------------ pairs that write nothing

-- a T and P pair
pub a-skipped-pair-writes-nothing : (fm : Form) (t : Tables) (place end : ℕ)
    → (writes fm t (record { place = place; end = end; body = skipped }) ≡ []) × (rows fm t (record { place = place; end = end; body = skipped }) ≡ [])
unfolding writes rows
a-skipped-pair-writes-nothing fm t place end = (refl, refl)

-- a pair of an area that is not kept, or that is not there
pub a-pair-of-no-kept-area-writes-nothing : (fm : Form) (t : Tables) (place end : ℕ) (c : Content) (r : Relocation) → rank 0 t.areas r.area ≡ none
    → (writes fm t (record { place = place; end = end; body = placed c r }) ≡ []) × (rows fm t (record { place = place; end = end; body = placed c r }) ≡ [])
unfolding writes rows
a-pair-of-no-kept-area-writes-nothing fm t place end c r h = (rw h, rw h)

-- what writes nothing is apart from everything
pub nothing-is-apart : (fm : Form) (t : Tables) (a b : Taken Pair) → writes fm t a ≡ [] → Apart fm t a b × Apart fm t b a
unfolding wrote cell_at
nothing-is-apart fm t a b e = (record { apart = λ i g h. absurd (no_cell i g) }, record { apart = λ i g h. absurd (no_cell i h) })
  where
    no_cell : (i : ℕ) → written (cell_at (writes fm t a) i) ≡ true → ⊥
    no_cell i g = false≢true (rw e at g)
