-- How a scan finds what a pair wrote at a position, an entry at a time, and the last pair that wrote there, a pair at a time: laws for a loop.
-- Assumes nothing.
use Prim.Native.Nat.{ℕ, zero, suc, ◌+◌, ◌≤◌, ◌<◌}
use mathlib.Core.Path.{◌≡◌, refl, ap, ◌∙◌}
use mathlib.Core.List.{List, []}
use mathlib.Core.Option.{none, some}
use lib.ListN.{length, get_or, take}
use lib.Seq.{take-suc}
use borrow.Author.Tests.{lt-ltb, le-ltb, eq-eqb, ne_eqb}
use Rattle.format.specs.Header.{Form}
use Rattle.format.specs.Pairs.{Pair}
use Rattle.format.specs.Records.{Taken}
use Rattle.format.specs.Tables.{Tables}
use Rattle.format.specs.Placing.{Walk}
use Rattle.order.specs.Writes.{cell_of, cells_of, cell_at}
use Rattle.last_writer.specs.LastWriter.{found_by, first_of, first_writer, last_writer}
use Rattle.last_writer.proofs.Image.{last_snoc}

-- ------------------------------------------------------------------ the entries of one pair

module _ (w : Walk) (n entry position i : ℕ) where
  -- the position has left the area
  pub seek-out : w.size ≤ position → cell_at (cells_of w n entry position) i ≡ none
  unfolding cells_of cell_at
  seek-out h = go n
    where
      go : (m : ℕ) → cell_at (cells_of w m entry position) i ≡ none
      go zero = refl
      go (suc m) = rw (le-ltb position w.size h)

  module _ (l : position < w.size) where
    -- a dropped entry
    pub seek-off : (get_or w.work.keeps entry 0 ≡ 1 → ⊥) → cell_at (cells_of w (suc n) entry position) i ≡ cell_at (cells_of w n (suc entry) position) i
    unfolding cells_of
    seek-off k = rw (lt-ltb position w.size l, ne_eqb (get_or w.work.keeps entry 0) 1 k)

    -- a kept entry, there or elsewhere
    pub seek-here : get_or w.work.keeps entry 0 ≡ 1 → w.start + position ≡ i → cell_at (cells_of w (suc n) entry position) i ≡ some (cell_of w entry position)
    unfolding cells_of cell_at cell_of
    seek-here k e = rw (lt-ltb position w.size l, eq-eqb (get_or w.work.keeps entry 0) 1 k, eq-eqb (w.start + position) i e)

    pub seek-on : get_or w.work.keeps entry 0 ≡ 1 → (w.start + position ≡ i → ⊥) → cell_at (cells_of w (suc n) entry position) i ≡ cell_at (cells_of w n (suc entry) (suc position)) i
    unfolding cells_of cell_at cell_of
    seek-on k e = rw (lt-ltb position w.size l, eq-eqb (get_or w.work.keeps entry 0) 1 k, ne_eqb (w.start + position) i e)

pub seek-none : (w : Walk) (entry position i : ℕ) → cell_at (cells_of w 0 entry position) i ≡ none
unfolding cells_of cell_at
seek-none w entry position i = refl

-- ------------------------------------------------------------------ the pairs, from the last back to the first

-- the first n pairs, the n-th asked before the others
pub seek-pair : (fm : Form) (t : Tables) (ps : List (Taken Pair)) (n i : ℕ) (d : Taken Pair) → n < length ps
    → last_writer fm t (take (suc n) ps) i ≡ first_of (found_by fm t (get_or ps n d) i) (last_writer fm t (take n ps) i)
seek-pair fm t ps n i d h = ap (λ (qs : List (Taken Pair)). last_writer fm t qs i) (take-suc ps n d h) ∙ last_snoc fm t (take n ps) (get_or ps n d) i

pub seek-no-pair : (fm : Form) (t : Tables) (i : ℕ) → last_writer fm t [] i ≡ none
unfolding last_writer first_writer
seek-no-pair fm t i = refl
