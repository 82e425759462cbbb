-- For a caller of `mark_pair`: what a walk marks are the cells that the pair writes.
-- Assumes nothing.
use Prim.Native.Nat.{ℕ, zero, suc, ◌+◌}
use mathlib.Core.Path.{◌≡◌, refl}
use mathlib.Core.Bool.{Bool, true, false}
use mathlib.Core.List.{List, [], ◌∷◌}
use native.Mathlib.Nat.{add-zero}
use native.Mathlib.Numerals.{add-one}
use lib.Dec.{eqb, ltb}
use lib.ListN.{get_or, set}
use Rattle.format.specs.Lists.{pick}
use Rattle.format.specs.Placing.{Walk}
use Rattle.order.specs.Writes.{Cell, cell_of, cells_of, lay}
use Rattle.mark_pair.specs.Marks.{mark_walk}

pub marks-are-cells : (w : Walk) (m e p : ℕ) (map : List ℕ) → mark_walk w.start w.size w.work.keeps m e p map ≡ lay (λ (c : Cell). 1) (cells_of w m e p) map
unfolding mark_walk cells_of cell_of lay
marks-are-cells w zero e p map = refl
marks-are-cells w (suc m) e p map =
    go (ltb p w.size) (eqb (get_or w.work.keeps e 0) 1) (marks-are-cells w m (suc e) (suc p) (set map (w.start + p) 1)) (marks-are-cells w m (suc e) p map)
  where
    go : (t b : Bool) → mark_walk w.start w.size w.work.keeps m (suc e) (suc p) (set map (w.start + p) 1) ≡ lay (λ (c : Cell). 1) (cells_of w m (suc e) (suc p)) (set map (w.start + p) 1)
        → mark_walk w.start w.size w.work.keeps m (suc e) p map ≡ lay (λ (c : Cell). 1) (cells_of w m (suc e) p) map
        → pick t (mark_walk w.start w.size w.work.keeps m (suc e) (p + pick b 1 0) (pick b (set map (w.start + p) 1) map)) map
        ≡ lay (λ (c : Cell). 1) (pick t (pick b (cell_of w e p ∷ cells_of w m (suc e) (suc p)) (cells_of w m (suc e) p)) []) map
    go true true on off = rw add-one on
    go true false on off = rw add-zero off
    go false b on off = refl
