-- What a pair leaves at a position, by the work line's walk and by the cells that it writes: the same.
-- Assumes nothing.
use Prim.Native.Nat.{ℕ, zero, suc, ◌+◌, ◌*◌, ◌≤◌, ◌<◌}
use mathlib.Core.Path.{◌≡◌, refl, ap, sym, ◌∙◌}
use mathlib.Core.Bool.{Bool, true, false, ◌&&◌}
use mathlib.Core.List.{List, [], ◌∷◌}
use mathlib.Core.Option.{Option, none, some}
use native.Mathlib.Nat.{add-zero}
use native.Mathlib.Numerals.{add-one}
use native.Mathlib.Omega.{arith}
use lib.Dec.{eqb, ltb, leb}
use lib.ListN.{length, get_or, take, drop}
use borrow.Author.Tests.{eq-eqb, ne_eqb, eqb-true, eqb-false, le-leb}
use Rattle.format.specs.Lists.{pick}
use Rattle.format.specs.Header.{Form}
use Rattle.format.specs.Outcome.{Outcome, fine, and_then, fold}
use Rattle.format.specs.Pairs.{Content, Fragment, Relocation, placed}
use Rattle.format.specs.Placing.{Walk, walk_by, extent}
use Rattle.format.specs.Tables.{Tables, last_index, offset, rank}
use Rattle.format.specs.WorkLine.{fresh, in_line, step_all}
use Rattle.laws.specs.PairRows.{walk_of}
use Rattle.order.specs.Writes.{Cell, cell_at, cell_of, cells_in, cells_of, writes}
use Rattle.one_cell.specs.Cell.{Left, left_at, left_by, site_work}
use Rattle.work.specs.Work.{form_of, content_of}
use Rattle.sites.specs.declared.Line.{Line}
use Rattle.sites.specs.Columns.{fragments_in}
use Rattle.one_position.specs.Pair.{left_of}

same-eqb : (s p q : ℕ) → eqb (s + p) (s + q) ≡ eqb p q
same-eqb s p q = go (eqb p q) refl
  where
    go : (b : Bool) → eqb p q ≡ b → eqb (s + p) (s + q) ≡ b
    go true e = eq-eqb (s + p) (s + q) (omega (arith, eqb-true p q e))
    go false e = ne_eqb (s + p) (s + q) (λ h. eqb-false p q e (omega arith))

-- entry by entry
pub left-is-a-cell : (w : Walk) (m e p want : ℕ) → left_at w.size w.work m e p want ≡ left_of (cell_at (cells_of w m e p) (w.start + want))
unfolding left_at cells_of cell_at cell_of
left-is-a-cell w zero e p want = refl
left-is-a-cell w (suc m) e p want =
    go (ltb p w.size) (eqb (get_or w.work.keeps e 0) 1) (left-is-a-cell w m (suc e) (suc p) want) (left-is-a-cell w m (suc e) p want)
  where
    go : (t b : Bool) → left_at w.size w.work m (suc e) (suc p) want ≡ left_of (cell_at (cells_of w m (suc e) (suc p)) (w.start + want))
        → left_at w.size w.work m (suc e) p want ≡ left_of (cell_at (cells_of w m (suc e) p) (w.start + want))
        → pick t (pick (b && eqb p want) (some (record { value = get_or w.work.values e 0; mask = get_or w.work.masks e 0 })) (left_at w.size w.work m (suc e) (p + pick b 1 0) want)) none
        ≡ left_of (cell_at (pick t (pick b (cell_of w e p ∷ cells_of w m (suc e) (suc p)) (cells_of w m (suc e) p)) []) (w.start + want))
    go true true on off = rw (same-eqb w.start p want, add-one) (turn (eqb p want))
      where
        turn : (x : Bool) → pick x (some (record { value = get_or w.work.values e 0; mask = get_or w.work.masks e 0 })) (left_at w.size w.work m (suc e) (suc p) want)
            ≡ left_of (pick x (some (cell_of w e p)) (cell_at (cells_of w m (suc e) (suc p)) (w.start + want)))
        turn true = refl
        turn false = on
    go true false on off = rw add-zero off
    go false b on off = refl
