-- Maps: as long as there are positions, and at each position what the last writer tells.
-- Assumes nothing.
use Prim.Native.Nat.{ℕ, zero, suc, ◌+◌, ◌≤◌, ◌<◌}
use mathlib.Core.Path.{◌≡◌, refl, sym, ap, ◌∙◌}
use mathlib.Core.Bool.{Bool, true, false}
use mathlib.Core.List.{List, [], ◌∷◌, ◌++◌}
use mathlib.Core.Option.{Option, none, some}
use native.Mathlib.Omega.{arith}
use lib.Dec.{eqb, ltb}
use lib.ListN.{length, get_or, set, replicate, length-set, length-replicate}
use lib.Seq.{set-append_left}
use borrow.Author.Tests.{ltb-true}
use Rattle.format.specs.Lists.{pick}
use Rattle.format.specs.Header.{Form}
use Rattle.format.specs.Pairs.{Content, Pair, Relocation, placed, skipped}
use Rattle.format.specs.Placing.{Walk, walk_by, extent}
use Rattle.format.specs.Records.{Taken}
use Rattle.format.specs.Tables.{Tables, offset, rank, total}
use Rattle.laws.specs.PairRows.{walk_of}
use Rattle.order.specs.Writes.{Cell, cell_at, cell_of, cells_by, cells_in, cells_of, else_of, lay, writes, written}
use Rattle.order.proofs.Areas.{ends-inside}
use Rattle.order.proofs.Cells.{get_or-lay, length-lay}
use Rattle.order.proofs.Pair.{ascends-pair}
use Rattle.last_writer.specs.LastWriter.{Found, first_of, first_writer, found_by, found_in, last_writer}
use Rattle.last_writer.proofs.Image.{last_cons}
use Rattle.covered.specs.Covered.{map_of, marked_by}

-- ------------------------------------------------------------------ as long as before

pub marked-length : (fm : Form) (t : Tables) (ps : List (Taken Pair)) (xs : List ℕ) → length (marked_by fm t ps xs) ≡ length xs
unfolding marked_by
marked-length fm t [] xs = refl
marked-length fm t (p ∷ ps) xs = marked-length fm t ps (lay (λ (c : Cell). 1) (writes fm t p) xs) ∙ length-lay (λ (c : Cell). 1) (writes fm t p) xs

-- a map has as many places as there are positions
pub map-length : (fm : Form) (t : Tables) (ps : List (Taken Pair)) → length (map_of fm t ps) ≡ total t.areas
unfolding map_of
map-length fm t ps = marked-length fm t ps (replicate (total t.areas) 0) ∙ length-replicate {A = ℕ} (total t.areas) 0

-- ------------------------------------------------------------------ the last writer tells

-- 1 where some pair was found, and else what was there
found-else : (place : ℕ) (a : Option Found) (o : Option Cell) (x : ℕ) → pick (written a) 1 (else_of (λ (c : Cell). 1) o x) ≡ pick (written (first_of a (found_in place o))) 1 x
found-else place (some a) o x = refl
found-else place none none x = refl
found-else place none (some c) x = refl

pub marked-where-written : (fm : Form) (t : Tables) (ps : List (Taken Pair)) (xs : List ℕ) (i : ℕ) → i < length xs
    → get_or (marked_by fm t ps xs) i 0 ≡ pick (written (last_writer fm t ps i)) 1 (get_or xs i 0)
unfolding marked_by last_writer first_writer found_by
marked-where-written fm t [] xs i h = refl
marked-where-written fm t (p ∷ ps) xs i h =
    marked-where-written fm t ps (lay (λ (c : Cell). 1) (writes fm t p) xs) i (rw length-lay h)
    ∙ (ap (λ (x : ℕ). pick (written (last_writer fm t ps i)) 1 x) (get_or-lay (λ (c : Cell). 1) 0 (writes fm t p) xs i (ascends-pair fm t p) h)
    ∙ (found-else p.place (last_writer fm t ps i) (cell_at (writes fm t p) i) (get_or xs i 0)
    ∙ ap (λ (o : Option Found). pick (written o) 1 (get_or xs i 0)) (sym (last_cons fm t p ps i))))

-- ------------------------------------------------------------------ behind the positions nothing changes

lay-walk : (w : Walk) (n entry position : ℕ) (xs ys : List ℕ) → w.start + w.size ≤ length xs → lay (λ (c : Cell). 1) (cells_of w n entry position) (xs ++ ys) ≡ lay (λ (c : Cell). 1) (cells_of w n entry position) xs ++ ys
unfolding cells_of cell_of lay
lay-walk w zero entry position xs ys h = refl
lay-walk w (suc n) entry position xs ys h =
    go (ltb position w.size) refl (eqb (get_or w.work.keeps entry 0) 1) (lay-walk w n (suc entry) (suc position) (set xs (w.start + position) 1) ys (rw length-set h)) (lay-walk w n (suc entry) position xs ys h)
  where
    go : (t : Bool) → ltb position w.size ≡ t → (b : Bool)
        → lay (λ (c : Cell). 1) (cells_of w n (suc entry) (suc position)) (set xs (w.start + position) 1 ++ ys) ≡ lay (λ (c : Cell). 1) (cells_of w n (suc entry) (suc position)) (set xs (w.start + position) 1) ++ ys
        → lay (λ (c : Cell). 1) (cells_of w n (suc entry) position) (xs ++ ys) ≡ lay (λ (c : Cell). 1) (cells_of w n (suc entry) position) xs ++ ys
        → lay (λ (c : Cell). 1) (pick t (pick b (cell_of w entry position ∷ cells_of w n (suc entry) (suc position)) (cells_of w n (suc entry) position)) []) (xs ++ ys)
        ≡ lay (λ (c : Cell). 1) (pick t (pick b (cell_of w entry position ∷ cells_of w n (suc entry) (suc position)) (cells_of w n (suc entry) position)) []) xs ++ ys
    go true e true on off =
        let l = ltb-true position w.size e in
        ap (λ (zs : List ℕ). lay (λ (c : Cell). 1) (cells_of w n (suc entry) (suc position)) zs) (set-append_left xs ys (w.start + position) 1 (omega arith)) ∙ on
    go true e false on off = off
    go false e b on off = refl

lay-in : (fm : Form) (t : Tables) (place : ℕ) (c : Content) (r : Relocation) (o : Option ℕ) (xs ys : List ℕ) → total t.areas ≤ length xs
    → lay (λ (x : Cell). 1) (cells_in fm t place c r o) (xs ++ ys) ≡ lay (λ (x : Cell). 1) (cells_in fm t place c r o) xs ++ ys
unfolding lay walk_of walk_by
lay-in fm t place c r none xs ys h = refl
lay-in fm t place c r (some id) xs ys h =
    lay-walk (walk_of fm t place id c r) (fm.address_length + length c.bytes) 0 c.address xs ys (omega (arith, ends-inside t.areas r.area))

lay-pair : (fm : Form) (t : Tables) (p : Taken Pair) (xs ys : List ℕ) → total t.areas ≤ length xs → lay (λ (x : Cell). 1) (writes fm t p) (xs ++ ys) ≡ lay (λ (x : Cell). 1) (writes fm t p) xs ++ ys
unfolding writes lay
lay-pair fm t p xs ys h = go p.body
  where
    go : (b : Pair) → lay (λ (x : Cell). 1) (cells_by fm t p.place b) (xs ++ ys) ≡ lay (λ (x : Cell). 1) (cells_by fm t p.place b) xs ++ ys
    go skipped = refl
    go (placed c r) = lay-in fm t p.place c r (rank 0 t.areas r.area) xs ys h

pub marked_append : (fm : Form) (t : Tables) (ps : List (Taken Pair)) (xs ys : List ℕ) → total t.areas ≤ length xs → marked_by fm t ps (xs ++ ys) ≡ marked_by fm t ps xs ++ ys
unfolding marked_by
marked_append fm t [] xs ys h = refl
marked_append fm t (p ∷ ps) xs ys h =
    ap (λ (zs : List ℕ). marked_by fm t ps zs) (lay-pair fm t p xs ys h) ∙ marked_append fm t ps (lay (λ (c : Cell). 1) (writes fm t p) xs) ys (rw length-lay h)
