-- Records put into a list one by one: what the list is once the rest is put in too.
-- Assumes nothing.
use Prim.Native.Nat.{ℕ, zero, suc, ◌+◌, ◌<◌, ◌≤◌}
use native.Mathlib.Nat.{zero-add, add-suc, suc-add, not-suc-le-zero, le_of_suc-le-suc}
use mathlib.Core.Path.{◌≡◌, refl, sym, ◌∙◌, ap}
use mathlib.Core.List.{List, [], ◌∷◌, map}
use native.Mathlib.Omega.{arith}
use lib.ListN.{length, set}
use Rattle.format.specs.Fixups as the
use Rattle.laws.specs.Rows.{from, fixup_row, fixups_in}
use Rattle.fixup_rows.specs.Fixups.{told_fixup}
use Rattle.fixup_rows.specs.declared.fixup.Fixup.{Fixup}

-- the first i records as they are, and the others out of their rows, of which the k-th is the first
pub finished : List ℕ → (i k : ℕ) → List Fixup → List the.Fixup
finished rows i k [] = []
finished rows zero k (y ∷ ys) = fixup_row rows k ∷ finished rows zero (suc k) ys
finished rows (suc i) k (y ∷ ys) = told_fixup y ∷ finished rows i (suc k) ys

pub finished-none : (rows : List ℕ) (k : ℕ) (ys : List Fixup) → finished rows 0 k ys ≡ from (fixup_row rows) k (length ys)
unfolding from finished
finished-none rows k [] = refl
finished-none rows k (y ∷ ys) = ap (λ (fs : List the.Fixup). fixup_row rows k ∷ fs) (finished-none rows (suc k) ys)

-- one more record out of its row
pub finished-more : (rows : List ℕ) (i k : ℕ) (ys : List Fixup) (y : Fixup) → i < length ys → told_fixup y ≡ fixup_row rows (i + k) → finished rows (suc i) k (set ys i y) ≡ finished rows i k ys
unfolding finished
finished-more rows i k [] y l e = absurd (not-suc-le-zero l)
finished-more rows zero k (x ∷ ys) y l e = ap (λ (f : the.Fixup). f ∷ finished rows zero (suc k) ys) (e ∙ ap (fixup_row rows) (zero-add k))
finished-more rows (suc i) k (x ∷ ys) y l e =
    ap (λ (fs : List the.Fixup). told_fixup x ∷ fs) (finished-more rows i (suc k) ys y (le_of_suc-le-suc l) (e ∙ ap (fixup_row rows) (suc-add i k ∙ sym (add-suc i k))))

pub finished-all : (rows : List ℕ) (i k : ℕ) (ys : List Fixup) → length ys ≤ i → finished rows i k ys ≡ map told_fixup ys
unfolding finished
finished-all rows i k [] l = refl
finished-all rows zero k (y ∷ ys) l = absurd (not-suc-le-zero l)
finished-all rows (suc i) k (y ∷ ys) l = ap (λ (fs : List the.Fixup). told_fixup y ∷ fs) (finished-all rows i (suc k) ys (le_of_suc-le-suc l))

-- none is put in yet
pub finished-start : (rows : List ℕ) (ys : List Fixup) → finished rows 0 0 ys ≡ fixups_in rows (length ys)
unfolding fixups_in
finished-start rows ys = finished-none rows 0 ys

-- one more is put in
pub finished-next : (rows : List ℕ) (i n : ℕ) (ys : List Fixup) (y : Fixup) → i < length ys → told_fixup y ≡ fixup_row rows i → finished rows i 0 ys ≡ fixups_in rows n
    → finished rows (i + 1) 0 (set ys i y) ≡ fixups_in rows n
finished-next rows i n ys y l e h =
    let s : i + 1 ≡ suc i = omega arith in
    let z : i ≡ i + 0 = omega arith in
    ap (λ (j : ℕ). finished rows j 0 (set ys i y)) s ∙ (finished-more rows i 0 ys y l (e ∙ ap (fixup_row rows) z) ∙ h)

-- all are put in
pub finished-end : (rows : List ℕ) (i n : ℕ) (ys : List Fixup) → length ys ≤ i → finished rows i 0 ys ≡ fixups_in rows n → map told_fixup ys ≡ fixups_in rows n
finished-end rows i n ys l h = sym (finished-all rows i 0 ys l) ∙ h
