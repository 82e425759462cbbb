-- The rows of areas, each with its known bits, decode to the areas.
-- Assumes nothing.
use Prim.Native.Nat.{ℕ, suc, ◌+◌, ◌*◌}
use mathlib.Core.Path.{◌≡◌, refl, ap, sym, ◌∙◌}
use mathlib.Core.List.{List, [], ◌∷◌, ◌++◌, append_assoc}
use mathlib.Core.Option.{Option, none, some}
use native.Mathlib.Omega.{arith}
use lib.ListN.{drop, get_or, length, length-append, take}
use Rattle.format.specs.Known.{ones_of}
use Rattle.format.specs.Rows.{area_columns, area_numbers, area_table, given}
use Rattle.format.specs.Tables.{Area, base, kept_size, or_zero}
use Rattle.laws.specs.Rows.{area_at, from, given_by}
use Rattle.laws.proofs.Decoded.{column, first-column}

given_back : (o : Option ℕ) → given_by (given o) (or_zero o) ≡ o
given_back none = refl
given_back (some n) = refl

-- one row, whatever its known bits are
area-back : (known : ℕ) (pre : List ℕ) (a : Area) (post : List ℕ) (i : ℕ) → length pre ≡ area_columns * i → area_at (pre ++ (area_numbers known a ++ post)) i ≡ a
unfolding area_at area_numbers base
area-back known pre a post i e =
    let ys = area_numbers known a ++ post in
    let c = column pre ys (area_columns * i) e in
    let x : given_by (get_or (pre ++ ys) (area_columns * i + 4) 0) (get_or (pre ++ ys) (area_columns * i + 5) 0) ≡ a.addr = rw (c 4, c 5) (given_back a.addr) in
    λ j. record { name = record { at = first-column pre ys (area_columns * i) e j; length = c 1 j }; size = c 2 j; flags = c 3 j; addr = x j }

row-length : (known : ℕ) (a : Area) → length (area_numbers known a) ≡ area_columns
unfolding area_numbers
row-length known a = refl

-- all rows, behind i others
pub the-table-decodes : (pre : List ℕ) (areas : List Area) (masks post : List ℕ) (i : ℕ) → length pre ≡ area_columns * i → from (area_at (pre ++ (area_table areas masks ++ post))) i (length areas) ≡ areas
unfolding from area_table
the-table-decodes pre [] masks post i e = refl
the-table-decodes pre (a ∷ areas) masks post i e =
    let row = area_numbers (ones_of (take (kept_size a) masks)) a in
    let rest = area_table areas (drop (kept_size a) masks) in
    let s : (row ++ rest) ++ post ≡ row ++ (rest ++ post) = append_assoc row rest post in
    let one : area_at (pre ++ ((row ++ rest) ++ post)) i ≡ a = ap (λ (l : List ℕ). area_at (pre ++ l) i) s ∙ area-back (ones_of (take (kept_size a) masks)) pre a (rest ++ post) i e in
    let b : pre ++ ((row ++ rest) ++ post) ≡ (pre ++ row) ++ (rest ++ post) = ap (λ (l : List ℕ). pre ++ l) s ∙ sym (append_assoc pre row (rest ++ post)) in
    let n : length (pre ++ row) ≡ area_columns * suc i = length-append pre row ∙ omega (arith, row-length (ones_of (take (kept_size a) masks)) a) in
    let more : from (area_at (pre ++ ((row ++ rest) ++ post))) (suc i) (length areas) ≡ areas =
    ap (λ (l : List ℕ). from (area_at l) (suc i) (length areas)) b ∙ the-table-decodes (pre ++ row) areas (drop (kept_size a) masks) post (suc i) n in
    λ j. one j ∷ more j
