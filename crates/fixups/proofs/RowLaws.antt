-- One fixup row more behind k rows.
-- Assumes nothing.
use Prim.Native.Nat.{ℕ, zero, suc, ◌+◌, ◌*◌, ◌≤◌, ◌<◌}
use mathlib.Core.Path.{◌≡◌, refl, sym, ap, ◌∙◌}
use mathlib.Core.List.{List, [], ◌∷◌, ◌++◌, append_assoc}
use native.Mathlib.Nat.{add-zero}
use native.Mathlib.Omega.{arith}
use lib.ListN.{length, get_or, take, drop}
use lib.Seq.{sets, sets-eq, take_at, drop_at, drop-drop, get_or-take, get_or-drop, length-take-le}
use Rattle.laws.specs.Rows.{from, fixup_from, fixup_row, fixups_in}
use Rattle.references.specs.declared.Reference.{Reference}
use Rattle.references.specs.References.{refers}

from-ext : {A : Type 0} (g h : ℕ → A) (i n : ℕ) → ((j : ℕ) → j < i + n → g j ≡ h j) → from g i n ≡ from h i n
unfolding from
from-ext g h i zero e = refl
from-ext g h i (suc n) e = rw (e i (omega arith), from-ext g h (suc i) n (λ j l. e j (omega arith)))

from-snoc : {A : Type 0} (g : ℕ → A) (i n : ℕ) → from g i (suc n) ≡ from g i n ++ g (i + n) ∷ []
unfolding from
from-snoc g i zero = rw add-zero
from-snoc g i (suc n) = let e : i + suc n ≡ suc i + n = omega arith in rw e (ap (◌∷◌ (g i)) (from-snoc g (suc i) n))

below : (xs ys : List ℕ) (n i : ℕ) → take n xs ≡ take n ys → i < n → get_or xs i 0 ≡ get_or ys i 0
below xs ys n i e h = sym (get_or-take n xs i 0 h) ∙ (ap (λ (l : List ℕ). get_or l i 0) e ∙ get_or-take n ys i 0 h)

same_row : (xs ys : List ℕ) (n i : ℕ) → take (9 * n) xs ≡ take (9 * n) ys → i < n → fixup_row xs i ≡ fixup_row ys i
unfolding fixup_row fixup_from
same_row xs ys n i e h =
    rw (
      below xs ys (9 * n) (9 * i) e (omega arith),
      below xs ys (9 * n) (9 * i + 1) e (omega arith),
      below xs ys (9 * n) (9 * i + 2) e (omega arith),
      below xs ys (9 * n) (9 * i + 3) e (omega arith),
      below xs ys (9 * n) (9 * i + 4) e (omega arith),
      below xs ys (9 * n) (9 * i + 5) e (omega arith),
      below xs ys (9 * n) (9 * i + 6) e (omega arith),
      below xs ys (9 * n) (9 * i + 7) e (omega arith),
      below xs ys (9 * n) (9 * i + 8) e (omega arith),
    )

same_rows : (xs ys : List ℕ) (n : ℕ) → take (9 * n) xs ≡ take (9 * n) ys → fixups_in xs n ≡ fixups_in ys n
unfolding fixups_in
same_rows xs ys n e = from-ext (fixup_row xs) (fixup_row ys) 0 n (λ j h. same_row xs ys n j e (omega arith))

-- nine numbers at a place make a row
nine : (xs rest : List ℕ) (n a b c d : ℕ) (t : Reference) (i : ℕ) → drop n xs ≡ a ∷ b ∷ c ∷ d ∷ t.outside ∷ t.what ∷ t.length ∷ t.value ∷ i ∷ rest
    → fixup_from xs n ≡ record { home = a; position = b; size = c; mode = d; refers = refers t; number = i }
unfolding fixup_from
nine xs rest n a b c d t i p =
    let at : (k : ℕ) → get_or xs (n + k) 0 ≡ get_or (a ∷ b ∷ c ∷ d ∷ t.outside ∷ t.what ∷ t.length ∷ t.value ∷ i ∷ rest) k 0 = λ k. sym (get_or-drop n xs k 0) ∙ ap (λ (l : List ℕ). get_or l k 0) p in
    let z : get_or xs n 0 ≡ a = rw add-zero at (at 0) in
    rw (z, at 1, at 2, at 3, at 4, at 5, at 6, at 7, at 8)

module _ (rows : List ℕ) (k a b c d : ℕ) (t : Reference) (i : ℕ) {rows' : List ℕ} (l : 9216 ≤ length rows) (j : k < 1024)
    (p : rows' ≡ sets rows (9 * k) (a ∷ b ∷ c ∷ d ∷ t.outside ∷ t.what ∷ t.length ∷ t.value ∷ i ∷ [])) where
  laid : rows' ≡ take (9 * k) rows ++ ((a ∷ b ∷ c ∷ d ∷ t.outside ∷ t.what ∷ t.length ∷ t.value ∷ i ∷ []) ++ drop (9 * k + 9) rows)
  laid = p ∙ (sets-eq (a ∷ b ∷ c ∷ d ∷ t.outside ∷ t.what ∷ t.length ∷ t.value ∷ i ∷ []) rows (9 * k) (omega arith) ∙ append_assoc (take (9 * k) rows) _ _)

  row_before : take (9 * k) rows' ≡ take (9 * k) rows
  row_before = rw laid (take_at (take (9 * k) rows) _ (9 * k) (length-take-le (9 * k) rows (omega arith)))

  row_here : drop (9 * k) rows' ≡ a ∷ b ∷ c ∷ d ∷ t.outside ∷ t.what ∷ t.length ∷ t.value ∷ i ∷ drop (9 * k + 9) rows
  row_here = rw laid (drop_at (take (9 * k) rows) _ (9 * k) (length-take-le (9 * k) rows (omega arith)))

  row_is : fixup_row rows' k ≡ record { home = a; position = b; size = c; mode = d; refers = refers t; number = i }
  unfolding fixup_row
  row_is = nine rows' (drop (9 * k + 9) rows) (9 * k) a b c d t i row_here

  rows_snoc : fixups_in rows' (suc k) ≡ fixups_in rows' k ++ fixup_row rows' k ∷ []
  unfolding fixups_in
  rows_snoc = let z : 0 + k ≡ k = omega arith in from-snoc (fixup_row rows') 0 k ∙ rw z

  -- one row more
  pub row_made : fixups_in rows' (suc k) ≡ fixups_in rows k ++ record { home = a; position = b; size = c; mode = d; refers = refers t; number = i } ∷ []
  row_made =
      let here : fixup_row rows' k ≡ record { home = a; position = b; size = c; mode = d; refers = refers t; number = i } = row_is in
      rows_snoc ∙ rw (here, same_rows rows' rows k row_before)

  -- and what stands behind it is as it was
  pub row-rest : drop (9 * suc k) rows' ≡ drop (9 * suc k) rows
  row-rest =
      let z : 9 * suc k ≡ 9 * k + 9 = omega arith in
      rw z (sym (drop-drop 9 (9 * k) rows') ∙ ap (λ (l : List ℕ). drop 9 l) row_here)
