-- Fixup rows as numbers: k rows hold k fixups, and the fixups fix every number of the rows.
-- Assumes nothing.
use Prim.Native.Nat.{ℕ, zero, suc, ◌+◌, ◌*◌, ◌≤◌, ◌<◌}
use mathlib.Core.Path.{◌≡◌, refl, sym, ap, ◌∙◌}
use mathlib.Core.List.{List}
use native.Mathlib.Nat.{add-zero}
use native.Mathlib.Omega.{arith}
use lib.ListN.{length, get_or, take, drop, length-drop}
use lib.Seq.{drop-drop, get_or-take, get_or-drop, ext_get_or, length-take-le, take-add}
use Rattle.format.specs.Lists.{flat}
use Rattle.format.specs.Fixups.{Fixup}
use Rattle.format.specs.Rows.{fixup_numbers}
use Rattle.laws.specs.Rows.{from, fixup_from, fixup_row, fixups_in}

pub length_from : {A : Type 0} (g : ℕ → A) (i n : ℕ) → length (from g i n) ≡ n
unfolding from
length_from g i zero = refl
length_from g i (suc n) = ap suc (length_from g (suc i) n)

-- how many fixups k rows hold
pub count-rows : (rows : List ℕ) (k : ℕ) → length (fixups_in rows k) ≡ k
unfolding fixups_in
count-rows rows k = length_from (fixup_row rows) 0 k

nine-at : (xs : List ℕ) (n i : ℕ) → i < 9 → get_or xs (n + i) 0 ≡ get_or (fixup_numbers (fixup_from xs n)) i 0
unfolding fixup_numbers fixup_from
nine-at xs n zero h = rw add-zero
nine-at xs n (suc zero) h = refl
nine-at xs n (suc (suc zero)) h = refl
nine-at xs n (suc (suc (suc zero))) h = refl
nine-at xs n (suc (suc (suc (suc zero)))) h = refl
nine-at xs n (suc (suc (suc (suc (suc zero))))) h = refl
nine-at xs n (suc (suc (suc (suc (suc (suc zero)))))) h = refl
nine-at xs n (suc (suc (suc (suc (suc (suc (suc zero))))))) h = refl
nine-at xs n (suc (suc (suc (suc (suc (suc (suc (suc zero)))))))) h = refl
nine-at xs n (suc (suc (suc (suc (suc (suc (suc (suc (suc i))))))))) h = absurd (omega arith)

pub nine-long : (x : Fixup) → length (fixup_numbers x) ≡ 9
unfolding fixup_numbers
nine-long x = refl

pub nine-is : (xs : List ℕ) (n : ℕ) → n + 9 ≤ length xs → take 9 (drop n xs) ≡ fixup_numbers (fixup_from xs n)
nine-is xs n h =
    let l : length (take 9 (drop n xs)) ≡ 9 = length-take-le 9 (drop n xs) (simp length-drop (omega arith)) in
    ext_get_or 0 (take 9 (drop n xs)) (fixup_numbers (fixup_from xs n)) (l ∙ sym (nine-long (fixup_from xs n)))
    (λ i k. get_or-take 9 (drop n xs) i 0 (omega arith) ∙ (get_or-drop n xs i 0 ∙ nine-at xs n i (omega arith)))

row-numbers : (rows : List ℕ) (i : ℕ) → 9 * i + 9 ≤ length rows → fixup_numbers (fixup_row rows i) ≡ take 9 (drop (9 * i) rows)
unfolding fixup_row
row-numbers rows i h = sym (nine-is rows (9 * i) h)

flat-from : (rows : List ℕ) (i n : ℕ) → 9 * (i + n) ≤ length rows → flat fixup_numbers (from (fixup_row rows) i n) ≡ take (9 * n) (drop (9 * i) rows)
unfolding flat from
flat-from rows i zero h = refl
flat-from rows i (suc n) h =
    let z : 9 * suc n ≡ 9 + 9 * n = omega arith in
    let y : 9 * i + 9 ≡ 9 * suc i = omega arith in
    let here : fixup_numbers (fixup_row rows i) ≡ take 9 (drop (9 * i) rows) = row-numbers rows i (omega arith) in
    rw (z, here, flat-from rows (suc i) n (omega arith)) (sym (take-add 9 (9 * n) (drop (9 * i) rows) ∙ rw (drop-drop, y)))

-- the fixups of k rows fix every number of them
pub rows-numbers : (rows : List ℕ) (k : ℕ) → 9 * k ≤ length rows → flat fixup_numbers (fixups_in rows k) ≡ take (9 * k) rows
unfolding fixups_in
rows-numbers rows k h = let z : 0 + k ≡ k = omega arith in flat-from rows 0 k (rw z h)

-- the decoded rows fix every number of as many rows
pub rows-fixed : (xs ys : List ℕ) (j k : ℕ) → 9 * j ≤ length xs → 9 * k ≤ length ys → fixups_in xs j ≡ fixups_in ys k → (j ≡ k) × (take (9 * j) xs ≡ take (9 * k) ys)
rows-fixed xs ys j k p q e = (
  sym (count-rows xs j) ∙ (ap (λ (l : List Fixup). length l) e ∙ count-rows ys k),
  sym (rows-numbers xs j p) ∙ (ap (λ (l : List Fixup). flat fixup_numbers l) e ∙ rows-numbers ys k q),
)
