-- Laws of `tab` and `over`: an entry, and one more store.
-- Assumes nothing.
use mathlib.Core.Path.{◌≡◌, refl, ◌∙◌, ap, sym}
use mathlib.Core.List.{List, [], ◌∷◌, ◌++◌}
use Prim.Native.Nat.{ℕ, zero, suc, ◌+◌, ◌<◌}
use native.Mathlib.Nat.{add-zero, zero-add, add-suc, suc-add, le_of_suc-le-suc, not-suc-le-zero}
use native.Mathlib.Numerals.{add-one}
use lib.ListN.{length, get_or, set, drop}
use lib.Seq.{drop-cons, set_at, append_snoc}
use Rattle.laws.specs.Tab.{tab, over}

from : (g : ℕ → ℕ) (i n k : ℕ) → k < n → get_or (tab g i n) k 0 ≡ g (i + k)
from g i zero k h = absurd (not-suc-le-zero h)
from g i (suc n) zero h = ap g (sym (add-zero i))
from g i (suc n) (suc k) h = from g (suc i) n k (le_of_suc-le-suc h) ∙ ap g (suc-add i k ∙ sym (add-suc i k))

-- an entry of the table is the function's value at its place
pub entry : (g : ℕ → ℕ) (n k : ℕ) → k < n → get_or (tab g 0 n) k 0 ≡ g k
entry g n k h = from g 0 n k h ∙ ap g (zero-add k)

pub length-tab : (g : ℕ → ℕ) (i n : ℕ) → length (tab g i n) ≡ n
length-tab g i zero = refl
length-tab g i (suc n) = ap suc (length-tab g (suc i) n)

tab-snoc : (g : ℕ → ℕ) (i n : ℕ) → tab g i (suc n) ≡ tab g i n ++ (g (i + n) ∷ [])
tab-snoc g i zero = ap (λ (k : ℕ). g k ∷ []) (sym (add-zero i))
tab-snoc g i (suc n) = ap (◌∷◌ (g i)) (tab-snoc g (suc i) n ∙ ap (λ (k : ℕ). tab g (suc i) n ++ (g k ∷ [])) (suc-add i n ∙ sym (add-suc i n)))

-- one more store, at the next place
pub over-more : (g : ℕ → ℕ) (i : ℕ) (xs : List ℕ) → i < length xs → set (over g i xs) i (g i) ≡ over g (i + 1) xs
over-more g i xs h =
    rw (add-one, drop-cons xs i 0 h)
    (set_at (tab g 0 i) _ _ (g i) i (length-tab g 0 i)
    ∙ sym (append_snoc (tab g 0 i) (g i) (drop (suc i) xs))
    ∙ ap (λ (l : List ℕ). l ++ drop (suc i) xs) (sym (tab-snoc g 0 i ∙ ap (λ (k : ℕ). tab g 0 i ++ (g k ∷ [])) (zero-add i))))

-- a loop's turn: the list so far, one more store of the next value
pub over-step : (g : ℕ → ℕ) (i : ℕ) (xs ys : List ℕ) (w : ℕ) → ys ≡ over g i xs → w ≡ g i → i < length xs → set ys i w ≡ over g (i + 1) xs
over-step g i xs ys w p q h = rw (p, q) (over-more g i xs h)
